-- Keys of entries.
use Rattle.std.proofs.Common.{◌≡◌, Bool, true, false, Some, None, List, [], ◌∷◌, map, cond, ◌||◌}
use Rattle.std.proofs.Common.{refl}
use Rattle.std.specs.Option.{is_some}
use Rattle.std.specs.List.{list_any}
use Rattle.std.specs.Map.{lookup}

-- a key is there where a value is found
pub any_key : {K V : Type 0} (test : K → Bool) (entries : List (K × V))
    → is_some (lookup test entries) ≡ list_any test (map (λ entry. entry.0) entries)
any_key test [] = refl
any_key test (entry ∷ entries) =
    elim (test entry.0) as (λ b.
    is_some (cond b (Some entry.1) (lookup test entries))
    ≡ (b || list_any test (map (λ entry. entry.0) entries))) [
      | true ↦ refl
      | false ↦ any_key test entries
    ]

-- where no key is the same, no value is found
pub no_key_found : {K V : Type 0} (test : K → Bool) (entries : List (K × V))
    → list_any test (map (λ entry. entry.0) entries) ≡ false → lookup test entries ≡ None
no_key_found test [] e = refl
no_key_found test (entry ∷ entries) e =
    elim (test entry.0) as (λ b. (b || list_any test (map (λ entry. entry.0) entries)) ≡ false
    → cond b (Some entry.1) (lookup test entries) ≡ None) [
      | true ↦ λ h. cc
      | false ↦ λ h. no_key_found test entries h
    ] e
