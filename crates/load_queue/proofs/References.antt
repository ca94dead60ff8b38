-- Keys that are looked for by references to them, one after another.
use Rattle.std.specs.Prelude.{if◌then◌else◌}
use Rattle.std.proofs.Common.{ℕ, ◌≡◌, ◌+◌, ◌<◌, Bool, true, false, not, List, [], ◌∷◌, ◌++◌, ◌||◌}
use Rattle.std.proofs.Common.{length, map, take, get_or, sym, refl, ◌∙◌, ap, subst, Bor}
use Rattle.std.specs.List.{IsDistinct, list_any}
use Rattle.std.proofs.lemmas.List.{map-append}
use Rattle.indexmap.specs.IndexSet.{insert_key}
use Rattle.tile_types.specs.declared.key.Key.{Key}
use Rattle.tile_types.specs.contracts.key.KeyPartialEq.TheImpl.{eq-value}
use Rattle.tile_types.specs.Keys.{same_key}
use Rattle.load_queue.proofs.Keys.{looked_on, looked_twice, not_added, was_added}

abbrev pub same_referred : Bor Key → Bor Key → Bool
same_referred a b = eq-value.it a.now b.now

abbrev pub keys_at : List (Bor Key) → List Key
keys_at refs = map (λ r. r.now) refs

any_referred : (key : Key) (refs : List (Bor Key))
    → list_any (λ r. eq-value.it key r.now) refs ≡ list_any (eq-value.it key) (keys_at refs)
any_referred key [] = refl
any_referred key (r ∷ refs) = ap (λ b. eq-value.it key r.now || b) (any_referred key refs)

pushed_at : (refs : List (Bor Key)) (r : Bor Key) (b : Bool)
    → keys_at (if b then refs else refs ++ r ∷ [])
    ≡ (if b then keys_at refs else keys_at refs ++ r.now ∷ [])
pushed_at refs r true = refl
pushed_at refs r false = map-append (λ r. r.now) refs (r ∷ [])

inserted_at : (refs : List (Bor Key)) (r : Bor Key)
    → keys_at (insert_key same_referred refs r) ≡ insert_key eq-value.it (keys_at refs) r.now
inserted_at refs r =
    pushed_at refs r (list_any (same_referred r) refs)
    ∙ ap (λ b. if b then keys_at refs else keys_at refs ++ r.now ∷ []) (any_referred r.now refs)

-- a key that isn't among the distinct ones before it
pub referred_on : (ks : List Key) (i : ℕ) (d : Key) (seen after : List (Bor Key)) (r : Bor Key)
    (added : Bool) → i < length ks → keys_at seen ≡ take i ks → IsDistinct same_key (keys_at seen)
    → r.now ≡ get_or ks i d → added ≡ not (list_any (same_referred r) seen) → added ≡ true
    → after ≡ insert_key same_referred seen r
    → (keys_at after ≡ take (i + 1) ks) × IsDistinct same_key (keys_at after)
referred_on ks i d seen after r added within are apart is found new last =
    let inserted : keys_at after ≡ insert_key eq-value.it (keys_at seen) r.now =
    ap keys_at last ∙ inserted_at seen r in
    let both =
    looked_on ks i d (keys_at seen) r.now within are apart is
    (sym (any_referred r.now seen) ∙ was_added added (list_any (same_referred r) seen) found new) in
    (inserted ∙ both.0, subst (IsDistinct same_key) (sym inserted) both.1)

-- a key that is among those before it
pub referred_twice : (ks : List Key) (i : ℕ) (d : Key) (seen : List (Bor Key)) (key : Key)
    (added : Bool) → i < length ks → keys_at seen ≡ take i ks → key ≡ get_or ks i d
    → added ≡ not (list_any (λ r. eq-value.it key r.now) seen) → added ≡ false
    → IsDistinct same_key ks → ⊥
referred_twice ks i d seen key added within are is found again apart =
    looked_twice ks i d (keys_at seen) key within are is
    (sym (any_referred key seen)
    ∙ not_added added (list_any (λ r. eq-value.it key r.now) seen) found again)
    apart
