-- Prefixes that are the whole.
use Rattle.std.proofs.Common.{◌≡◌, ℕ, ◌<◌, List, [], ◌++◌, length, take, Option, None, Some}
use Rattle.std.proofs.Common.{IfSome, option_map, ap, ◌∙◌, arith}
use Rattle.std.proofs.lemmas.List.{length-take, take_all}

-- a prefix that is shorter than it may be is the whole
pub whole_prefix : (known : Option (List ℕ)) (old front : List ℕ) (n : ℕ) → old ≡ [] → length front < n
    → IfSome (option_map (take n) known) (λ xs. front ≡ old ++ xs) → IfSome known (λ left. front ≡ left)
whole_prefix None old front n empty h e = tt
whole_prefix (Some left) old front n empty h e =
    let same : front ≡ take n left = e ∙ ap (λ (ys : List ℕ). ys ++ take n left) empty in
    same ∙ take_all n left (omega (arith, h, ap length same, length-take n left))
