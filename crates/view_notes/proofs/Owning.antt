-- A node's own contents are counted.
use Rattle.std.proofs.Common.{ℕ, ◌≡◌, ◌+◌, ◌++◌, true, false, not, cond, Some, List, [], ◌∷◌, length, take, ◌∙◌, ap, arith, length-append}
use Rattle.std.specs.List.{filter, slice_get}
use Rattle.std.proofs.lemmas.List.Elements.{filter-append}
use Rattle.cut_core.specs.Cut.{Holdings}
use Rattle.cut_core.proofs.Lists.{filter_taken}
use Rattle.cut_core.proofs.Owns.{present}
use Rattle.view_notes.proofs.Counting.{count_no, count_yes}

module _ (h : Holdings) (xs : List (List ℕ)) (i : ℕ) (a : List ℕ)
    (at : slice_get xs i ≡ Some a) (there : h.absent a ≡ false) where
  more : present h (take (i + 1) xs) ≡ present h (take i xs) ++ a ∷ []
  more = filter_taken (λ x. not (h.absent x)) xs i a at
      ∙ ap (λ b. present h (take i xs) ++ cond (not b) (a ∷ []) []) there

  pub own_more : length (present h (take (i + 1) xs)) ≡ length (present h (take i xs)) + 1
  own_more = ap length more ∙ length-append (present h (take i xs)) (a ∷ [])

  rest : length (filter h.resident (present h (take (i + 1) xs)))
      ≡ length (filter h.resident (present h (take i xs))) + length (filter h.resident (a ∷ []))
  rest = ap (λ ys. length (filter h.resident ys)) more
      ∙ ap length (filter-append h.resident (present h (take i xs)) (a ∷ []))
      ∙ length-append (filter h.resident (present h (take i xs))) (filter h.resident (a ∷ []))

  pub resident_more : h.resident a ≡ true
      → length (filter h.resident (present h (take (i + 1) xs)))
      ≡ length (filter h.resident (present h (take i xs))) + 1
  resident_more r = omega (arith, rest, count_yes h.resident a [] r)

  pub resident_same : h.resident a ≡ false
      → length (filter h.resident (present h (take (i + 1) xs)))
      ≡ length (filter h.resident (present h (take i xs)))
  resident_same r = omega (arith, rest, count_no h.resident a [] r)
