-- Sixteen numbers, read one after another.
use Rattle.std.proofs.Common.{◌≡◌, ℕ, ℤ, suc, ◌+◌, ◌<◌, List, [], ◌∷◌, ◌++◌, length, drop, get_or, Option, Bor, ap, sym, ◌∙◌, append_assoc, arith}
use Rattle.std.proofs.Math.Seq.{drop-cons}
use Rattle.std.proofs.lemmas.List.{length-map}
use Rattle.std.proofs.Math.ListN.{get_or-map}
use Rattle.fixed_geometry.specs.Sixteen.{read_at}
use Rattle.json_decimal.specs.Named.{plain}
use Rattle.tileset_schema.specs.Numbers.{read_from}

-- the numbers so far with one more, and those of the rest
pub one_more : (front new : List (Option ℤ)) (all : List (Bor (List ℕ))) (i : ℕ)
    (d : Bor (List ℕ))
    → i < length all → length front ≡ i
    → new ≡ front ++ read_at (length front) (get_or all i d).now ∷ []
    → new ++ read_from (i + 1) (drop (i + 1) (plain all)) ≡ front ++ read_from i
    (drop i (plain all))
one_more front new all i d within count added =
    ap (λ ns. ns ++ read_from (i + 1) (drop (i + 1) (plain all)))
    (added ∙ ap (λ k. front ++ read_at k (get_or all i d).now ∷ []) count)
    ∙ append_assoc front (read_at i (get_or all i d).now ∷ []) _
    ∙ ap (λ k. front ++ read_at i (get_or all i d).now ∷ read_from (i + 1) (drop k (plain all)))
    next
    ∙ ap (λ ss. front ++ read_from i ss) (sym opened)
  where
    next : i + 1 ≡ suc i
    next = omega arith

    opened : drop i (plain all) ≡ (get_or all i d).now ∷ drop (suc i) (plain all)
    opened = drop-cons (plain all) i d.now
        (rw (length-map all (λ (s : Bor (List ℕ)). s.now)) within)
        ∙ ap (λ s. s ∷ drop (suc i) (plain all))
        (get_or-map (λ (s : Bor (List ℕ)). s.now) all i d)
