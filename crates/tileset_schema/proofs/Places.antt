-- The elements of a list by their places.
use Rattle.std.proofs.Common.{◌≡◌, ℕ, zero, suc, ◌+◌, List, [], ◌∷◌, length, drop, get_or, Bor, ap, sym, ◌∙◌, arith}
use Rattle.std.proofs.Math.Seq.{drop-cons}
use Rattle.std.proofs.lemmas.List.{drop_all}
use Rattle.json_decimal.specs.Named.{plain}
use Rattle.tileset_schema.specs.Numbers.{point, box_of}
use Rattle.tileset_schema.specs.Points.{box_by}

-- so many elements from this place on
abbrev by_places : {A : Type 0} → List A → A → ℕ → ℕ → List A
by_places xs d from zero = []
by_places xs d from (suc count) = get_or xs from d ∷ by_places xs d (from + 1) count

by_places-are : {A : Type 0} (xs : List A) (d : A) (count from : ℕ) → length xs ≡ from + count
    → by_places xs d from count ≡ drop from xs
by_places-are xs d zero from h = sym (drop_all from xs (omega (arith, h)))
by_places-are xs d (suc count) from h =
    let next : from + 1 ≡ suc from = omega arith in
    ap (λ ys. get_or xs from d ∷ ys)
    (by_places-are xs d count (from + 1) (omega (arith, h)) ∙ ap (λ k. drop k xs) next)
    ∙ sym (drop-cons xs from d (omega (arith, h)))

-- a box by its points, and by its twelve numbers
pub box_at : (ns : List (Bor (List ℕ))) (d : Bor (List ℕ)) → length ns ≡ 12
    → box_by (point (get_or ns 0 d).now (get_or ns 1 d).now (get_or ns 2 d).now)
    (point (get_or ns 3 d).now (get_or ns 4 d).now (get_or ns 5 d).now)
    (point (get_or ns 6 d).now (get_or ns 7 d).now (get_or ns 8 d).now)
    (point (get_or ns 9 d).now (get_or ns 10 d).now (get_or ns 11 d).now)
    ≡ box_of (plain ns)
box_at ns d h = ap (λ xs. box_of (plain xs)) (by_places-are ns d 12 0 h)
