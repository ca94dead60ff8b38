-- Contents that have no entry, one after another.
use Rattle.std.proofs.Common.{◌≡◌, ℕ, suc, ◌-◌, ◌<◌, Bool, false, List, [], ◌∷◌, ◌++◌, length, replicate, ap, sym, ◌∙◌, append_assoc, length-append, arith}
use Rattle.subtree_binary.specs.Availability.{with_absent}

pub one_absent : (count contents : ℕ) (all new : List (List Bool)) (x : List Bool)
    → length all < contents → x ≡ replicate count false → new ≡ all ++ x ∷ []
    → with_absent count contents new ≡ with_absent count contents all
one_absent count contents all new x few is added =
    let none = replicate count false in
    let left = contents - length new in
    let one : length new ≡ suc (length all) =
    ap length added ∙ length-append all (x ∷ []) ∙ omega arith in
    let more : contents - length all ≡ suc left = omega arith in
    ap (λ front. front ++ replicate left none) (added ∙ ap (λ y. all ++ y ∷ []) is)
    ∙ append_assoc all (none ∷ []) (replicate left none)
    ∙ sym (ap (λ n. all ++ replicate n none) more)
