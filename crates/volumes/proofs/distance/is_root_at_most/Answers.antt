use Rattle.std.proofs.Common.{arith, ◌≡◌, ◌∙◌, ◌+◌, ◌<◌, ◌^◌, ap}
use Rattle.std.proofs.lemmas.Bool.Decides.{nat_tests}
use Rattle.volumes.specs.Distances.{squared}
use Rattle.volumes.proofs.RootBounds.{root_fits, square_test}
use Rattle.volumes.proofs.distance.is_root_at_most.Goals as goal

pub returns-in-Some : goal.returns-in-Some
returns-in-Some c =
    let next : c.in-Some.next ≡ c.args.bound + 1 = c.in-Some.ensures.1 in
    let square : c.squared.result ≡ squared (c.args.bound + 1) =
    c.squared.ensures ∙ ap squared next in
    rw square (square_test c.args.n c.args.bound)

pub returns-in-None : goal.returns-in-None
returns-in-None c =
    let full : c.args.bound + 1 < 2 ^ 64 → ⊥ = c.in-None.ensures in
    let root = root_fits c.args.n c.ranges.n.fits in
    grind (arith, nat_tests)
