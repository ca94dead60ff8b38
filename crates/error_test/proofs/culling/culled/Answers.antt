use Rattle.std.proofs.Common.{arith, ◌≡◌, List, false, sym, subst}
use Rattle.std.specs.List.{list_any}
use Rattle.std.specs.Prelude.{All}
use Rattle.std.proofs.lemmas.List.Folds.{list_any_none}
use Rattle.volumes.specs.declared.plane.Plane.{Plane}
use Rattle.volumes.specs.Limits.{IsPlaneInRange}
use Rattle.volumes.specs.Planes.{outside}
use Rattle.error_test.proofs.culling.culled.Goals as goal

pub outside-requires-clause-plane : goal.outside-requires-clause-plane
outside-requires-clause-plane c =
    let P : List Plane → Type 0 = λ planes. All IsPlaneInRange planes in
    let all = subst P (sym c.planes-plane-items.ensures.value)
    c.planes-plane-items.ensures.within.planes in
    all c.loop-plane.plane-index _ (omega arith)

pub returns : goal.returns
returns c =
    let none = list_any_none (λ p. outside c.args.volume.now p) c.planes-plane-items.result.now
    (λ k d h. c.loop-plane.invariant k d (omega arith)) in
    let P : List Plane → Type 0 = λ planes. false
    ≡ list_any (λ p. outside c.args.volume.now p) planes in
    record { value = subst P c.planes-plane-items.ensures.value (sym none) }
