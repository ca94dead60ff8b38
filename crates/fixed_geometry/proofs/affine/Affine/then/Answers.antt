use Rattle.std.proofs.Common.{ap, ap₂, sym, ◌∙◌}
use Rattle.fixed_geometry.specs.Maps.{Map, after, apply}
use Rattle.fixed_geometry.specs.declared.point.Point.{Point}
use Rattle.fixed_geometry.proofs.Shifts.{after-shifted}
use Rattle.fixed_geometry.proofs.affine.Affine.then.Goals as goal

pub returns-then-self : goal.returns-then-self
returns-then-self c =
    let map : Map = record {
      x = c.self.inside.x;
      y = c.self.inside.y;
      z = c.self.inside.z;
      shift =
          c.self.inside.shift;
    } in
    let own : Map = record {
      x = c.own.inside.x;
      y = c.own.inside.y;
      z = c.own.inside.z;
      shift =
          c.own.inside.shift;
    } in
    let shift = c.apply-shift.ensures.value
    ∙ ap (λ (m : Map). apply m c.own.inside.shift) (sym c.self.view_is) in
    ap (λ (s : Point). record { x = own.x; y = own.y; z = own.z; shift = s }) shift
    ∙ after-shifted map own (sym c.self.invariant.shifts_is ∙ c.if-self.true)
    c.own.invariant.bounded
    ∙ ap₂ (λ (m n : Map). after m n) c.self.view_is c.own.view_is
