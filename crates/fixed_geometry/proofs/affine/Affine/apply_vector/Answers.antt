use Rattle.std.proofs.Common.{ap, sym, ◌∙◌}
use Rattle.fixed_geometry.specs.Maps.{Map, apply_vector}
use Rattle.fixed_geometry.proofs.Shifts.{apply_vector-shifted}
use Rattle.fixed_geometry.proofs.affine.Affine.apply_vector.Goals as goal

pub returns-then-self-clause-value : goal.returns-then-self-clause-value
returns-then-self-clause-value c =
    apply_vector-shifted (record {
      x = c.self.inside.x;
      y = c.self.inside.y;
      z = c.self.inside.z;
      shift = c.self.inside.shift;
    }) c.args.v (sym c.self.invariant.shifts_is ∙ c.if-self.true)
    c.requires
    ∙ ap (λ (m : Map). apply_vector m c.args.v) c.self.view_is
