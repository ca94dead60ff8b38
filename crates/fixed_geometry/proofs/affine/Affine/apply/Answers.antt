use Rattle.std.proofs.Common.{ap, sym, ◌∙◌}
use Rattle.fixed_geometry.specs.Maps.{Map, apply}
use Rattle.fixed_geometry.proofs.Shifts.{apply-shifted}
use Rattle.fixed_geometry.proofs.affine.Affine.apply.Goals as goal

pub returns-then-self-clause-value : goal.returns-then-self-clause-value
returns-then-self-clause-value c =
    c.shifted.ensures.value
    ∙ apply-shifted _ c.args.p (sym c.self.invariant.shifts_is ∙ c.if-self.true)
    ∙ ap (λ (m : Map). apply m c.args.p) c.self.view_is
