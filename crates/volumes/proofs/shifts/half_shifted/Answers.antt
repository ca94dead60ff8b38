use Rattle.std.proofs.Common.{arith, ◌≤◌, ℤ, unsigned_abs, subst, sym}
use Rattle.std.proofs.lemmas.Grind.{common_steps}
use Rattle.volumes.proofs.ShiftedSizes.{half_no_larger}
use Rattle.volumes.proofs.shifts.half_shifted.Goals as goal

pub returns-clause-value : goal.returns-clause-value
returns-clause-value c = grind (arith, common_steps)

pub returns-clause-bound : goal.returns-clause-bound
returns-clause-bound c =
    let P : ℤ → Type 0 = λ z. unsigned_abs z ≤ unsigned_abs c.args.n in
    subst P (sym (returns-clause-value c)) (half_no_larger c.args.n c.args.level)
