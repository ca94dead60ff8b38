use Rattle.std.proofs.Common.{rules, ◌≤◌, ℤ, unsigned_abs, subst, sym}
use Rattle.volumes.proofs.ShiftedSizes.{up_no_larger}
use Rattle.volumes.proofs.shifts.up_shifted.Goals as goal

pub returns-clause-value : goal.returns-clause-value
returns-clause-value c = search rules

pub returns-clause-bound : goal.returns-clause-bound
returns-clause-bound c =
    let P : ℤ → Type 0 = λ z. unsigned_abs z ≤ unsigned_abs c.args.n in
    subst P (sym (returns-clause-value c)) (up_no_larger c.args.n c.args.level)
