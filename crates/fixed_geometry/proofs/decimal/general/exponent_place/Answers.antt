use Rattle.std.proofs.Common.{arith, sym, length}
use Rattle.std.proofs.lemmas.List.Sums.{position_or_len_is}
use Rattle.fixed_geometry.specs.Decimal.{is_exponent_mark}
use Rattle.fixed_geometry.proofs.decimal.general.exponent_place.Goals as goal

pub returns-then-is_mark-clause-place : goal.returns-then-is_mark-clause-place
returns-then-is_mark-clause-place c =
    sym (position_or_len_is is_exponent_mark c.args.text.now c.loop-i.i 0 (omega arith)
    c.loop-i.invariant (λ _. cc))

pub returns-clause-place : goal.returns-clause-place
returns-clause-place c =
    sym (position_or_len_is is_exponent_mark c.args.text.now (length c.args.text.now) 0
    (omega arith) (λ k h. c.loop-i.invariant k (omega arith)) (λ h. absurd (omega arith)))
