use Rattle.std.proofs.Common.{arith, sym, length}
use Rattle.std.proofs.lemmas.List.Sums.{position_or_len_is}
use Rattle.fixed_geometry.specs.Decimal.{is_point}
use Rattle.fixed_geometry.proofs.decimal.general.point_place.Goals as goal

pub returns-then-byte-eq46-clause-place : goal.returns-then-byte-eq46-clause-place
returns-then-byte-eq46-clause-place c =
    sym (position_or_len_is is_point c.args.mantissa.now c.loop-i.i 0 (omega arith)
    c.loop-i.invariant (λ _. rw c.if-byte-eq46.true))

pub returns-clause-place : goal.returns-clause-place
returns-clause-place c =
    sym (position_or_len_is is_point c.args.mantissa.now (length c.args.mantissa.now) 0
    (omega arith) (λ k h. c.loop-i.invariant k (omega arith)) (λ h. absurd (omega arith)))
