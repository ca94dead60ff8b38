use Rattle.std.proofs.Common.{arith, sym}
use Rattle.volumes.proofs.RootBounds.{root_of_first, root_of_second, root_of_third}
use Rattle.volumes.proofs.distance.root_of_gaps.Goals as goal

pub returns-then-c-eq0-clause-value : goal.returns-then-c-eq0-clause-value
returns-then-c-eq0-clause-value c = sym
    (root_of_first c.args.a c.args.b c.args.c (omega arith) (omega arith))

pub returns-then-c-eq0-2-clause-value : goal.returns-then-c-eq0-2-clause-value
returns-then-c-eq0-2-clause-value c = sym
    (root_of_second c.args.a c.args.b c.args.c (omega arith) (omega arith))

pub returns-then-b-eq0-2-clause-value : goal.returns-then-b-eq0-2-clause-value
returns-then-b-eq0-2-clause-value c = sym
    (root_of_third c.args.a c.args.b c.args.c (omega arith) (omega arith))
