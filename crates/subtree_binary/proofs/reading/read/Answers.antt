use Rattle.std.proofs.Common.{arith}
use Rattle.subtree_binary.proofs.Counted.{counted_in}
use Rattle.subtree_binary.proofs.reading.read.Goals as goal

pub new-requires : goal.new-requires
new-requires c =
    let counts = counted_in c.args.octree c.args.levels c.args.contents c.in_ok-chunks.chunks _
    c.in_ok-bits.ensures in
    omega (arith, counts.contents)

pub returns-clause-counts : goal.returns-clause-counts
returns-clause-counts c = rw c.new.ensures
    (counted_in c.args.octree c.args.levels c.args.contents c.in_ok-chunks.chunks _
    c.in_ok-bits.ensures)
