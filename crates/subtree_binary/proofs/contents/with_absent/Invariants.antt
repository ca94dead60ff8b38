use Rattle.std.proofs.Common.{◌≡◌, ◌-◌, length}
use Rattle.subtree_binary.specs.Availability as spec
use Rattle.subtree_binary.proofs.contents.with_absent.Given as goal

abbrev pub invariant-loop-all : goal.invariant-loop-all
invariant-loop-all l = spec.with_absent l.count l.contents l.all.items
    ≡ spec.with_absent l.count l.contents l.initial.all.items

abbrev pub decreases-loop-all : goal.decreases-loop-all
decreases-loop-all l = l.contents - length l.all.items
