use Rattle.std.proofs.Common.{◌≡◌, ◌++◌, length, map}
use Rattle.subtree_write.specs.Texts.{further, view_text}
use Rattle.subtree_write.proofs.texts.push_further.Given as goal

abbrev pub invariant-loop-view : goal.invariant-loop-view
invariant-loop-view l = l.json.items ++ further (map view_text l.rest)
    ≡ l.initial.json.items ++ further (map view_text l.views)

abbrev pub decreases-loop-view : goal.decreases-loop-view
decreases-loop-view l = length l.rest
