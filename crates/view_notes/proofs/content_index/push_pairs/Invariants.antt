use Rattle.std.proofs.Common.{◌≡◌, ◌++◌, map, take}
use Rattle.view_notes.specs.Index.{pair_of}
use Rattle.view_notes.proofs.content_index.push_pairs.Given as goal

-- the pairs of the numbers before this one were added
abbrev pub invariant-loop-content : goal.invariant-loop-content
invariant-loop-content l =
    l.pairs.items ≡ l.fn.pairs.items ++ map (pair_of l.user) (take l.content-index l.numbers)
