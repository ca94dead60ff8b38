use Rattle.std.proofs.Common.{◌≡◌, take}
use Rattle.view_notes.specs.Index.{pairs_of}
use Rattle.view_notes.proofs.content_index.name_pairs.Given as goal

-- the pairs of the nodes before this one were added
abbrev pub invariant-loop-user : goal.invariant-loop-user
invariant-loop-user l = l.pairs.items ≡ pairs_of 0 (take l.user l.names.numbers)
