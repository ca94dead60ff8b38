use Rattle.std.proofs.Common.{◌≡◌, length}
use Rattle.source_port.specs.Library.{bytes_at}
use Rattle.source_port.proofs.memory_source.find.Given as goal

abbrev pub invariant-loop-file : goal.invariant-loop-file
invariant-loop-file l = bytes_at l.rest l.address ≡ bytes_at l.files l.address

abbrev pub decreases-loop-file : goal.decreases-loop-file
decreases-loop-file l = length l.rest
