use Rattle.std.proofs.Common.{◌≡◌, take}
use Rattle.source_port.proofs.memory_source.copy_files.Given as goal

abbrev pub invariant-loop-file : goal.invariant-loop-file
invariant-loop-file l = l.copies ≡ take l.file-index l.file-items
