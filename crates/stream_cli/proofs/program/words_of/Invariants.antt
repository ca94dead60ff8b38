use Rattle.std.proofs.Common.{◌≡◌, map, take, string_bytes}
use Rattle.words_table.specs.Commands.{texts}
use Rattle.stream_cli.proofs.program.words_of.Given as goal

-- the words so far
abbrev pub invariant-loop-word : goal.invariant-loop-word
invariant-loop-word l = texts l.words.items ≡ map string_bytes (take l.word-index l.behind)
