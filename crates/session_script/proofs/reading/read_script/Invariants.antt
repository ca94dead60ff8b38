use Rattle.std.proofs.Common.{◌≡◌, ◌+◌, ◌≤◌, length}
use Rattle.std.specs.Str.Lines.{lines}
use Rattle.session_script.specs.Reading.{later, script_behind}
use Rattle.session_script.specs.Scripts.{script_of_lines}
use Rattle.session_script.proofs.reading.read_script.Given as goal

abbrev pub invariant-loop-rest : goal.invariant-loop-rest
invariant-loop-rest l = record {
  counted : l.number + length l.rest ≤ length l.bytes;
  behind : script_of_lines (lines l.bytes)
      ≡ later l.number (script_behind l.read.lines (lines l.rest));
}

abbrev pub decreases-loop-rest : goal.decreases-loop-rest
decreases-loop-rest l = length l.rest
