use Rattle.std.proofs.Common.{◌≡◌, ◌≤◌, length, take}
use Rattle.stream_cli.specs.Kept.{lines_there}
use Rattle.stream_cli.proofs.report.count_there.Given as goal

-- how many of the lines so far have a content that is there
abbrev pub invariant-loop-line : goal.invariant-loop-line
invariant-loop-line l = record {
  counted : l.count ≡ length (lines_there l.contents (take l.line-index l.lines));
  within : l.count ≤ l.line-index;
}
