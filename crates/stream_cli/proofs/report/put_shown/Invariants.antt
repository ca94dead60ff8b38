use Rattle.std.proofs.Common.{take}
use Rattle.stream_cli.specs.Kept.{kept_lines}
use Rattle.stream_cli.specs.Printing.{GainsLines}
use Rattle.stream_cli.specs.Sides.{out_run}
use Rattle.stream_cli.proofs.report.put_shown.Given as goal

-- the lines so far were put
abbrev pub invariant-loop-line : goal.invariant-loop-line
invariant-loop-line g l =
    GainsLines (out_run g.W.Sink.written g.W.Sink.faults g.W.Sink.puts l.initial.out l.out)
    (kept_lines l.contents (take l.line-index l.lines))
