use Rattle.std.proofs.Common.{take}
use Rattle.stream_cli.specs.Printing.{GainsLines}
use Rattle.stream_cli.specs.Sides.{out_run}
use Rattle.stream_cli.proofs.metadata.put_lines.Given as goal

-- the lines so far were put
abbrev pub invariant-loop-i : goal.invariant-loop-i
invariant-loop-i g l =
    GainsLines (out_run g.W.Sink.written g.W.Sink.faults g.W.Sink.puts l.initial.out l.out)
    (take l.i l.lines.lines)
