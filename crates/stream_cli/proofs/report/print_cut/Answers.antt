use Rattle.std.proofs.Common.{◌≡◌, length, rules}
use Rattle.stream_cli.specs.Kept.{kept_lines, lines_there}
use Rattle.stream_cli.specs.Report.{count_line}
use Rattle.stream_cli.proofs.Puts.{side_at, stops_first, then_others}
use Rattle.stream_cli.proofs.report.print_cut.Goals as goal

pub returns-in-Ok-put : goal.returns-in-Ok-put
returns-in-Ok-put g c =
    let side = side_at g.W.Sink.written g.W.Sink.faults g.W.Sink.puts in
    let lines = c.args.lines.now in
    let kept = c.args.contents.now in
    let first : c.as_bytes.result.now ≡ count_line (length (lines_there kept lines)) =
    search rules in
    then_others c.put_shown.result (count_line (length (lines_there kept lines)))
    (kept_lines kept lines) (side c.args.out.now) (side c.put.new.self)
    (side c.put_shown.new.out) (rw first at c.in-Ok-put.ensures.written)
    c.in-Ok-put.ensures.faults c.in-Ok-put.ensures.puts c.put_shown.ensures

pub returns : goal.returns
returns g c =
    let side = side_at g.W.Sink.written g.W.Sink.faults g.W.Sink.puts in
    let lines = c.args.lines.now in
    let kept = c.args.contents.now in
    let first : c.as_bytes.result.now ≡ count_line (length (lines_there kept lines)) =
    search rules in
    stops_first c.in-Err.cause (count_line (length (lines_there kept lines)))
    (kept_lines kept lines) (side c.args.out.now) (side c.put.new.self)
    (rw first at c.in-Err.ensures.written) c.in-Err.ensures.faults
