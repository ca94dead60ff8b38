use Rattle.stream_cli.specs.Kept.{facts_at, kept_line}
use Rattle.stream_cli.proofs.Puts.{gains_more, side_at, stops_at_one}
use Rattle.stream_cli.proofs.report.put_shown.Goals as goal

pub returns-in-Err : goal.returns-in-Err
returns-in-Err g c =
    let side = side_at g.W.Sink.written g.W.Sink.faults g.W.Sink.puts in
    stops_at_one (λ line. kept_line line (facts_at c.args.contents.now line.address))
    c.args.lines.now c.in-Err.cause c.loop-line.line-index c.line-item.result
    (side c.args.out.now) (side c.loop-line.out) (side c.put_line.new.out)
    c.loop-line-test.true c.line-item.is c.loop-line.invariant
    c.in-Err.ensures

pub loop-line-preserved : goal.loop-line-preserved
loop-line-preserved g c =
    let side = side_at g.W.Sink.written g.W.Sink.faults g.W.Sink.puts in
    gains_more (λ line. kept_line line (facts_at c.args.contents.now line.address))
    c.args.lines.now c.loop-line.line-index c.line-item.result
    (side c.args.out.now) (side c.loop-line.out) (side c.put_line.new.out)
    c.loop-line-test.true c.line-item.is c.loop-line.invariant
    c.in-Ok.ensures
