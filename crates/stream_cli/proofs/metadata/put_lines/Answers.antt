use Rattle.std.proofs.Common.{◌≡◌, arith, get_or, refl, rules, ◌∷◌, []}
use Rattle.source_port.specs.declared.sink.PutError.TheVariants.{OutOfMemory}
use Rattle.stream_cli.proofs.Puts.{line_more, line_stops, nothing_put, one_put, side_at, stops_first}
use Rattle.stream_cli.proofs.metadata.put_lines.Goals as goal

pub returns-then-is_err : goal.returns-then-is_err
returns-then-is_err g c =
    let side = side_at g.W.Sink.written g.W.Sink.faults g.W.Sink.puts in
    let lines = c.args.lines.now.lines in
    let line = get_or lines c.loop-i.i [] in
    line_stops lines OutOfMemory c.loop-i.i line (side c.args.out.now) (side c.loop-i.out)
    (side c.loop-i.out) (omega (arith, c.loop-i-test.true, c.len-i-end.ensures)) refl
    c.loop-i.invariant (nothing_put (line ∷ []) (side c.loop-i.out))

pub returns-in-Err : goal.returns-in-Err
returns-in-Err g c =
    let side = side_at g.W.Sink.written g.W.Sink.faults g.W.Sink.puts in
    let lines = c.args.lines.now.lines in
    let line = c.as_slice.result.now in
    let at : line ≡ get_or lines c.loop-i.i [] = search rules in
    line_stops lines c.in-Err.cause c.loop-i.i line (side c.args.out.now) (side c.loop-i.out)
    (side c.put.new.self) (omega (arith, c.loop-i-test.true, c.len-i-end.ensures)) at
    c.loop-i.invariant
    (stops_first c.in-Err.cause line [] (side c.loop-i.out) (side c.put.new.self)
    c.in-Err.ensures.written c.in-Err.ensures.faults)

pub loop-i-preserved : goal.loop-i-preserved
loop-i-preserved g c =
    let side = side_at g.W.Sink.written g.W.Sink.faults g.W.Sink.puts in
    let lines = c.args.lines.now.lines in
    let line = c.as_slice.result.now in
    let at : line ≡ get_or lines c.loop-i.i [] = search rules in
    line_more lines c.loop-i.i line (side c.args.out.now) (side c.loop-i.out)
    (side c.put.new.self) (omega (arith, c.loop-i-test.true, c.len-i-end.ensures)) at
    c.loop-i.invariant
    (one_put line (side c.loop-i.out) (side c.put.new.self) c.in-Ok.ensures.written
    c.in-Ok.ensures.faults c.in-Ok.ensures.puts)
