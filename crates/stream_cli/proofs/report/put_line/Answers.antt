use Rattle.std.proofs.Common.{◌≡◌, ◌∙◌, Some, ap, option_map, rules, subst, sym}
use Rattle.frame_text.specs.Lines.{show_line}
use Rattle.stream_cli.specs.Kept.{facts_at, kept_line}
use Rattle.stream_cli.specs.Printing.{GainsLines}
use Rattle.stream_cli.proofs.Puts.{between, one_put, side_at}
use Rattle.stream_cli.proofs.report.put_line.Goals as goal

pub returns-in-Ok : goal.returns-in-Ok
returns-in-Ok g c =
    let side = side_at g.W.Sink.written g.W.Sink.faults g.W.Sink.puts in
    let line = c.args.line.now in
    let facts = c.in-Some.facts.now in
    let there : facts_at c.args.contents.now line.address ≡ Some facts =
    sym c.facts_near.ensures ∙ ap (option_map (λ it. it.now)) c.in-Some.is in
    let text : c.as_bytes.result.now ≡ show_line line.tile line.address facts.length facts.digest =
    search rules in
    subst (λ it. GainsLines (between (side c.args.out.now) (side c.put.new.self)) (kept_line line it))
    (sym there)
    (one_put (show_line line.tile line.address facts.length facts.digest) (side c.args.out.now)
    (side c.put.new.self) (rw text at c.in-Ok.ensures.written) c.in-Ok.ensures.faults
    c.in-Ok.ensures.puts)
