use Rattle.std.proofs.Common.{◌≡◌, ◌∙◌, rules, sym, ap, arith}
use Rattle.std.proofs.lemmas.Option.{get_or_from_slice_get}
use Rattle.source_port.specs.Counts.{next_count}
use Rattle.expanded_tree.specs.Tree.{addresses_of}
use Rattle.plain_tree.specs.Standing.{standing_of}
use Rattle.cut_core.proofs.Lists.{flat_taken}
use Rattle.stream_cli.specs.Listing.{content_line}
use Rattle.stream_cli.proofs.Prefixes.{appends_both}
use Rattle.stream_cli.proofs.Puts.{counts_on, puts_all, side_at, stops_at, stops_before}
use Rattle.stream_cli.proofs.listing.put_contents.Goals as goal

pub returns-then-is_err : goal.returns-then-is_err
returns-then-is_err g c =
    let addresses = addresses_of ((standing_of c.args.tree.now).node_tree c.args.node) in (
      c.loop-i.invariant.unfailed,
      stops_before (content_line c.args.name.now) addresses c.loop-i.i _ _ c.loop-i.invariant.put,
    )

pub returns-in-Err : goal.returns-in-Err
returns-in-Err g c =
    let side = side_at g.W.Sink.written g.W.Sink.faults g.W.Sink.puts in
    let print = content_line c.args.name.now in
    let addresses = addresses_of ((standing_of c.args.tree.now).node_tree c.args.node) in
    let address = c.content.result.now in
    let line : c.as_slice.result.now ≡ print address = search rules in
    stops_at print addresses c.in-Err.cause c.loop-i.i address (side c.args.out.now)
    (side c.loop-i.out) (side c.put.new.self)
    (omega (arith, c.loop-i-test.true, c.content_count-i-end.ensures))
    (sym (get_or_from_slice_get addresses c.loop-i.i address address c.content.ensures))
    c.loop-i.invariant.put c.loop-i.invariant.unfailed (rw line at c.in-Err.ensures.written)
    c.in-Err.ensures.faults

pub loop-i-preserved : goal.loop-i-preserved
loop-i-preserved g c =
    let print = content_line c.args.name.now in
    let addresses = addresses_of ((standing_of c.args.tree.now).node_tree c.args.node) in
    let address = c.content.result.now in
    let line : c.as_slice.result.now ≡ print address = search rules in
    record {
      put =
          rw (flat_taken print addresses c.loop-i.i address c.content.ensures)
          (appends_both _ _ _ _ _ c.loop-i.invariant.put (rw line at c.in-Ok.ensures.written));
      puts =
          c.in-Ok.ensures.puts ∙ ap next_count c.loop-i.invariant.puts
          ∙ counts_on c.loop-i.i (g.W.Sink.puts c.args.out.now);
      unfailed = c.in-Ok.ensures.faults ∙ c.loop-i.invariant.unfailed;
    }

pub returns : goal.returns
returns g c =
    let addresses = addresses_of ((standing_of c.args.tree.now).node_tree c.args.node) in
    let all = puts_all (content_line c.args.name.now) addresses c.loop-i.i _ _ _ _
    (omega (arith, c.loop-i-test.false, c.content_count-i-end.ensures))
    (omega (arith, c.loop-i.auto.i-end, c.content_count-i-end.ensures))
    c.loop-i.invariant.put c.loop-i.invariant.puts in
    record { gained = all.0; puts = all.1; unfailed = c.loop-i.invariant.unfailed }
