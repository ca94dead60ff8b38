use Rattle.std.proofs.Common.{◌≡◌, map, rules, sym, ◌∙◌}
use Rattle.expanded_tree.specs.Tree.{addresses_of, facts_of, key_of, name_of}
use Rattle.plain_tree.specs.Standing.{standing_of}
use Rattle.stream_cli.specs.Listing.{content_line, tile_line}
use Rattle.stream_cli.proofs.Lines.{no_key, tile_lines}
use Rattle.stream_cli.proofs.Puts.{side_at, stops_first, then_others}
use Rattle.stream_cli.proofs.listing.put_node.Goals as goal

pub returns-in-Ok-put : goal.returns-in-Ok-put
returns-in-Ok-put g c =
    let side = side_at g.W.Sink.written g.W.Sink.faults g.W.Sink.puts in
    let t = (standing_of c.args.tree.now).node_tree c.args.node in
    let named : c.as_str-named.result.now ≡ name_of t =
    c.as_str-named.ensures.value ∙ c.in-Ok.ensures in
    let first : c.as_slice.result.now ≡ tile_line (name_of t) (facts_of t) = search rules in
    let tile = no_key (λ key. key.now) (key_of t) c.pending.result c.is_some.result
    c.is_some.ensures c.pending.ensures c.if-is_some.false in
    rw (sym (tile_lines t tile))
    (then_others c.put_contents.result (tile_line (name_of t) (facts_of t))
    (map (content_line (name_of t)) (addresses_of t)) (side c.args.out.now) (side c.put.new.self)
    (side c.put_contents.new.out) (rw first at c.in-Ok-put.ensures.written)
    c.in-Ok-put.ensures.faults c.in-Ok-put.ensures.puts
    (rw named at c.put_contents.ensures))

pub returns-in-Err : goal.returns-in-Err
returns-in-Err g c =
    let side = side_at g.W.Sink.written g.W.Sink.faults g.W.Sink.puts in
    let t = (standing_of c.args.tree.now).node_tree c.args.node in
    let named : c.as_str-named.result.now ≡ name_of t =
    c.as_str-named.ensures.value ∙ c.in-Ok.ensures in
    let first : c.as_slice.result.now ≡ tile_line (name_of t) (facts_of t) = search rules in
    let tile = no_key (λ key. key.now) (key_of t) c.pending.result c.is_some.result
    c.is_some.ensures c.pending.ensures c.if-is_some.false in
    rw (sym (tile_lines t tile))
    (stops_first c.in-Err.cause (tile_line (name_of t) (facts_of t))
    (map (content_line (name_of t)) (addresses_of t)) (side c.args.out.now) (side c.put.new.self)
    (rw first at c.in-Err.ensures.written) c.in-Err.ensures.faults)
