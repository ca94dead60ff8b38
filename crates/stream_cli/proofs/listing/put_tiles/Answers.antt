use Rattle.std.proofs.Common.{get_or, sym}
use Rattle.std.proofs.lemmas.Option.{get_or_from_slice_get, slice_get-get_or}
use Rattle.expanded_tree.specs.declared.node.Node.{Node}
use Rattle.plain_tree.specs.Standing.{standing_of}
use Rattle.stream_cli.specs.Listing.{lines_of}
use Rattle.stream_cli.proofs.Puts.{gains_more, side_at, stops_at_one}
use Rattle.stream_cli.proofs.listing.put_tiles.Goals as goal

abbrev first_node : Node
first_node = record { number = 0 }

pub returns-in-Err : goal.returns-in-Err
returns-in-Err g c =
    let side = side_at g.W.Sink.written g.W.Sink.faults g.W.Sink.puts in
    let nodes = c.args.nodes.now in
    let i = c.loop-node.node-index in
    let node = get_or nodes i first_node in
    let at = slice_get-get_or nodes i first_node c.loop-node-test.true in
    stops_at_one (λ n. lines_of ((standing_of c.args.tree.now).node_tree n)) nodes
    c.in-Err.cause i node (side c.args.out.now) (side c.loop-node.out) (side c.put_node.new.out)
    c.loop-node-test.true (sym (get_or_from_slice_get nodes i node node at))
    c.loop-node.invariant c.in-Err.ensures

pub loop-node-preserved : goal.loop-node-preserved
loop-node-preserved g c =
    let side = side_at g.W.Sink.written g.W.Sink.faults g.W.Sink.puts in
    let nodes = c.args.nodes.now in
    let i = c.loop-node.node-index in
    let node = get_or nodes i first_node in
    let at = slice_get-get_or nodes i first_node c.loop-node-test.true in
    gains_more (λ n. lines_of ((standing_of c.args.tree.now).node_tree n)) nodes i node
    (side c.args.out.now) (side c.loop-node.out) (side c.put_node.new.out)
    c.loop-node-test.true (sym (get_or_from_slice_get nodes i node node at))
    c.loop-node.invariant c.in-Ok.ensures
