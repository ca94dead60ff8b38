use Rattle.std.proofs.Common.{◌≡◌, ◌∙◌, Err, List, ℕ, ap, get_or, rules, subst, sym}
use Rattle.std.proofs.lemmas.Option.{get_or_from_slice_get, slice_get-get_or}
use Rattle.doc_store.specs.Store.{Stored, docs}
use Rattle.expanded_tree.specs.declared.node.Node.{Node}
use Rattle.plain_tree.specs.Standing.{Plain, standing_of}
use Rattle.source_port.specs.declared.sink.PutError.TheVariants.{OutOfMemory}
use Rattle.tile_metadata.specs.Metadata.{lines_of}
use Rattle.stream_cli.specs.Printing.{GainsLines, PutsLines}
use Rattle.stream_cli.proofs.Puts.{between, gains_more, nothing_put, side_at, stops_at_one}
use Rattle.stream_cli.proofs.metadata.put_metadata.Goals as goal

abbrev first_node : Node
first_node = record { number = 0 }

abbrev lines_in : Stored → Plain → Node → List (List ℕ)
lines_in store tree node = lines_of (docs store) ((standing_of tree).node_tree node)

pub returns-then-is_err : goal.returns-then-is_err
returns-then-is_err g c =
    let side = side_at g.W.Sink.written g.W.Sink.faults g.W.Sink.puts in
    let nodes = c.args.nodes.now in
    let i = c.loop-node.node-index in
    let node = get_or nodes i first_node in
    let at = slice_get-get_or nodes i first_node c.loop-node-test.true in
    let f = lines_in c.args.lines.now.store c.args.lines.now.tree in
    stops_at_one f nodes OutOfMemory i node (side c.args.out.now) (side c.loop-node.out)
    (side c.loop-node.out) c.loop-node-test.true
    (sym (get_or_from_slice_get nodes i node node at)) c.loop-node.invariant.gained
    (nothing_put (f node) (side c.loop-node.out))

pub returns-in-Err : goal.returns-in-Err
returns-in-Err g c =
    let side = side_at g.W.Sink.written g.W.Sink.faults g.W.Sink.puts in
    let nodes = c.args.nodes.now in
    let i = c.loop-node.node-index in
    let node = get_or nodes i first_node in
    let at = slice_get-get_or nodes i first_node c.loop-node-test.true in
    let f = lines_in c.args.lines.now.store c.args.lines.now.tree in
    let turned : c.turn_to.new.self.lines
    ≡ lines_in c.loop-node.lines.store c.loop-node.lines.tree node = search rules in
    let same : c.turn_to.new.self.lines ≡ f node =
    turned ∙ ap (λ store. lines_in store c.loop-node.lines.tree node) c.loop-node.invariant.store
    ∙ ap (λ tree. lines_in c.args.lines.now.store tree node) c.loop-node.invariant.tree in
    stops_at_one f nodes c.in-Err.cause i node (side c.args.out.now) (side c.loop-node.out)
    (side c.put_lines.new.out) c.loop-node-test.true
    (sym (get_or_from_slice_get nodes i node node at)) c.loop-node.invariant.gained
    (subst (PutsLines (Err c.in-Err.cause) (between (side c.loop-node.out) (side c.put_lines.new.out)))
    same c.in-Err.ensures)

pub loop-node-preserved : goal.loop-node-preserved
loop-node-preserved g c =
    let side = side_at g.W.Sink.written g.W.Sink.faults g.W.Sink.puts in
    let nodes = c.args.nodes.now in
    let i = c.loop-node.node-index in
    let node = get_or nodes i first_node in
    let at = slice_get-get_or nodes i first_node c.loop-node-test.true in
    let f = lines_in c.args.lines.now.store c.args.lines.now.tree in
    let turned : c.turn_to.new.self.lines
    ≡ lines_in c.loop-node.lines.store c.loop-node.lines.tree node = search rules in
    let same : c.turn_to.new.self.lines ≡ f node =
    turned ∙ ap (λ store. lines_in store c.loop-node.lines.tree node) c.loop-node.invariant.store
    ∙ ap (λ tree. lines_in c.args.lines.now.store tree node) c.loop-node.invariant.tree in
    record {
      gained =
          gains_more f nodes i node (side c.args.out.now) (side c.loop-node.out)
          (side c.put_lines.new.out) c.loop-node-test.true
          (sym (get_or_from_slice_get nodes i node node at)) c.loop-node.invariant.gained
          (subst (GainsLines (between (side c.loop-node.out) (side c.put_lines.new.out))) same
          c.in-Ok.ensures);
      store = c.turn_to.ensures.store ∙ c.loop-node.invariant.store;
      tree = c.turn_to.ensures.tree ∙ c.loop-node.invariant.tree;
    }
