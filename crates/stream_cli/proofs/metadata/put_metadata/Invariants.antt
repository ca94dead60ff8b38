use Rattle.std.proofs.Common.{◌≡◌, take}
use Rattle.std.specs.List.{flat_map}
use Rattle.doc_store.specs.Store.{docs}
use Rattle.plain_tree.specs.Standing.{standing_of}
use Rattle.tile_metadata.specs.Metadata.{lines_of}
use Rattle.stream_cli.specs.Printing.{GainsLines}
use Rattle.stream_cli.specs.Sides.{out_run}
use Rattle.stream_cli.proofs.metadata.put_metadata.Given as goal

-- the lines of the nodes so far were put; the documents and the tree are the same
abbrev pub invariant-loop-node : goal.invariant-loop-node
invariant-loop-node g l = record {
  gained : GainsLines (out_run g.W.Sink.written g.W.Sink.faults g.W.Sink.puts l.initial.out l.out)
      (flat_map (λ n. lines_of (docs l.initial.lines.store)
      ((standing_of l.initial.lines.tree).node_tree n)) (take l.node-index l.nodes));
  store : l.lines.store ≡ l.initial.lines.store;
  tree : l.lines.tree ≡ l.initial.lines.tree;
}
