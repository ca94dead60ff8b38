use Rattle.std.proofs.Common.{take}
use Rattle.std.specs.List.{flat_map}
use Rattle.plain_tree.specs.Standing.{standing_of}
use Rattle.stream_cli.specs.Listing.{lines_of}
use Rattle.stream_cli.specs.Printing.{GainsLines}
use Rattle.stream_cli.specs.Sides.{out_run}
use Rattle.stream_cli.proofs.listing.put_tiles.Given as goal

-- the lines of the nodes so far were put
abbrev pub invariant-loop-node : goal.invariant-loop-node
invariant-loop-node g l =
    GainsLines (out_run g.W.Sink.written g.W.Sink.faults g.W.Sink.puts l.initial.out l.out)
    (flat_map (λ n. lines_of ((standing_of l.tree).node_tree n)) (take l.node-index l.nodes))
