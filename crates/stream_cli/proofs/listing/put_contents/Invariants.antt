use Rattle.std.proofs.Common.{◌≡◌, take}
use Rattle.std.specs.List.{flat_map}
use Rattle.std.specs.Io.KnownBytes.{Appends}
use Rattle.source_port.specs.Counts.{count_after}
use Rattle.expanded_tree.specs.Tree.{addresses_of}
use Rattle.plain_tree.specs.Standing.{standing_of}
use Rattle.stream_cli.specs.Listing.{content_line}
use Rattle.stream_cli.proofs.listing.put_contents.Given as goal

-- the lines so far were put, each by one put, and none failed
abbrev pub invariant-loop-i : goal.invariant-loop-i
invariant-loop-i g l = record {
  put : Appends (g.W.Sink.written l.initial.out) (g.W.Sink.written l.out)
      (flat_map (content_line l.name)
      (take l.i (addresses_of ((standing_of l.tree).node_tree l.node))));
  puts : g.W.Sink.puts l.out ≡ count_after l.i (g.W.Sink.puts l.initial.out);
  unfailed : g.W.Sink.faults l.out ≡ g.W.Sink.faults l.initial.out;
}
