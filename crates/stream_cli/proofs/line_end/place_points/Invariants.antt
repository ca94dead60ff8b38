use Rattle.std.proofs.Common.{◌≡◌, ◌≤◌, ◌+◌, ◌*◌, ◌++◌, drop, length}
use Rattle.stream_cli.specs.Listing.{points_text}
use Rattle.stream_cli.specs.declared.line_end.TheConstants.{POINT_BYTES}
use Rattle.stream_cli.proofs.line_end.place_points.Given as goal

-- the points from here on stand where they stay
abbrev pub invariant-loop-left : goal.invariant-loop-left
invariant-loop-left l = record {
  left : l.left ≤ length l.points;
  at : l.at ≤ l.end;
  room : l.end + l.left * POINT_BYTES ≤ l.at + length l.points * POINT_BYTES;
  written : drop l.at l.bytes
      ≡ points_text (drop l.left l.points) ++ drop l.end l.initial.bytes;
}

abbrev pub decreases-loop-left : goal.decreases-loop-left
decreases-loop-left l = l.left
