use Rattle.std.proofs.Common.{◌≡◌, ◌≤◌, drop, length}
use Rattle.std.specs.Prelude.{IsUtf8}
use Rattle.tile_uri.specs.Templates.{filled_parts}
use Rattle.tile_uri.proofs.part.place_parts.Given as goal

-- the parts from here on stand where they stay
abbrev pub invariant-loop-left : goal.invariant-loop-left
invariant-loop-left l = record {
  left : l.left ≤ length l.parts;
  at : l.at ≤ length l.bytes;
  written : drop l.at l.bytes ≡ filled_parts (drop l.left l.parts) l.level l.x l.y l.z;
  utf8 : IsUtf8 (drop l.at l.bytes);
}

abbrev pub decreases-loop-left : goal.decreases-loop-left
decreases-loop-left l = l.left
