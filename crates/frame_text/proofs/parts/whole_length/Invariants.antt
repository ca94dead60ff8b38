use Rattle.std.proofs.Common.{◌≡◌, length, take}
use Rattle.std.specs.List.{flat_map}
use Rattle.frame_text.proofs.parts.whole_length.Given as goal

-- the length of the parts so far
abbrev pub invariant-loop-part : goal.invariant-loop-part
invariant-loop-part l =
    l.whole ≡ length (flat_map (λ part. part.now) (take l.part-index l.parts))
