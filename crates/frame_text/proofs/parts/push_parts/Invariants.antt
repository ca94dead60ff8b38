use Rattle.std.proofs.Common.{◌≡◌, ◌++◌, ◌+◌, ◌≤◌, List, ℕ, Bor, length, take}
use Rattle.std.proofs.Common.{string_bytes, string_capacity, string_len}
use Rattle.std.specs.List.{flat_map}
use Rattle.frame_text.proofs.parts.push_parts.Given as goal

-- the bytes of some parts
abbrev bytes_of : List (Bor (List ℕ)) → List ℕ
bytes_of parts = flat_map (λ part. part.now) parts

-- the parts so far stand in the text, and there is room for all of them
abbrev pub invariant-loop-part : goal.invariant-loop-part
invariant-loop-part l =
    (string_bytes l.text ≡ string_bytes l.initial.text ++ bytes_of (take l.part-index l.parts))
    × (string_len l.text
    ≡ string_len l.initial.text + length (bytes_of (take l.part-index l.parts)))
    × (string_len l.initial.text + length (bytes_of l.parts) ≤ string_capacity l.text)
