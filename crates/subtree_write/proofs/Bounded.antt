-- All numbers of a file that fits are small.
use Rattle.std.proofs.Common.{◌≡◌, ℕ, ◌+◌, ◌^◌, ◌<◌, ◌≤◌, Bool, true, false, List, [], ◌∷◌, length, replicate, refl, arith, length-append}
use Rattle.std.specs.List.{All, flat_map}
use Rattle.std.proofs.lemmas.List.Elements.{All-cons, All-nil}
use Rattle.subtree_write.specs.Rows.{binary, is_constant, packed, padding, stream_bytes, streams, views}
use Rattle.subtree_write.proofs.Packs.{length-packed}
use Rattle.subtree_write.proofs.Spelling.{IsSmall}

binary-cons : (s : List Bool) (ss : List (List Bool))
    → length (binary (s ∷ ss)) ≡ length (stream_bytes s) + length (binary ss)
unfolding binary
binary-cons s ss = length-append (stream_bytes s) (flat_map stream_bytes ss)

packed_within : (s : List Bool) → length (packed s) ≤ length (stream_bytes s)
packed_within s =
    let long = length-append (packed s) (replicate (padding (length (packed s))) 0) in omega arith

pub views_small : (offset : ℕ) (ss : List (List Bool)) → offset + length (binary ss) < 2 ^ 63
    → All IsSmall (views offset ss)
views_small offset [] h = All-nil IsSmall
views_small offset (s ∷ ss) h =
    let whole = binary-cons s ss in
    let own = packed_within s in
    All-cons IsSmall (record { byte_offset = offset; byte_length = length (packed s) })
    (views (offset + length (stream_bytes s)) ss)
    (record { byte_offset = omega arith; byte_length = omega arith })
    (views_small (offset + length (stream_bytes s)) ss (omega arith))

some_bytes : (row : List Bool) → is_constant row ≡ false → 1 ≤ length (packed row)
some_bytes [] e = cc
some_bytes (bit ∷ row) e = rw (length-packed (bit ∷ row)) (omega arith)

pub few_streams : (rows : List (List Bool)) → length (streams rows) ≤ length (binary (streams rows))
few_streams [] = omega arith
few_streams (row ∷ rows) = go (is_constant row) refl (few_streams rows)
  where
    go : (b : Bool) → is_constant row ≡ b → length (streams rows) ≤ length (binary (streams rows))
        → length (streams (row ∷ rows)) ≤ length (binary (streams (row ∷ rows)))
    go true e below = rw e below
    go false e below =
        let whole = binary-cons row (streams rows) in
        let own = packed_within row in
        let some = some_bytes row e in
        rw e (omega arith)
