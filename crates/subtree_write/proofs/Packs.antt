-- Bits are packed one byte after another.
use Rattle.std.proofs.Common.{◌≡◌, ℕ, ◌+◌, ◌-◌, ◌*◌, ◌≤◌, ◌<◌, min, nat_le, Bool, true, false, List, [], ◌∷◌, ◌++◌, length, map, take, drop, refl, ap, sym, ◌∙◌, append_assoc, arith, length-drop}
use Rattle.std.specs.Int.{div_ceil}
use Rattle.std.specs.List.{range_with_len}
use Rattle.std.proofs.lemmas.List.{take_all}
use Rattle.std.proofs.lemmas.List.FromFn.{length-map-range_with_len, map-range_with_len_more}
use Rattle.subtree_write.specs.Rows.{byte_of, packed}

abbrev pub byte_at : List Bool → ℕ → ℕ
byte_at bits i = byte_of (take 8 (drop (8 * i) bits))

-- the eight bits, or those that there are
eight : (xs : List Bool) (n : ℕ) → n ≡ min (length xs) 8 → take n xs ≡ take 8 xs
eight xs n is = go (nat_le 8 (length xs)) refl
  where
    go : (b : Bool) → nat_le 8 (length xs) ≡ b → take n xs ≡ take 8 xs
    go true e =
        let long : 8 ≤ length xs = search (e, arith) in
        let whole : n ≡ 8 = omega arith in rw whole refl
    go false e =
        let short : length xs < 8 = search (e, arith) in
        let whole : n ≡ length xs = omega arith in
        take_all n xs (omega arith) ∙ sym (take_all 8 xs (omega arith))

pub packed_more : (bits : List Bool) (old items new : List ℕ) (i end byte : ℕ)
    → 8 * i ≤ length bits → end ≡ min (length bits) (8 * i + 8)
    → byte ≡ byte_of (take (end - 8 * i) (drop (8 * i) bits))
    → items ≡ old ++ map (byte_at bits) (range_with_len 0 i) → new ≡ items ++ byte ∷ []
    → new ≡ old ++ map (byte_at bits) (range_with_len 0 (i + 1))
packed_more bits old items new i end byte below is read before added =
    let rest = drop (8 * i) bits in
    let long : length rest ≡ length bits - 8 * i = length-drop (8 * i) bits in
    let same : byte ≡ byte_at bits i =
    read ∙ ap byte_of (eight rest (end - 8 * i) (rw long (omega arith))) in
    added
    ∙ rw (before, same, map-range_with_len_more (byte_at bits) 0 i i (omega arith))
    (append_assoc old (map (byte_at bits) (range_with_len 0 i)) (byte_at bits i ∷ []))

pub length-packed : (bits : List Bool) → length (packed bits) ≡ div_ceil (length bits) 8
unfolding packed
length-packed bits = length-map-range_with_len (byte_at bits) 0 (div_ceil (length bits) 8)
