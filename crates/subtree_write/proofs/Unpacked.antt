-- The bits of packed bytes are those that were packed.
use Rattle.std.proofs.Common.{◌≡◌, ℕ, zero, suc, ◌+◌, ◌*◌, ◌/◌, ◌%◌, ◌^◌, ◌<◌, ◌==◌, Bool, true, false, cond, List, [], ◌∷◌, length, get_or, take, drop, map, refl, ap, sym, ◌∙◌, arith}
use Rattle.std.specs.Int.{div_ceil}
use Rattle.std.specs.List.{range_with_len}
use Rattle.std.proofs.Math.Nat.{div-div-eq-div-mul, pow-succ', zero-div}
use Rattle.std.proofs.lemmas.List.{get_or-take, get_or-drop}
use Rattle.std.proofs.lemmas.List.FromFn.{get_or-map-range_with_len, fill_by_all}
use Rattle.avail_bits.specs.Bitstreams.{bit_of, bits_of}
use Rattle.subtree_write.specs.Rows.{byte_of, packed}
use Rattle.subtree_write.proofs.Packs.{byte_at}

-- ---- the digits of a byte

half : (bit : Bool) (n : ℕ) → (cond bit 1 0 + 2 * n) / 2 ≡ n
half true n = omega arith
half false n = omega arith

lowest : (bit : Bool) (n : ℕ) → ((cond bit 1 0 + 2 * n) / 1 % 2 == 1) ≡ bit
lowest true n = let odd : (1 + 2 * n) / 1 % 2 ≡ 1 = omega arith in rw odd refl
lowest false n = let even : (0 + 2 * n) / 1 % 2 ≡ 0 = omega arith in rw even refl

digit_of : (bits : List Bool) (j : ℕ) → (byte_of bits / 2 ^ j % 2 == 1) ≡ get_or bits j false
digit_of [] j = rw zero-div refl
digit_of (bit ∷ bits) zero = lowest bit (byte_of bits)
digit_of (bit ∷ bits) (suc j) =
    let whole = byte_of (bit ∷ bits) in
    let step : whole / 2 ^ suc j ≡ byte_of bits / 2 ^ j =
    ap (λ d. whole / d) (pow-succ' 2 j) ∙ sym (div-div-eq-div-mul whole 2 (2 ^ j))
    ∙ ap (λ n. n / 2 ^ j) (half bit (byte_of bits)) in
    ap (λ n. n % 2 == 1) step ∙ digit_of bits j

-- ---- the bits of all bytes

bit_is : (row : List Bool) (k : ℕ) → k < length row
    → get_or row k false ≡ bit_of (packed row) k
unfolding packed
bit_is row k h =
    let i = k / 8 in
    let j = k % 8 in
    let place : 8 * i + j ≡ k = omega arith in
    let byte : get_or (map (byte_at row) (range_with_len 0 (div_ceil (length row) 8))) i 0
    ≡ byte_at row i =
    get_or-map-range_with_len (byte_at row) 0 (div_ceil (length row) 8) i i 0 (omega arith)
    (omega arith) in
    let eight = take 8 (drop (8 * i) row) in
    sym
    (ap (λ n. n / 2 ^ j % 2 == 1) byte
    ∙ digit_of eight j
    ∙ get_or-take 8 (drop (8 * i) row) j false (omega arith)
    ∙ get_or-drop (8 * i) row j false
    ∙ ap (λ n. get_or row n false) place)

pub bits_are : (row : List Bool) → bits_of (packed row) (length row) ≡ row
unfolding bits_of
bits_are row = sym
    (fill_by_all (bit_of (packed row)) row (length row) false refl (λ k h. bit_is row k h))
