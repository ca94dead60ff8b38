-- How many bits are set.
use Rattle.std.specs.Prelude.{ℕ, zero, suc, ◌+◌, ◌*◌, Bool, cond, List, map}
use Rattle.std.specs.List.{range_with_len}
use Rattle.avail_bits.specs.Bitstreams.{bit_of}

-- at how many of the first numbers a test holds
unfoldable pub count_to : (ℕ → Bool) → ℕ → ℕ
count_to f zero = 0
count_to f (suc n) = count_to f n + cond (f n) 1 0

-- how many bits are set before word 0, word 1 and so on up to the given word
unfoldable pub counts_of : List ℕ → ℕ → List ℕ
counts_of bytes words = map (λ w. count_to (bit_of bytes) (64 * w)) (range_with_len 0 (words + 1))
