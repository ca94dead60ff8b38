use Rattle.std.proofs.Common.{◌≡◌, ℕ, List, [], ◌∷◌, ◌++◌, ◌<◌, ◌*◌, ◌+◌, ◌%◌, ◌^◌, refl, ap, ap₂}
use Rattle.std.proofs.Common.{sym, ◌∙◌, arith}
use Rattle.std.specs.Int.{bit_at}
use Rattle.std.specs.Prelude.{count_ones, slice_index, ◌/◌}
use Rattle.avail_bits.specs.Bitstreams.{bit_of}
use Rattle.avail_bits.specs.Counts.{count_to}
use Rattle.avail_bits.proofs.Counted.{word_counts, count_to_le}
use Rattle.avail_bits.proofs.Listed.{no_words, more_words}
use Rattle.avail_bits.proofs.words.count_words.Goals as goal

next : (w : ℕ) → 64 * w + 64 ≡ 64 * (w + 1)
next w = omega arith

-- one more word is counted
counted : (bytes : List ℕ) (w n total ones : ℕ) → n < 2 ^ 64
    → ((j : ℕ) → j < 64 → bit_at n j ≡ bit_at (slice_index bytes (8 * w + j / 8)) (j % 8))
    → total ≡ count_to (bit_of bytes) (64 * w) → ones ≡ count_ones n
    → total + ones ≡ count_to (bit_of bytes) (64 * (w + 1))
counted bytes w n total ones fits e so_far of_word =
    let whole : n % 2 ^ 64 ≡ n = omega arith in
    ap₂ (λ p q. p + q) so_far (of_word ∙ ap count_ones (sym whole))
    ∙ sym (word_counts bytes w 64 n (omega arith) e) ∙ ap (count_to (bit_of bytes)) (next w)

pub overflow_add-total : goal.overflow_add-total
overflow_add-total c =
    let sum = counted c.args.bytes.now c.loop-word.word c.word_at.result c.loop-word.total
    c.from-total.result c.word_at.type_inv c.word_at.ensures c.loop-word.invariant.so_far
    c.from-total.ensures in
    let most = count_to_le (bit_of c.args.bytes.now) (64 * (c.loop-word.word + 1)) in
    let below = c.requires.countable in
    record { fits = omega arith }

pub loop-word-init : goal.loop-word-init
unfolding count_to
loop-word-init c = record {
  table = c.in_ok-push.ensures.items ∙ ap (λ t. t ++ 0 ∷ []) c.in_ok-counts.ensures.items
      ∙ no_words c.args.bytes.now;
  so_far = refl;
}

pub loop-word-preserved : goal.loop-word-preserved
loop-word-preserved c =
    let sum = counted c.args.bytes.now c.loop-word.word c.word_at.result c.loop-word.total
    c.from-total.result c.word_at.type_inv c.word_at.ensures c.loop-word.invariant.so_far
    c.from-total.ensures in
    record {
      table = c.in_ok-push-2.ensures.items ∙ ap₂ (λ p q. p ++ q ∷ []) c.loop-word.invariant.table
          sum ∙ sym (more_words c.args.bytes.now c.loop-word.word);
      so_far = sum;
    }
