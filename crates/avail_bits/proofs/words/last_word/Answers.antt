use Rattle.std.proofs.Common.{get_or, ap, ◌∙◌}
use Rattle.std.specs.Int.{bit_at}
use Rattle.avail_bits.proofs.Counted.{word_bit}
use Rattle.avail_bits.proofs.words.last_word.Goals as goal

pub returns : goal.returns
returns c = λ j h.
    ap (λ t. bit_at t j) c.from_le_bytes.ensures
    ∙ word_bit c.padded.result (λ i. get_or c.args.bytes.now i 0) (λ i below. c.padded.ensures i)
    (λ i. (c.type_inv.bytes i).fits) j h
