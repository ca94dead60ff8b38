use Rattle.std.proofs.Common.{◌-◌, ap, ◌∙◌}
use Rattle.std.specs.Int.Bits.{bit_and}
use Rattle.std.specs.Prelude.{count_ones}
use Rattle.std.proofs.lemmas.Nat.{and_mask, one_shl}
use Rattle.avail_bits.proofs.words.ones_below.Goals as goal

pub returns : goal.returns
returns c =
    c.from.ensures ∙ ap (λ t. count_ones (bit_and c.args.word (t - 1)))
    (one_shl c.args.end 64 c.requires) ∙ ap count_ones (and_mask c.args.word c.args.end)
