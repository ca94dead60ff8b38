use Rattle.std.proofs.Common.{◌≡◌, ◌*◌}
use Rattle.avail_bits.specs.Bitstreams.{bit_of}
use Rattle.avail_bits.specs.Counts.{count_to, counts_of}
use Rattle.avail_bits.proofs.words.count_words.Given as goal

abbrev pub invariant-loop-word : goal.invariant-loop-word
invariant-loop-word l =
    record {
      table : l.counts.items ≡ counts_of l.bytes l.word;
      so_far : l.total ≡ count_to (bit_of l.bytes) (64 * l.word);
    }
