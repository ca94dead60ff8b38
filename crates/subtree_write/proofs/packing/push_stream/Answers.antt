use Rattle.std.proofs.Common.{◌∙◌, sym, append_assoc}
use Rattle.subtree_write.proofs.Packs.{length-packed}
use Rattle.subtree_write.proofs.packing.push_stream.Goals as goal

pub returns-clause-bytes : goal.returns-clause-bytes
returns-clause-bytes c =
    c.in_ok-push_padding.ensures
    ∙ rw (c.in_ok-push_packed.ensures, c.div_ceil-count.ensures, length-packed c.args.bits.now)
    (simp append_assoc)

pub returns-clause-length : goal.returns-clause-length
returns-clause-length c = c.div_ceil-count.ensures ∙ sym (length-packed c.args.bits.now)
