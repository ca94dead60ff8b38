use Rattle.std.proofs.Common.{◌∙◌, append_assoc}
use Rattle.subtree_write.proofs.texts.push_bitstream.Goals as goal

pub returns : goal.returns
returns c =
    c.in_ok-push-2.ensures
    ∙ rw (c.in_ok-push_number.ensures, c.in_ok-push.ensures) (simp append_assoc)
