use Rattle.subtree_write.proofs.ReadBack.{reads_back}
use Rattle.subtree_write.proofs.laws.reads_back.Goals as goal

pub returns : goal.returns
returns c spec all short = reads_back spec all short
