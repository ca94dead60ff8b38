use Rattle.tree_expansion.proofs.Wholes.{whole_is_full}
use Rattle.tree_expansion.proofs.laws.whole_tree_is_the_librarys.Goals as goal

pub returns : goal.returns
returns c = whole_is_full
