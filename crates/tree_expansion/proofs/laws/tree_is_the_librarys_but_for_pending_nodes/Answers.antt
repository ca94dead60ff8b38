use Rattle.tree_expansion.proofs.Agreeing.{grows_into_full}
use Rattle.tree_expansion.proofs.laws.tree_is_the_librarys_but_for_pending_nodes.Goals as goal

pub returns : goal.returns
returns c = grows_into_full
