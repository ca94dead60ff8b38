use Rattle.tree_expansion.proofs.Grows.{expanded_grows}
use Rattle.tree_expansion.proofs.laws.loading_changes_pending_nodes_alone.Goals as goal

pub returns : goal.returns
returns c = expanded_grows
