use Rattle.tree_expansion.proofs.Waits.{document_taken, expanded_waits, expanded_waits_for_documents}
use Rattle.tree_expansion.proofs.laws.pending_nodes_wait.Goals as goal

pub returns : goal.returns
returns c = record {
  unread = expanded_waits;
  document = expanded_waits_for_documents;
  taken = document_taken;
}
