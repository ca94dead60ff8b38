use Rattle.engine_state.proofs.Wanted.{load_absent, load_document, load_resident, load_unread}
use Rattle.engine_state.proofs.laws.what_is_to_load_is_missing.Goals as goal

pub returns : goal.returns
returns c = record {
  resident = load_resident;
  absent = load_absent;
  unread = load_unread;
  document = λ s key t d. c.pending_nodes_wait.ensures.taken key (load_document s key t d);
}
