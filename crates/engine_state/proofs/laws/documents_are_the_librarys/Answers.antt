use Rattle.engine_state.specs.State.{docs}
use Rattle.engine_state.specs.Frames.{tree}
use Rattle.engine_state.specs.Journal.{replay}
use Rattle.engine_state.proofs.Libraries.{docs_agree, known_along}
use Rattle.engine_state.proofs.laws.documents_are_the_librarys.Goals as goal

pub returns : goal.returns
unfolding tree
returns c = record {
  docs = λ library before a u. docs_agree library (replay before) (known_along library before a u);
  tree = λ library before a u. c.tree_is_the_librarys_but_for_pending_nodes.ensures library
      (docs (replay before)) (docs_agree library (replay before) (known_along library before a u))
      (replay before).root;
}
