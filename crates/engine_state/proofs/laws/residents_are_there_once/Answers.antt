use Rattle.engine_state.specs.Journal.{replay}
use Rattle.engine_state.proofs.Distinct.{texts_distinct}
use Rattle.engine_state.proofs.Flying.{resident_present}
use Rattle.engine_state.proofs.Steps.{apart_along}
use Rattle.engine_state.proofs.laws.residents_are_there_once.Goals as goal

pub returns : goal.returns
returns c =
    let wait = c.pending_nodes_wait.ensures.unread in
    let are = c.pending_nodes_wait.ensures.document in
    record {
      once = λ before rest e. texts_distinct (replay before).residents
          (apart_along wait are before rest e).residents;
      present = λ before rest e address h. resident_present (replay before) address
          (apart_along wait are before rest e) h;
    }
