use Rattle.engine_state.specs.Journal.{replay}
use Rattle.engine_state.proofs.Distinct.{keys_distinct}
use Rattle.engine_state.proofs.Flying.{flight_to_load}
use Rattle.engine_state.proofs.Steps.{apart_along}
use Rattle.engine_state.proofs.laws.what_flies_is_to_load.Goals as goal

pub returns : goal.returns
returns c =
    let wait = c.pending_nodes_wait.ensures.unread in
    let are = c.pending_nodes_wait.ensures.document in
    record {
      to_load = λ before rest e pass key f. flight_to_load (replay before) pass key
          (apart_along wait are before rest e) f;
      once = λ before rest e. keys_distinct (replay before).flying
          (apart_along wait are before rest e).flights;
    }
