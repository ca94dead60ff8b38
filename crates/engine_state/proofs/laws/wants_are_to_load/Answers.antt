use Rattle.cut_core.proofs.Wanting.{once_distinct}
use Rattle.std.specs.List.{flat_map}
use Rattle.engine_state.specs.Loading.{wanted_by}
use Rattle.engine_state.proofs.Wanted.{want_to_load}
use Rattle.engine_state.proofs.laws.wants_are_to_load.Goals as goal

pub returns : goal.returns
returns c = record {
  to_load = λ s. want_to_load c.pending_nodes_wait.ensures.unread
      c.pending_nodes_wait.ensures.document s;
  once = λ s. once_distinct (flat_map (λ v. wanted_by s v.view) s.views);
}
