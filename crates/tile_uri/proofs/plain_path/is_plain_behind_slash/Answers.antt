use Rattle.std.proofs.Common.{◌≤◌, get_or, sym, ◌∙◌, subst}
use Rattle.tile_uri.proofs.States.{step_within, next_accepted}
use Rattle.tile_uri.proofs.plain_path.is_plain_behind_slash.Goals as goal

pub loop-rest-preserved : goal.loop-rest-preserved
loop-rest-preserved c =
    let text = c.loop-rest.rest.now in
    record {
      within = subst (λ n. n ≤ 2) (sym c.next_state-state.ensures)
          (step_within c.loop-rest.state (get_or text 0 0));
      same = next_accepted c.loop-rest.state c.next_state-state.result text
          c.in-len1-up.len_at_least c.next_state-state.ensures ∙ c.loop-rest.invariant.same;
    }
