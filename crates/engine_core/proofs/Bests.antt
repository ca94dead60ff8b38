-- The best of the wants that a queue shows is that of its state.
use Rattle.std.proofs.Common.{◌≡◌, true, None, List, [], ◌∷◌, map, refl, ◌∙◌, ap}
use Rattle.std.specs.Option.{option_map}
use Rattle.tile_types.specs.declared.order.Order.{Order}
use Rattle.tile_types.specs.declared.want.Want.{Want}
use Rattle.load_queue.specs.Best.{best}
use Rattle.load_queue.specs.Queues.{shown_wants}
use Rattle.engine_state.specs.State.{State}
use Rattle.engine_state.specs.Loading.{best_want, queued, takeable, want}
use Rattle.engine_core.specs.declared.parts.Parts.{Parts}
use Rattle.engine_core.specs.Mirrors.{Lives, state_of}

none_best : (order : Order) (ws : List Want) → None ≡ option_map (λ w. w.key) (best order ws)
    → ws ≡ []
none_best order [] e = refl
none_best order (w ∷ ws) e = cc

-- where no want is the best one, none may be taken
pub none_takeable : (s : State) → None ≡ option_map (λ w. w.key) (best_want s) → takeable s ≡ []
none_takeable s e = none_best s.order (takeable s) e

module _ (law : (s : State) → shown_wants (map (queued s) (want s)) ≡ takeable s) (p : Parts)
    (l : Lives p) (filled : p.filled ≡ true) where
  pub shown_are : shown_wants p.queue.wants ≡ takeable (state_of p)
  shown_are = ap shown_wants (l.mirrors.queues.wants_are filled) ∙ law (state_of p)

  pub best_is : best p.queue.order (shown_wants p.queue.wants) ≡ best_want (state_of p)
  best_is =
      ap (λ order. best order (shown_wants p.queue.wants)) l.mirrors.queues.order_is
      ∙ ap (best (state_of p).order) shown_are
