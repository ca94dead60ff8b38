use Rattle.std.proofs.Common.{◌≡◌, Some, None, sym, ◌∙◌, ap}
use Rattle.std.specs.Option.{option_map}
use Rattle.engine_state.specs.Loading.{best_want}
use Rattle.engine_core.specs.Mirrors.{state_of}
use Rattle.engine_core.proofs.Bests.{best_is}
use Rattle.engine_core.proofs.parts.Parts.best_key.Goals as goal

pub returns-in_ok-copy-in-Some : goal.returns-in_ok-copy-in-Some
returns-in_ok-copy-in-Some c =
    let best : Some c.in-Some.want.now ≡ best_want (state_of c.args.self.now) =
    sym (ap (option_map (λ w. w.now)) c.in-Some.is) ∙ c.best.ensures
    ∙ best_is c.queue_shows_what_is_takeable.ensures c.args.self.now c.requires.lives
    c.requires.filled in
    ap (λ k. Some k) c.in_ok-copy-in-Some.ensures.value ∙ ap (option_map (λ w. w.key)) best

pub returns-in-None : goal.returns-in-None
returns-in-None c =
    let best : None ≡ best_want (state_of c.args.self.now) =
    sym (ap (option_map (λ w. w.now)) c.in-None.is) ∙ c.best.ensures
    ∙ best_is c.queue_shows_what_is_takeable.ensures c.args.self.now c.requires.lives
    c.requires.filled in
    ap (option_map (λ w. w.key)) best
