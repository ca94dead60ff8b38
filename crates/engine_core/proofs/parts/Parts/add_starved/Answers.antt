use Rattle.std.proofs.Common.{[], ◌∷◌, ◌++◌, ◌∙◌, ap}
use Rattle.engine_core.proofs.Endings.{starved_lives}
use Rattle.engine_core.proofs.parts.Parts.add_starved.Goals as goal

pub returns-clause-lives : goal.returns-clause-lives
returns-clause-lives c =
    let p = c.args.self.now in
    starved_lives p _ _ _ c.args.pass c.args.key c.requires.lives c.requires.flies
    c.push_reserved-2.ensures.items c.push_reserved-2.ensures.room
    c.end_flight-flown.ensures.flying
    (c.push_reserved.ensures.items
    ∙ ap (λ k. p.attempts.items ++ k ∷ []) c.end_flight-flown.ensures.key)
    c.push_reserved.ensures.room
