use Rattle.std.proofs.Common.{◌∷◌, ◌++◌, [], ◌∙◌, ap}
use Rattle.engine_state.specs.declared.entry.Entry.TheVariants.{Taken}
use Rattle.engine_core.proofs.Taken.{taken_lives}
use Rattle.engine_core.proofs.parts.Parts.add_taken.Goals as goal

pub returns-clause-lives : goal.returns-clause-lives
returns-clause-lives c =
    let p = c.args.self.now in
    taken_lives p c.push_reserved-2.new.self c.hide.new.self c.push_reserved.new.self c.args.pass
    c.args.key.now c.requires.lives c.requires.room c.requires.open c.requires.best
    (c.push_reserved-2.ensures.items
    ∙ ap (λ k. p.entries.items ++ Taken c.args.pass k ∷ []) c.requires.noted)
    c.push_reserved-2.ensures.room c.hide.ensures.order c.hide.ensures.wants
    (c.push_reserved.ensures.items
    ∙ ap (λ k. p.flying.items ++ record { key = k; pass = c.args.pass } ∷ []) c.requires.flown)
