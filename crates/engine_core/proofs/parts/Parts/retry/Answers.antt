use Rattle.std.proofs.Common.{◌+◌, ◌≤◌, [], ◌∷◌, ◌++◌, length, ap, ◌∙◌, arith}
use Rattle.std.proofs.lemmas.Grind.{common_steps}
use Rattle.engine_state.specs.declared.entry.Entry.TheVariants.{Retried}
use Rattle.engine_core.proofs.Closings.{retried_lives}
use Rattle.engine_core.proofs.parts.Parts.retry.Goals as goal

pub returns-clause-lives : goal.returns-clause-lives
returns-clause-lives c =
    let p = c.args.self.now in
    let spare : length p.flying.items + length p.frames.items + 1 ≤ c.push_reserved.new.self.spare =
    grind (arith, common_steps) in
    retried_lives p _ _ _ c.args.pass c.requires.lives c.requires.open
    (c.push_reserved.ensures.items
    ∙ ap (λ xs. xs ++ Retried c.args.pass ∷ []) c.reserve.ensures.items) spare
    c.clear.ensures.items (omega arith) c.clear-2.ensures.items (omega arith)
