use Rattle.std.specs.Prelude.{IfOk, IsTrue, MatchOption}
use Rattle.std.proofs.Common.{◌≡◌, ◌∙◌, ◌++◌, ◌∷◌, [], ap, sym, subst}
use Rattle.engine_state.specs.declared.entry.Entry.TheVariants.{Taken}
use Rattle.engine_state.specs.Journal.{replay}
use Rattle.engine_state.specs.Loading.{flies, takeable}
use Rattle.engine_core.specs.Mirrors.{SameJournal, state_of}
use Rattle.engine_core.specs.Taking.{IsBestJob}
use Rattle.engine_core.proofs.Taken.{taken_flies}
use Rattle.engine_core.proofs.engine.Core.take.Goals.{in-Some, in-None}
use Rattle.engine_core.proofs.engine.Core.take.Goals as goal

pub returns-clause-flies : goal.returns-clause-flies
returns-clause-flies c =
    let p = c.self.inside.parts in
    let old = p.entries.items in
    let new = c.take.new.self.entries.items in
    let pass = c.args.pass in
    elim c.match-branch-2.branch [
      | in-Some w ↦
          let both = subst (λ o. MatchOption o
          ((takeable (state_of p) ≡ []) × SameJournal p c.take.new.self)
          (λ job. IsBestJob old pass job × (new ≡ old ++ Taken pass job.key ∷ [])))
          w.in-Some.is c.in_ok-job.ensures.job in
          subst (λ r. IfOk r (λ job. IsTrue (flies (replay new) pass job.key))) (sym w.result-is)
          (ap (λ entries. flies (replay entries) pass w.in-Some.job.key) both.1
          ∙ taken_flies old pass w.in-Some.job.key)
      | in-None w ↦ subst (λ r. IfOk r (λ job. IsTrue (flies (replay new) pass job.key)))
          (sym w.result-is) tt
    ]
