use Rattle.std.proofs.Common.{sym, ◌∙◌, ap}
use Rattle.engine_state.specs.Journal.{replay}
use Rattle.engine_state.specs.Loading.{takeable}
use Rattle.engine_core.specs.Mirrors.{state_of}
use Rattle.engine_core.proofs.Bests.{none_takeable}
use Rattle.engine_core.proofs.parts.Parts.take.Goals as goal

pub returns-in_default-clause-job : goal.returns-in_default-clause-job
returns-in_default-clause-job c =
    let p = c.fill_queue.new.self in (
      ap (λ es. takeable (replay es)) (sym c.in_ok-fill_queue.ensures.same.entries)
          ∙ none_takeable (state_of p) (sym c.in_default.is ∙ c.in_ok-key.ensures),
      c.in_ok-fill_queue.ensures.same,
    )
