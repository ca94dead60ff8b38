-- What is taken, and why nothing is.
use Rattle.std.specs.Prelude.{ℕ, ◌≡◌, true, IsTrue, List, []}
use Rattle.tile_types.specs.declared.job.Job.{Job}
use Rattle.engine_state.specs.declared.entry.Entry.{Entry}
use Rattle.engine_state.specs.Agreement.{limit_of}
use Rattle.engine_state.specs.Journal.{replay}
use Rattle.engine_state.specs.Loading.{best_want, is_key_of, takeable}
use Rattle.engine_core.specs.declared.error.RetryError.{RetryError}
use Rattle.engine_core.specs.declared.error.RetryError.TheVariants as retry
use Rattle.engine_core.specs.declared.error.TakeError.{TakeError}
use Rattle.engine_core.specs.declared.error.TakeError.TheVariants.{Closed, Idle, JournalFull, OutOfMemory}
use Rattle.engine_core.specs.Journals.{IsFull, MayGoOn}

-- the job is of the best key, within the limit of its kind, and of the pass
pub record IsBestJob (journal : List Entry) (pass : ℕ) (job : Job) : Type 0 where
  pub best : IsTrue (is_key_of job.key (best_want (replay journal)))
  pub limit : job.limit ≡ limit_of job.key
  pub own_pass : job.pass ≡ pass

-- why nothing is taken: each where the ones before it don't hold, and want of memory at any time
abbrev pub RefusesTake : List Entry → ℕ → TakeError → Type 0
RefusesTake journal room Closed = (replay journal).closed ≡ true
RefusesTake journal room (JournalFull entries) = IsFull journal room entries
RefusesTake journal room Idle = MayGoOn journal room × (takeable (replay journal) ≡ [])
RefusesTake journal room OutOfMemory = MayGoOn journal room

-- why nothing is tried anew
abbrev pub RefusesRetry : List Entry → ℕ → RetryError → Type 0
RefusesRetry journal room retry.Closed = (replay journal).closed ≡ true
RefusesRetry journal room (retry.JournalFull entries) = IsFull journal room entries
RefusesRetry journal room retry.OutOfMemory = MayGoOn journal room
