-- How often a desk gave which answer.
use Rattle.std.specs.Prelude.{ℕ, ◌<◌, ◌≤◌, Option, Some, None}
use Rattle.tile_types.specs.declared.job.Job.{Job}
use Rattle.source_port.specs.Counts.{HasRisen}
use Rattle.loader_gate.specs.declared.outcome.Loaded.{Loaded}
use Rattle.loader_gate.specs.declared.outcome.Loaded.TheVariants as loaded
use Rattle.loader_gate.specs.declared.outcome.TakenJob.{TakenJob}
use Rattle.loader_gate.specs.declared.outcome.TakenJob.TheVariants as taken

-- how many jobs it gave out, and how often it answered that it has none now, or none any more
pub record AnswerCounts : Type 0 where
  pub jobs : ℕ
  pub idle : ℕ
  pub ended : ℕ

-- no count fell
pub record NeverFall (old new : AnswerCounts) : Type 0 where
  pub jobs : old.jobs ≤ new.jobs
  pub idle : old.idle ≤ new.idle
  pub ended : old.ended ≤ new.ended

-- the count of the answer rose
abbrev pub Counts : AnswerCounts → AnswerCounts → TakenJob → Type 0
Counts old new (taken.Job job) = old.jobs < new.jobs
Counts old new taken.Idle = HasRisen old.idle new.idle
Counts old new taken.Ended = HasRisen old.ended new.ended

-- the count of the answer behind what a load was rose
abbrev pub CountsLoad : AnswerCounts → AnswerCounts → Loaded → Type 0
CountsLoad old new loaded.Done = old.jobs < new.jobs
CountsLoad old new loaded.Idle = HasRisen old.idle new.idle
CountsLoad old new loaded.Ended = HasRisen old.ended new.ended

-- the job that is answered, if it is one
abbrev pub job_in : TakenJob → Option Job
job_in (taken.Job job) = Some job
job_in taken.Idle = None
job_in taken.Ended = None
