use Rattle.std.proofs.Common.{◌∙◌, ap}
use Rattle.load_queue.specs.Entries.{queued_wants}
use Rattle.load_queue.proofs.Changes.{queued_fresh}
use Rattle.load_queue.proofs.ranked_queue.RankedQueue.set_wants.Goals as goal

pub returns-clause-ok : goal.returns-clause-ok
returns-clause-ok g c = ap queued_wants c.in_ok-wants.ensures ∙ queued_fresh c.args.wants
