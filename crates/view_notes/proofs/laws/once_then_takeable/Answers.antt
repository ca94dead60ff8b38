use Rattle.view_notes.proofs.Once.{once_those}
use Rattle.view_notes.proofs.laws.once_then_takeable.Goals as goal

pub returns : goal.returns
returns c = λ may ws respects. once_those may respects ws
