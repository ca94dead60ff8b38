use Rattle.view_notes.proofs.Visited.{none_noted}
use Rattle.view_notes.proofs.laws.too_many_are_not_noted.Goals as goal

pub returns : goal.returns
returns c = none_noted
