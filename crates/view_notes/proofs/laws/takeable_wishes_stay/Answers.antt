use Rattle.view_notes.proofs.Taking.{takeable_stay}
use Rattle.view_notes.proofs.laws.takeable_wishes_stay.Goals as goal

pub returns : goal.returns
returns c = λ a may awaited view old new root s off inc none.
    takeable_stay may awaited view a old new root s off inc none
