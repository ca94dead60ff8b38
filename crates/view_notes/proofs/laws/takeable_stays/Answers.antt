use Rattle.view_notes.proofs.Views.{all_takeable}
use Rattle.view_notes.proofs.laws.takeable_stays.Goals as goal

pub returns : goal.returns
returns c = λ may views old new root respects each.
    all_takeable old new root may views respects each
