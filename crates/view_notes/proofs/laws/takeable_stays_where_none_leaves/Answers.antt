use Rattle.view_notes.proofs.EachView.{takeable_same}
use Rattle.view_notes.proofs.laws.takeable_stays_where_none_leaves.Goals as goal

pub returns : goal.returns
returns c = λ a may awaited views old new root s off respects inc none.
    takeable_same a may awaited old new root s off inc views respects none
