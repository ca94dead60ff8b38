use Rattle.view_notes.proofs.EachView.{wanted_loses}
use Rattle.view_notes.proofs.laws.wanted_loses_it_where_none_leaves.Goals as goal

pub returns : goal.returns
returns c = λ a awaited views old new root s inc none waits.
    wanted_loses a awaited old new root s inc views none waits
