use Rattle.view_notes.proofs.Views.{wanted_once}
use Rattle.view_notes.proofs.laws.wanted_is_wishes_once.Goals as goal

pub returns : goal.returns
returns c = λ view holdings root. wanted_once view holdings root
