use Rattle.view_notes.proofs.Growing.{ready_grows}
use Rattle.view_notes.proofs.laws.ready_stays.Goals as goal

pub returns : goal.returns
returns c = λ view old new t g e. ready_grows old new g view t e
