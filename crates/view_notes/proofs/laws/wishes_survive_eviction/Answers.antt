use Rattle.view_notes.proofs.Evictions.{wishes_same}
use Rattle.view_notes.proofs.laws.wishes_survive_eviction.Goals as goal

pub returns : goal.returns
returns c = λ out view old new root ev keeps. wishes_same view out old new ev root keeps
