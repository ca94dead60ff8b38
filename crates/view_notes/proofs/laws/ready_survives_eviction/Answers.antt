use Rattle.view_notes.proofs.Evictions.{ready_same}
use Rattle.view_notes.proofs.laws.ready_survives_eviction.Goals as goal

pub returns : goal.returns
returns c = λ out view old new root ev keeps. ready_same view out old new ev root keeps
