use Rattle.view_notes.proofs.Evictions.{keeping_same}
use Rattle.view_notes.proofs.laws.keeping_survives_eviction.Goals as goal

pub returns : goal.returns
returns c = λ out view old new root ev keeps. keeping_same view out old new ev root keeps
