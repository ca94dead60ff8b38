use Rattle.view_notes.proofs.Evictions.{kept_same}
use Rattle.view_notes.proofs.laws.kept_survives_eviction.Goals as goal

pub returns : goal.returns
returns c = λ out view old new root ev keeps. kept_same view out old new ev root keeps
