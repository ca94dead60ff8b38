use Rattle.view_notes.proofs.Numbering.{all_numbered}
use Rattle.view_notes.proofs.names.NameList.len.Goals as goal

pub returns-clause-numbered : goal.returns-clause-numbered
returns-clause-numbered c = rw (← c.self.view_is) (all_numbered _ _ _ c.self.invariant)
