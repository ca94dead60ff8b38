use Rattle.view_notes.proofs.Alike.{each_alike, notes_alike, wanted_alike}
use Rattle.view_notes.proofs.laws.same_holdings_have_same_notes.Goals as goal

pub returns-clause-notes : goal.returns-clause-notes
returns-clause-notes c = λ n view old new root are same. notes_alike old new same n view root are

pub returns-clause-each : goal.returns-clause-each
returns-clause-each c = λ ns views old new root are same. each_alike old new same ns views root are

pub returns-clause-wanted : goal.returns-clause-wanted
returns-clause-wanted c = λ views old new root same. wanted_alike old new same views root
