use Rattle.view_notes.proofs.Settling.{settles_absent, settles_resident}
use Rattle.view_notes.proofs.laws.contents_settle.Goals as goal

pub returns-clause-resident : goal.returns-clause-resident
returns-clause-resident c = λ a old new b. settles_resident a old new b

pub returns-clause-absent : goal.returns-clause-absent
returns-clause-absent c = λ a old new b. settles_absent a old new b
