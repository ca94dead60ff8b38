use Rattle.view_notes.specs.Changes.{is_one_of}
use Rattle.view_notes.proofs.EachView.{each_keeps_none, wanted_same}
use Rattle.view_notes.proofs.laws.unkept_evictions_change_nothing.Goals as goal

pub returns-clause-views : goal.returns-clause-views
returns-clause-views c = λ out views old new root ev keeps. wanted_same out old new ev root views keeps

pub returns-clause-notes : goal.returns-clause-notes
returns-clause-notes c = λ addresses ns views old new root are goes unkept.
    wanted_same (is_one_of addresses) old new goes.evicts root views
    (each_keeps_none addresses old root goes.there ns views are unkept)
