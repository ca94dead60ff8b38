use Rattle.std.proofs.Common.{◌∙◌, refl}
use Rattle.std.proofs.lemmas.Option.{slice_get_read}
use Rattle.cut_core.specs.WantMap.{wants_in}
use Rattle.view_notes.proofs.Asking.{views_all, views_next}
use Rattle.view_notes.proofs.view_notes.wanted_by.Goals as goal

pub loop-notes-preserved : goal.loop-notes-preserved
loop-notes-preserved g c =
    views_next c.args.views.now (g.H.Holdings.holdings c.args.holdings.now) c.loop-notes.notes-index
    c.notes-item.result (wants_in c.loop-notes.wants) (wants_in c.put_wants.new.wants)
    c.loop-notes.invariant
    (slice_get_read c.args.views.now _ c.loop-notes.notes-index c.notes-item.result refl
    c.loop-notes-test.true c.notes-item.is)
    c.in_ok-put_wants.ensures

pub returns : goal.returns
returns g c = λ views root are.
    c.in_ok-into_list.ensures
    ∙ views_all c.args.views.now (g.H.Holdings.holdings c.args.holdings.now)
    c.loop-notes.notes-index (wants_in c.loop-notes.wants) c.loop-notes.invariant
    c.loop-notes-test.false views root are
