use Rattle.std.proofs.Common.{◌≡◌, true, arith}
use Rattle.std.specs.Prelude.{slice_index_or}
use Rattle.std.proofs.lemmas.Option.{slice_get-get_or}
use Rattle.view_notes.specs.Users.{Happens, adds_to}
use Rattle.view_notes.proofs.EachFollows.{follows_all, follows_next, follows_none, tells_all}
use Rattle.view_notes.proofs.all_views.all_follow.Goals as goal

pub loop-view-init : goal.loop-view-init
loop-view-init g c =
    follows_none (Happens c.args.change c.args.address.now) (adds_to c.args.change ≡ true)
    (g.A.Awaited.awaited c.args.awaited.now) c.args.notes.now

pub loop-view-preserved : goal.loop-view-preserved
loop-view-preserved g c =
    follows_next (Happens c.args.change c.args.address.now) (adds_to c.args.change ≡ true)
    (g.A.Awaited.awaited c.args.awaited.now) c.loop-view.view-index c.args.notes.now
    c.loop-view.notes c.loop-view.none_leaves c.follow-none.result
    (slice_index_or c.loop-view.notes c.loop-view.view-index c.view-item.result)
    c.follow-none.new.self c.loop-view.invariant
    (slice_get-get_or c.loop-view.notes c.loop-view.view-index c.view-item.result
    (omega (arith, c.loop-view-test.true, c.loop-view.auto.notes)))
    c.follow-none.ensures.notes c.follow-none.ensures.leaving

pub returns-clause-notes : goal.returns-clause-notes
returns-clause-notes g c =
    follows_all (Happens c.args.change c.args.address.now) (adds_to c.args.change ≡ true)
    (g.A.Awaited.awaited c.args.awaited.now) c.loop-view.view-index c.args.notes.now
    c.loop-view.notes c.loop-view.none_leaves c.loop-view.invariant
    (omega (arith, c.loop-view-test.false, c.loop-view.auto.notes))

pub returns-clause-leaving : goal.returns-clause-leaving
returns-clause-leaving g c =
    tells_all (Happens c.args.change c.args.address.now) (adds_to c.args.change ≡ true)
    (g.A.Awaited.awaited c.args.awaited.now) c.loop-view.view-index c.args.notes.now
    c.loop-view.notes c.loop-view.none_leaves c.loop-view.invariant c.loop-view-test.false
