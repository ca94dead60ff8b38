use Rattle.std.proofs.Common.{subst}
use Rattle.view_notes.specs.AllViews.{FollowEach}
use Rattle.view_notes.specs.Changes.{Goes}
use Rattle.view_notes.proofs.GoingEach.{goes_all, goes_next, goes_none}
use Rattle.view_notes.proofs.all_views.all_go_each.Goals as goal

pub loop-address-init : goal.loop-address-init
loop-address-init c = goes_none c.args.addresses.now c.args.notes.now

pub loop-address-preserved : goal.loop-address-preserved
loop-address-preserved c =
    goes_next c.args.addresses.now c.loop-address.address-index c.address-item.result
    c.args.notes.now c.loop-address.notes c.all_go.new.notes c.loop-address.invariant
    c.loop-address-test.true
    (subst (λ a. FollowEach (Goes a) c.loop-address.notes c.all_go.new.notes) c.address-item.is
    c.all_go.ensures)

pub returns : goal.returns
returns c =
    goes_all c.args.addresses.now c.loop-address.address-index c.args.notes.now
    c.loop-address.notes c.loop-address.invariant c.loop-address-test.false
