use Rattle.std.proofs.Common.{◌∙◌, ap, arith, length}
use Rattle.cut_core.specs.WantMap.{wants_in}
use Rattle.view_notes.specs.Follows.{Noted}
use Rattle.view_notes.proofs.Asking.{asks_all, asks_next, asks_none}
use Rattle.view_notes.proofs.view_notes.ViewNotes.put_wants.Goals as goal

pub loop-number-init : goal.loop-number-init
loop-number-init g c =
    asks_none c.args.self.now (g.H.Holdings.holdings c.args.holdings.now) (wants_in c.args.wants.now)

pub loop-number-preserved : goal.loop-number-preserved
loop-number-preserved g c =
    let size = c.len-number-end.ensures ∙ c.self.inside.notes.ok.0 in
    let same = ap (λ (n : Noted). length n.notes) c.self.view_is in
    asks_next c.args.self.now (g.H.Holdings.holdings c.args.holdings.now) c.loop-number.number
    c.loop-number.waiting _ (wants_in c.args.wants.now) (wants_in c.loop-number.wants) _
    c.loop-number.invariant (omega (arith, c.loop-number-test.true, size, same))
    c.in_ok-waiting.ensures.waiting c.in_ok-waiting.ensures.wants

pub returns : goal.returns
returns g c =
    let size = c.len-number-end.ensures ∙ c.self.inside.notes.ok.0 in
    let same = ap (λ (n : Noted). length n.notes) c.self.view_is in
    asks_all c.args.self.now (g.H.Holdings.holdings c.args.holdings.now) c.loop-number.number
    c.loop-number.waiting (wants_in c.args.wants.now) (wants_in c.loop-number.wants)
    c.loop-number.invariant (omega (arith, c.loop-number-test.false, size, same))
