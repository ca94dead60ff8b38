use Rattle.std.proofs.Common.{◌∙◌, Some, ap, get_or, sym}
use Rattle.std.specs.Prelude.{option_map}
use Rattle.load_queue.proofs.Bests.{all_passed_over, best_at, none_best}
use Rattle.load_queue.proofs.ranked_queue.RankedQueue.best.Goals as goal

pub returns-in_err-first : goal.returns-in_err-first
returns-in_err-first g c =
    let s = c.self.inside in
    rw (← c.self.view_is)
    (ap (option_map (λ want. want.now)) c.from_residual.ensures
    ∙ sym (none_best s.order s.wants s.ranks c.self.invariant.within c.self.invariant.scores
    c.in_err-first.ensures))

pub returns-then-first : goal.returns-then-first
returns-then-first g c =
    let s = c.self.inside in
    let first = c.in_ok-first.first in
    rw (← c.self.view_is)
    (sym
    (all_passed_over s.order s.wants s.ranks first.rank first.place c.self.invariant.within
    c.self.invariant.scores c.in_ok-first.ensures c.if-first.true))

pub returns : goal.returns
returns g c =
    let s = c.self.inside in
    let first = c.in_ok-first.first in
    let e = c.index-as_slice-first.result in
    let at =
    c.index-as_slice-first.is ∙ ap (λ es. get_or es first.place e) c.as_slice.ensures in
    rw (← c.self.view_is)
    (ap (λ e. Some e.want) (sym c.index-as_slice-first.is)
    ∙ best_at s.order s.wants s.ranks first.rank first.place e c.self.invariant.within
    c.self.invariant.scores c.in_ok-first.ensures c.if-first.false at)
