use Rattle.std.proofs.Common.{◌∙◌, ap, get_or, map, sym}
use Rattle.load_queue.specs.Entries.{score}
use Rattle.load_queue.proofs.Changes.{none_changed, queue_changes, ranked_still, scores_set}
use Rattle.load_queue.proofs.ranked_queue.RankedQueue.change.Goals as goal

pub invariant_of-self : goal.invariant_of-self
invariant_of-self g c =
    let s = c.self.inside in
    let key = c.args.key.now in
    let same =
    c.change.ensures.changed
    ∙ none_changed c.args.change key s.wants (sym c.change.ensures.place ∙ c.in_default.is) in
    ranked_still s.order (g.R.Rank.order s.rank) c.args.change key s.wants c.change.new.self s.ranks
    s.ranks c.change.ensures.changed c.self.invariant
    (c.self.invariant.scores ∙ ap (map (score s.order)) (sym same))

pub returns-in_default : goal.returns-in_default
returns-in_default g c =
    let s = c.self.inside in
    rw (← c.self.view_is)
    (queue_changes s.order c.args.change c.args.key.now s.wants c.change.new.self
    c.change.ensures.changed)

pub invariant_of-self-2 : goal.invariant_of-self-2
invariant_of-self-2 g c =
    let s = c.self.inside in
    let e = c.index-as_slice-place.result in
    let n = c.in-Some.place in
    let at = c.index-as_slice-place.is ∙ ap (λ es. get_or es n e) c.as_slice.ensures in
    let rank =
    c.score-rank.ensures.score ∙ ap (λ by. score by e) c.self.invariant.by ∙ ap (score s.order) at
    in
    ranked_still s.order (g.R.Rank.order s.rank) c.args.change c.args.key.now s.wants
    c.change.new.self s.ranks c.set.new.self c.change.ensures.changed c.self.invariant
    (c.set.ensures
    ∙ scores_set s.order s.wants c.change.new.self n e c.score-rank.result s.ranks
    (c.change.ensures.only n e c.in-Some.is) c.self.invariant.scores rank)

pub returns : goal.returns
returns g c =
    let s = c.self.inside in
    rw (← c.self.view_is)
    (queue_changes s.order c.args.change c.args.key.now s.wants c.change.new.self
    c.change.ensures.changed)
