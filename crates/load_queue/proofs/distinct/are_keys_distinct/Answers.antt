use Rattle.std.proofs.Common.{List, map, true≢false, sym, subst, ap, refl}
use Rattle.std.specs.List.{IsDistinct}
use Rattle.tile_types.specs.declared.want.Want.{Want}
use Rattle.tile_types.specs.Keys.{same_key}
use Rattle.load_queue.proofs.Keys.{next_key, next_within}
use Rattle.load_queue.proofs.References.{keys_at, referred_on, referred_twice}
use Rattle.load_queue.proofs.distinct.are_keys_distinct.Goals as goal

pub loop-want-init : goal.loop-want-init
unfolding IsDistinct
loop-want-init c =
    let none = ap keys_at c.in_ok-seen.ensures.empty in
    record { keys = none; apart = subst (IsDistinct same_key) (sym none) tt }

pub returns-then-is_empty-clause-value : goal.returns-then-is_empty-clause-value
unfolding IsDistinct
returns-then-is_empty-clause-value c =
    let none = c.is_empty.ensures.0 c.if-is_empty.true in (
      λ same. subst (λ (ws : List Want). IsDistinct same_key (map (λ w. w.key) ws)) (sym none) tt,
      λ apart. refl,
    )

pub returns-then-not-branch-clause-value : goal.returns-then-not-branch-clause-value
returns-then-not-branch-clause-value c =
    let ws = c.args.wants.now in
    let items = c.as_slice-want-items.result.now in
    let i = c.loop-want.want-index in
    let w = c.want-item.result in (
      λ same. absurd (true≢false (sym same)),
      λ apart. absurd
          (referred_twice (map (λ w. w.key) ws) i w.key c.loop-want.seen.keys w.key
          c.in_ok-insert.field-0
          (next_within ws items i c.as_slice-want-items.ensures c.loop-want-test.true)
          c.loop-want.invariant.keys
          (next_key ws items i w w.key c.as_slice-want-items.ensures c.want-item.is refl)
          c.in_ok-insert.ensures.added c.if-not-branch.true apart),
    )

pub loop-want-preserved : goal.loop-want-preserved
loop-want-preserved c =
    let ws = c.args.wants.now in
    let items = c.as_slice-want-items.result.now in
    let i = c.loop-want.want-index in
    let w = c.want-item.result in
    let both =
    referred_on (map (λ w. w.key) ws) i w.key c.loop-want.seen.keys c.insert.new.self.keys _
    c.in_ok-insert.field-0
    (next_within ws items i c.as_slice-want-items.ensures c.loop-want-test.true)
    c.loop-want.invariant.keys c.loop-want.invariant.apart
    (next_key ws items i w w.key c.as_slice-want-items.ensures c.want-item.is refl)
    c.in_ok-insert.ensures.added c.if-not-branch.false c.in_ok-insert.ensures.keys in
    record { keys = both.0; apart = both.1 }
