use Rattle.std.proofs.Common.{◌≡◌, ◌∙◌, ap, sym, true, false}
use Rattle.expanded_tree.specs.Tree.{addresses_of}
use Rattle.cut_core.specs.declared.want_map.WantMap.{WantMap}
use Rattle.cut_core.specs.WantMap.{wants_in}
use Rattle.cut_core.specs.Wants.{want_with, with_want}
use Rattle.cut_core.proofs.Wanting.{put_no, put_one}
use Rattle.cut_core.proofs.wants.put_missing.Goals as goal
use Rattle.cut_core.proofs.wants.put_missing.Goals.{then-is_missing+in_ok-key+in_ok-put, else-is_missing}

pub loop-i-preserved : goal.loop-i-preserved
loop-i-preserved g c =
    let holdings = g.H.Holdings.holdings c.args.context.now.holdings.now in
    let contents = addresses_of ((g.T.TileTree.standing c.args.tree.now).node_tree c.args.node) in
    let at = c.content-address.ensures in
    let f = want_with c.args.facts in
    elim c.if-is_missing.branch [
      | then-is_missing+in_ok-key+in_ok-put w ↦
          put_one holdings f (wants_in c.args.wants.now) contents c.loop-i.i
          c.content-address.result.now at _ _
          (sym c.is_missing.ensures ∙ w.if-is_missing.true) c.loop-i.invariant
          (ap wants_in w.wants-is ∙ w.in_ok-put.ensures
          ∙ ap (λ k. with_want (wants_in c.loop-i.wants) (f k)) w.in_ok-key.ensures)
      | else-is_missing w ↦
          ap wants_in w.wants-is
          ∙ put_no holdings f (wants_in c.args.wants.now) contents c.loop-i.i
          c.content-address.result.now at _
          (sym c.is_missing.ensures ∙ w.if-is_missing.false) c.loop-i.invariant
    ]
