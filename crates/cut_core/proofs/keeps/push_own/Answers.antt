use Rattle.std.proofs.Common.{◌≡◌, ◌∙◌, ap, true, false}
use Rattle.expanded_tree.specs.Tree.{addresses_of}
use Rattle.cut_core.specs.Visits.{content_key}
use Rattle.cut_core.proofs.Owns.{pushed, passed}
use Rattle.cut_core.proofs.keeps.push_own.Goals as goal
use Rattle.cut_core.proofs.keeps.push_own.Goals.{then-not-absent+in_ok-key+in_ok-push, else-not-absent}

pub loop-i-preserved : goal.loop-i-preserved
loop-i-preserved g c =
    let holdings = g.H.Holdings.holdings c.args.holdings.now in
    let here = (g.T.TileTree.standing c.args.tree.now).node_tree c.args.node in
    let a = c.content-address.result.now in
    let at = c.content-address.ensures in
    elim c.if-not-absent.branch [
      | then-not-absent+in_ok-key+in_ok-push w ↦
          let out : holdings.absent a ≡ false = cc in
          pushed holdings (addresses_of here) c.loop-i.i a at content_key out _ _ _ _
          w.in_ok-key.ensures c.loop-i.invariant (w.keys-is ∙ w.in_ok-push.ensures.ok)
      | else-not-absent w ↦
          let out : holdings.absent a ≡ true = cc in
          w.keys-is ∙ passed holdings (addresses_of here) c.loop-i.i a at content_key out _ _
          c.loop-i.invariant
    ]
