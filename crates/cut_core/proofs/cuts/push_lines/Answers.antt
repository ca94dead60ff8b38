use Rattle.std.proofs.Common.{ℕ, ◌≡◌, ◌∙◌, ap, true, false, List, Vec, Global}
use Rattle.cut_core.specs.declared.line.CutLine.{CutLine}
use Rattle.expanded_tree.specs.Tree.{addresses_of, name_of}
use Rattle.cut_core.proofs.Owns.{pushed, passed}
use Rattle.cut_core.proofs.cuts.push_lines.Goals as goal
use Rattle.cut_core.proofs.cuts.push_lines.Goals.{then-not-absent+in_ok-tile+in_ok-address+in_ok-push, else-not-absent}

pub loop-i-preserved : goal.loop-i-preserved
loop-i-preserved g c =
    let holdings = g.H.Holdings.holdings c.args.holdings.now in
    let here = (g.T.TileTree.standing c.args.tree.now).node_tree c.args.node in
    let a = c.content-address.result.now in
    let at = c.content-address.ensures in
    let line : List ℕ → CutLine = λ address. record { tile = name_of here; address = address } in
    elim c.if-not-absent.branch [
      | then-not-absent+in_ok-tile+in_ok-address+in_ok-push w ↦
          let out : holdings.absent a ≡ false = cc in
          let same : ◌≡◌ {A = CutLine} (record {
            tile = w.in_ok-tile.tile;
            address =
                w.in_ok-address.address;
          }) (line a) = cc
          (w.in_ok-tile.ensures, w.in_ok-address.ensures.value) in
          pushed holdings (addresses_of here) c.loop-i.i a at line out _ _ _ _ same
          c.loop-i.invariant (ap (λ (v : Vec CutLine Global). v.items) w.lines-is
          ∙ w.in_ok-push.ensures.items)
      | else-not-absent w ↦
          let out : holdings.absent a ≡ true = cc in
          ap (λ (v : Vec CutLine Global). v.items) w.lines-is
          ∙ passed holdings (addresses_of here) c.loop-i.i a at line out _ _ c.loop-i.invariant
    ]
