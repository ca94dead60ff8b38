use Rattle.std.proofs.Common.{◌≡◌, ◌∙◌, ap, arith, filter, length, sym, true, false}
use Rattle.expanded_tree.specs.Tree.{addresses_of}
use Rattle.cut_core.proofs.Owns.{no_more}
use Rattle.view_notes.proofs.Owning.{own_more, resident_more, resident_same}
use Rattle.view_notes.proofs.note_lists.count_own.Goals as goal
use Rattle.view_notes.proofs.note_lists.count_own.Goals.{then-not-absent+then-resident, then-not-absent+else-resident, else-not-absent}

pub loop-i-preserved : goal.loop-i-preserved
loop-i-preserved g c =
    let h = g.H.Holdings.holdings c.args.holdings.now in
    let contents = addresses_of ((g.T.TileTree.standing c.args.tree.now).node_tree c.args.node) in
    let i = c.loop-i.i in
    let a = c.content-address.result.now in
    let at = c.content-address.ensures in
    let v = c.loop-i.invariant in
    elim c.if-not-absent.branch [
      | then-not-absent+then-resident w ↦
          let there : h.absent a ≡ false = cc in
          let held : h.resident a ≡ true = cc in
          record {
            own = omega (arith, w.own-is, v.own, own_more h contents i a at there);
            resident =
                omega (arith, w.resident-is, v.resident, resident_more h contents i a at there held);
            few = omega (arith, w.own-is, v.few);
            fewer = omega (arith, w.own-is, w.resident-is, v.fewer);
          }
      | then-not-absent+else-resident w ↦
          let there : h.absent a ≡ false = cc in
          let gone : h.resident a ≡ false = cc in
          record {
            own = omega (arith, w.own-is, v.own, own_more h contents i a at there);
            resident =
                omega (arith, w.resident-is, v.resident, resident_same h contents i a at there gone);
            few = omega (arith, w.own-is, v.few);
            fewer = omega (arith, w.own-is, w.resident-is, v.fewer);
          }
      | else-not-absent w ↦
          let out : h.absent a ≡ true = cc in
          let same = no_more h contents i a at out in
          record {
            own = w.own-is ∙ v.own ∙ ap length (sym same);
            resident = w.resident-is ∙ v.resident ∙ ap (λ ys. length (filter h.resident ys)) (sym same);
            few = omega (arith, w.own-is, v.few);
            fewer = omega (arith, w.own-is, w.resident-is, v.fewer);
          }
    ]
