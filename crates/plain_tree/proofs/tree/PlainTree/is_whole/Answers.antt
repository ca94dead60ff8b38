use Rattle.std.proofs.Common.{◌≡◌, true, sym, ◌∙◌, rules, arith}
use Rattle.std.specs.Prelude.{◌==◌}
use Rattle.std.specs.Vec.{vec_len}
use Rattle.tree_nodes.specs.Trees.{stored_tree}
use Rattle.tree_nodes.proofs.Waits.{is_whole_if, none_wait}
use Rattle.plain_tree.proofs.tree.PlainTree.is_whole.Goals as goal

pub returns : goal.returns
returns c =
    let t = c.self.inside in
    let tree = stored_tree t.store.now in
    rw (← c.self.view_is) (
      λ h.
          let empty : (vec_len t.nodes.list.tables.waiting == 0) ≡ true = sym c.is_empty.ensures ∙ h in
          let zero : vec_len t.nodes.list.tables.waiting ≡ 0 = search (rules, empty) in
          is_whole_if tree (omega (arith, zero, t.nodes.list.tables.waiting.ok.0, c.self.invariant.waits)),
      λ w.
          let none : vec_len t.nodes.list.tables.waiting ≡ 0 =
          omega (arith, none_wait tree w, t.nodes.list.tables.waiting.ok.0, c.self.invariant.waits) in
          let empty : (vec_len t.nodes.list.tables.waiting == 0) ≡ true = search (rules, none) in
          c.is_empty.ensures ∙ empty,
    )
