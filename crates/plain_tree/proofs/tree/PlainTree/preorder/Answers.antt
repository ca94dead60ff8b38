use Rattle.std.proofs.lemmas.Result.{IfOk-weaker}
use Rattle.tree_nodes.proofs.Growing.{length-node_trees}
use Rattle.plain_tree.proofs.Tops.{all_valid}
use Rattle.plain_tree.proofs.tree.PlainTree.preorder.Goals as goal

pub returns-clause-valid : goal.returns-clause-valid
returns-clause-valid c =
    let t = c.self.inside in
    rw (← c.self.view_is)
    (IfOk-weaker c.list_preorder.result _ _
    (λ nodes all. all_valid nodes.items _ _ (length-node_trees t.store.now t.nodes.list) all)
    c.list_preorder.ensures.valid)
