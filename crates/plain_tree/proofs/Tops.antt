-- The root of a list of all nodes.
use Rattle.std.proofs.Common.{ℕ, ◌≡◌, ◌<◌, Some, None, List, length, sym, ◌∙◌, rules, arith}
use Rattle.std.specs.Prelude.{All, IsTrue, nat_lt}
use Rattle.std.proofs.lemmas.List.Elements.{All-weaker}
use Rattle.std.proofs.lemmas.Option.{slice_get-get_or, slice_get_past}
use Rattle.doc_store.specs.Store.{Stored}
use Rattle.expanded_tree.specs.declared.node.Node.{Node}
use Rattle.plain_tree.specs.declared.plain_list.PlainList.{PlainList}
use Rattle.plain_tree.specs.Listed.{IsListed}
use Rattle.tree_nodes.specs.Nodes.{node_trees}
use Rattle.tree_nodes.specs.TreeIn.{no_tree, tree_in}
use Rattle.tree_nodes.specs.Trees.{stored_tree}
use Rattle.tree_nodes.proofs.Growing.{length-node_trees}

pub no_root : (store : Stored) (plain : PlainList) → IsListed store plain → length plain.list.nodes.items ≡ 0
    → stored_tree store ≡ None
no_root store plain l none =
    sym l.root ∙ slice_get_past (node_trees store plain.list) 0
    (omega (arith, none, length-node_trees store plain.list))

pub a_root : (store : Stored) (plain : PlainList) → IsListed store plain → 0 < length plain.list.nodes.items
    → stored_tree store ≡ Some (tree_in (node_trees store plain.list) 0)
a_root store plain l some =
    sym l.root ∙ slice_get-get_or (node_trees store plain.list) 0 no_tree
    (omega (arith, some, length-node_trees store plain.list))

pub all_valid : (nodes : List Node) (count count' : ℕ) → count ≡ count'
    → All (λ (n : Node). n.number < count) nodes
    → All (λ (n : Node). IsTrue (nat_lt n.number count')) nodes
all_valid nodes count count' e all =
    All-weaker (λ (n : Node). n.number < count) (λ (n : Node). IsTrue (nat_lt n.number count'))
    (λ n h. let within : n.number < count' = omega (arith, h, e) in
    search (rules, within)) nodes all
