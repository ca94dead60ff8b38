-- What an arena stands for.
use Rattle.std.specs.Prelude.{ℕ, ◌≡◌, ◌≤◌, ◌<◌, ◌+◌, Bool, true, false, None, Some, nat_lt, All, List, [], length, map}
use Rattle.doc_store.specs.Store.{Stored}
use Rattle.expanded_tree.specs.declared.node.Node.{Node}
use Rattle.expanded_tree.specs.Standing.{Standing}
use Rattle.expanded_tree.specs.Tree.{Tree}
use Rattle.tree_nodes.specs.Growth.{IsEmptyList}
use Rattle.tree_nodes.specs.Nodes.{IsSoundList, node_trees}
use Rattle.tree_nodes.specs.TreeIn.{tree_in}
use Rattle.tree_nodes.specs.Trees.{stored_tree}
use Rattle.tile_arena.specs.declared.held.Held.{Held}
use Rattle.tile_arena.specs.Children.{AreAtHand, child_count, is_at_hand}

-- the tree of each node
abbrev pub trees_of : Stored → Held → List Tree
trees_of store held = node_trees store held.list

-- those of the opened nodes
abbrev pub opened_trees : Stored → Held → List Tree
opened_trees store held =
    map (λ (n : Node). tree_in (trees_of store held) n.number) held.opened.items

-- a node has its children at hand once it was opened
abbrev pub standing_in : Stored → Held → Standing
standing_in store held = record {
  tree = stored_tree store;
  node_tree = λ n. tree_in (trees_of store held) n.number;
  is_valid = λ n. nat_lt n.number (length held.list.nodes.items);
  at_hand = λ n. is_at_hand held.children.items n.number;
  opened = held.opened.items;
}

-- the nodes stand for trees, with their children where these are at hand; and there are no more
-- than the root and the children of the opened nodes
pub record IsHeld (store : Stored) (held : Held) : Type 0 where
  pub sound : IsSoundList store held.list
  pub children : AreAtHand (trees_of store held) held.children.items
  pub valid : All (λ (n : Node). n.number < length held.list.nodes.items) held.opened.items
  pub few : length held.list.nodes.items ≤ 1 + child_count (opened_trees store held)

-- there is no node
pub record IsEmptied (held : Held) : Type 0 where
  pub list : IsEmptyList held.list
  pub children : held.children.items ≡ []
  pub opened : held.opened.items ≡ []

-- there is the root alone, if the tree isn't empty
abbrev pub IsRootAlone : Stored → Held → Bool → Type 0
IsRootAlone store held true = (length held.list.nodes.items ≡ 1)
    × (stored_tree store ≡ Some (tree_in (trees_of store held) 0))
IsRootAlone store held false = (length held.list.nodes.items ≡ 0) × (stored_tree store ≡ None)

pub record HasRoot (store : Stored) (held : Held) (some : Bool) : Type 0 where
  pub held_is : IsHeld store held
  pub opened : held.opened.items ≡ []
  pub alone : IsRootAlone store held some

-- ---- arenas

-- a store, and the nodes that were made since the last `top`
pub record ArenaParts : Type 0 where
  pub store : Stored
  pub held : Held

abbrev pub standing_of : ArenaParts → Standing
standing_of arena = standing_in arena.store arena.held

-- how many nodes are held
abbrev pub kept_in : ArenaParts → ℕ
kept_in arena = length arena.held.list.nodes.items

-- whether a node has its children at hand
abbrev pub has_children_at_hand : ArenaParts → Node → Bool
has_children_at_hand arena n = is_at_hand arena.held.children.items n.number

-- no node is held, and none was opened
pub record HoldsNothing (arena : ArenaParts) : Type 0 where
  pub nodes : kept_in arena ≡ 0
  pub opened : arena.held.opened.items ≡ []
