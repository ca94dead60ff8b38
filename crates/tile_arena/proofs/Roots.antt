-- The root of an arena's tree.
use Rattle.std.proofs.Common.{ℕ, ◌≡◌, ◌<◌, ◌≤◌, true, false, Bool, Option, Some, None, option_to_list, List, [], ◌++◌, length, refl, sym, ◌∙◌, ap, subst, arith, rules}
use Rattle.std.specs.Prelude.{All, IsTrue, nat_lt}
use Rattle.std.proofs.lemmas.List.Elements.{All-nil}
use Rattle.doc_store.specs.Store.{Stored}
use Rattle.expanded_tree.specs.declared.node.Node.{Node}
use Rattle.expanded_tree.specs.Tree.{Tree}
use Rattle.tree_nodes.specs.Growth.{Grows}
use Rattle.tree_nodes.specs.Nodes.{node_trees}
use Rattle.tree_nodes.specs.TreeIn.{tree_in}
use Rattle.tree_nodes.specs.Trees.{stored_tree}
use Rattle.tree_nodes.proofs.Growing.{length-node_trees}
use Rattle.tree_nodes.proofs.RootTree.{empty_sound, no_trees}
use Rattle.tile_arena.specs.declared.children.Children.{Children}
use Rattle.tile_arena.specs.declared.held.Held.{Held}
use Rattle.tile_arena.specs.Children.{AreAtHand, is_at_hand}
use Rattle.tile_arena.specs.Standing.{HasRoot, IsEmptied, IsHeld, IsRootAlone}

none_at_hand : (trees : List Tree) (all : List Children) → all ≡ [] → AreAtHand trees all
none_at_hand trees all none place h =
    let never : false ≡ true = subst (λ (cs : List Children). IsTrue (is_at_hand cs place)) none h in
    absurd (cc)

-- no node, over any store
pub emptied_held : (store : Stored) (held : Held) → IsEmptied held → IsHeld store held
emptied_held store held e = record {
  sound = empty_sound store held.list e.list;
  children = none_at_hand (node_trees store held.list) held.children.items e.children;
  valid = subst (All (λ (n : Node). n.number < length held.list.nodes.items)) (sym e.opened)
      (All-nil (λ (n : Node). n.number < length held.list.nodes.items));
  few = omega (arith, ap length e.list.nodes);
}

few_root : (o : Option Tree) → length (option_to_list o) ≤ 1
few_root None = omega arith
few_root (Some t) = omega arith

-- ---- the root is made

module _ (store : Stored) (old new : Held) (e : IsEmptied old)
    (g : Grows store None old.list new.list (option_to_list (stored_tree store)))
    (children : new.children.items ≡ []) (opened : new.opened.items ≡ []) where
  all_trees : node_trees store new.list ≡ option_to_list (stored_tree store)
  all_trees = g.trees
      ∙ ap (λ ts. ts ++ option_to_list (stored_tree store)) (no_trees store old.list e.list)

  count : length new.list.nodes.items ≡ length (option_to_list (stored_tree store))
  count = sym (length-node_trees store new.list) ∙ ap length all_trees

  root_held : IsHeld store new
  root_held = record {
    sound = g.sound;
    children = none_at_hand (node_trees store new.list) new.children.items children;
    valid = subst (All (λ (n : Node). n.number < length new.list.nodes.items)) (sym opened)
        (All-nil (λ (n : Node). n.number < length new.list.nodes.items));
    few = omega (arith, count, few_root (stored_tree store));
  }

  alone : (some : Bool) (o : Option Tree) → stored_tree store ≡ o
      → (IsTrue some → 0 < length (option_to_list o))
      → (some ≡ false → length (option_to_list o) ≡ 0)
      → IsRootAlone store new some
  alone true None is has none = absurd (omega (arith, has refl))
  alone true (Some t) is has none = (
    count ∙ ap (λ p. length (option_to_list p)) is,
    is ∙ ap (λ (ts : List Tree). Some (tree_in ts 0)) (sym (all_trees ∙ ap option_to_list is)),
  )
  alone false None is has none = (count ∙ ap (λ p. length (option_to_list p)) is, is)
  alone false (Some t) is has none = absurd (omega (arith, none refl))

  pub has_root : (some : Bool) → (IsTrue some → 0 < length new.list.nodes.items)
      → (some ≡ false → length new.list.nodes.items ≡ 0)
      → HasRoot store new some
  has_root some has none = record {
    held_is = root_held;
    opened = opened;
    alone = alone some (stored_tree store) refl (λ h. omega (arith, has h, count))
        (λ h. omega (arith, none h, count));
  }

pub some_by : (n : ℕ) → IsTrue (nat_lt 0 n) → 0 < n
some_by n h = search (rules, h)

pub none_by : (n : ℕ) → nat_lt 0 n ≡ false → n ≡ 0
none_by n h = search (rules, h)
