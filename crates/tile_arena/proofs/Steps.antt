-- What opening leaves of an arena's nodes.
use Rattle.std.proofs.Common.{ℕ, ◌≡◌, ◌+◌, ◌<◌, ◌≤◌, List, [], ◌∷◌, ◌++◌, length, map, refl, sym, ◌∙◌, ap, subst, arith, rules, length-append}
use Rattle.std.specs.Prelude.{All, IsTrue}
use Rattle.std.proofs.lemmas.List.{map-append}
use Rattle.std.proofs.lemmas.List.Elements.{All-append, All-head, All-tail, All-weaker}
use Rattle.doc_store.specs.Store.{Stored}
use Rattle.expanded_tree.specs.declared.node.Node.{Node}
use Rattle.expanded_tree.specs.Standing.{Keeps}
use Rattle.expanded_tree.specs.Tree.{Tree}
use Rattle.tree_nodes.specs.Nodes.{IsSoundList, node_trees}
use Rattle.tree_nodes.specs.TreeIn.{tree_in}
use Rattle.tree_nodes.proofs.Growing.{length-node_trees}
use Rattle.tree_nodes.proofs.NodeTrees.{tree_left}
use Rattle.tile_arena.specs.declared.held.Held.{Held}
use Rattle.tile_arena.specs.Children.{AreAtHand, child_count, is_at_hand}
use Rattle.tile_arena.specs.Standing.{IsHeld, opened_trees, standing_in}

-- further nodes for these trees, while these nodes are opened
pub record Steps (store : Stored) (old new : Held) (more : List Tree)
    (opened : List Node) : Type 0 where
  pub trees : node_trees store new.list ≡ node_trees store old.list ++ more
  pub sound : IsSoundList store new.list
  pub children : AreAtHand (node_trees store new.list) new.children.items
  pub stay : (place : ℕ) → IsTrue (is_at_hand old.children.items place)
      → IsTrue (is_at_hand new.children.items place)
  pub opens : new.opened.items ≡ old.opened.items ++ opened
  pub valid : All (λ (n : Node). n.number < length old.list.nodes.items) opened
  pub few : length more ≤ child_count
      (map (λ (n : Node). tree_in (node_trees store new.list) n.number) opened)

child_count-append : (ts us : List Tree) → child_count (ts ++ us) ≡ child_count ts + child_count us
child_count-append [] us = omega arith
child_count-append (t ∷ ts) us = omega (arith, child_count-append ts us)

-- nodes have the same trees where further ones stand behind
same_trees : (trees more : List Tree) (ns : List Node)
    → All (λ (n : Node). n.number < length trees) ns
    → map (λ (n : Node). tree_in (trees ++ more) n.number) ns
    ≡ map (λ (n : Node). tree_in trees n.number) ns
same_trees trees more [] all = refl
same_trees trees more (n ∷ ns) all =
    ap (λ t. t ∷ map (λ (m : Node). tree_in (trees ++ more) m.number) ns)
    (tree_left trees more n.number
    (All-head (λ (m : Node). m.number < length trees) n ns all))
    ∙ ap (λ ts. tree_in trees n.number ∷ ts) (same_trees trees more ns
    (All-tail (λ (m : Node). m.number < length trees) n ns all))

module _ (store : Stored) (old new : Held) (more : List Tree) (opened : List Node)
    (s : Steps store old new more opened) where
  long : length (node_trees store old.list) ≡ length old.list.nodes.items
  long = length-node_trees store old.list

  pub longer : length new.list.nodes.items ≡ length old.list.nodes.items + length more
  longer =
      omega (
        arith,
        long,
        length-node_trees store new.list,
        ap length s.trees,
        length-append (node_trees store old.list) more,
      )

  tree_stays : (place : ℕ) → place < length old.list.nodes.items
      → tree_in (node_trees store new.list) place ≡ tree_in (node_trees store old.list) place
  tree_stays place h =
      ap (λ ts. tree_in ts place) s.trees
      ∙ tree_left (node_trees store old.list) more place (omega (arith, long, h))

  pub step_keeps : Keeps (standing_in store old) (standing_in store new)
  step_keeps = record {
    tree = refl;
    valid = λ n h.
        let within : n.number < length old.list.nodes.items = search (rules, h) in
        let still : n.number < length new.list.nodes.items = omega (arith, within, longer) in
        search (rules, still);
    same = λ n h.
        let within : n.number < length old.list.nodes.items = search (rules, h) in
        tree_stays n.number within;
    at_hand = λ n h. s.stay n.number h;
  }

  module _ (held : IsHeld store old) where
    valid_trees : All (λ (n : Node). n.number < length (node_trees store old.list)) old.opened.items
    valid_trees = All-weaker (λ (n : Node). n.number < length old.list.nodes.items)
        (λ (n : Node). n.number < length (node_trees store old.list))
        (λ n h. omega (arith, h, long)) old.opened.items held.valid

    counted : child_count (opened_trees store new)
        ≡ child_count (opened_trees store old) + child_count
        (map (λ (n : Node). tree_in (node_trees store new.list) n.number) opened)
    counted =
        ap (λ ns. child_count (map (λ (n : Node). tree_in (node_trees store new.list) n.number) ns))
        s.opens
        ∙ ap child_count (map-append (λ (n : Node). tree_in (node_trees store new.list) n.number)
        old.opened.items opened)
        ∙ child_count-append
        (map (λ (n : Node). tree_in (node_trees store new.list) n.number) old.opened.items)
        (map (λ (n : Node). tree_in (node_trees store new.list) n.number) opened)
        ∙ ap (λ k. k + child_count
        (map (λ (n : Node). tree_in (node_trees store new.list) n.number) opened))
        (ap (λ ts. child_count (map (λ (n : Node). tree_in ts n.number) old.opened.items)) s.trees
        ∙ ap child_count
        (same_trees (node_trees store old.list) more old.opened.items valid_trees))

    pub step_held : IsHeld store new
    step_held = record {
      sound = s.sound;
      children = s.children;
      valid = subst (All (λ (n : Node). n.number < length new.list.nodes.items)) (sym s.opens)
          (All-weaker (λ (n : Node). n.number < length old.list.nodes.items)
          (λ (n : Node). n.number < length new.list.nodes.items)
          (λ n h. omega (arith, h, longer)) (old.opened.items ++ opened)
          (All-append (λ (n : Node). n.number < length old.list.nodes.items) old.opened.items
          opened held.valid s.valid));
      few = omega (arith, held.few, longer, s.few, counted);
    }
