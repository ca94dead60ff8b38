-- Where the children of nodes stand, as nodes are opened.
use Rattle.std.proofs.Common.{ℕ, zero, suc, get_or, None, ◌⊎◌, inl, inr, ◌≡◌, ◌≢◌, ◌+◌, ◌-◌, ◌<◌, Some, List, [], ◌∷◌, ◌++◌, length, take, drop, refl, sym, ◌∙◌, ap, subst, arith, append-nil, length-append, length-drop, take_all}
use Rattle.std.specs.Prelude.{IsTrue, slice_set}
use Rattle.std.specs.List.{slice_get}
use Rattle.std.proofs.Math.Seq.{drop-append_seam}
use Rattle.std.proofs.lemmas.List.{drop-append-le, get_or-set_other, get_or-set_same, length-take, take-append-le}
use Rattle.std.proofs.lemmas.Bool.{cases_eq}
use Rattle.std.proofs.lemmas.Option.{get_or_from_slice_get, slice_get-get_or, slice_get_read}
use Rattle.std.proofs.lemmas.List.Elements.{All-cons, All-nil}
use Rattle.doc_store.specs.Store.{Stored}
use Rattle.expanded_tree.specs.declared.node.Node.{Node}
use Rattle.expanded_tree.specs.Tree.{Tree, children_of}
use Rattle.tree_nodes.specs.Growth.{Grows}
use Rattle.tree_nodes.specs.Nodes.{IsSoundList, node_trees}
use Rattle.tree_nodes.specs.TreeIn.{no_tree, tree_in}
use Rattle.tree_nodes.proofs.Elements.{slice_get-drop, slice_get-take}
use Rattle.tree_nodes.proofs.Growing.{grows_length, length-node_trees}
use Rattle.tree_nodes.proofs.NodeTrees.{tree_left}
use Rattle.tile_arena.specs.declared.children.Children.{Children}
use Rattle.tile_arena.specs.declared.held.Held.{Held}
use Rattle.tile_arena.specs.Children.{AreAtHand, AreChildren, children_at, closed, is_at_hand}
use Rattle.tile_arena.specs.Standing.{IsHeld}
use Rattle.tile_arena.proofs.Steps.{Steps}

-- a node that isn't known more has the children that it had
abbrev pub SameChildren : List Children → List Children → Type 0
SameChildren old new = (place : ℕ) → children_at new place ≡ children_at old place

same_at_hand : (trees : List Tree) (old new : List Children) → SameChildren old new
    → AreAtHand trees old → AreAtHand trees new
same_at_hand trees old new same all place h =
    subst (AreChildren trees place) (sym (same place))
    (all place (subst (λ (c : Children). IsTrue c.at_hand) (same place) h))

still_at_hand : (old new : List Children) → SameChildren old new → (place : ℕ)
    → IsTrue (is_at_hand old place) → IsTrue (is_at_hand new place)
still_at_hand old new same place h =
    subst (λ (c : Children). IsTrue c.at_hand) (sym (same place)) h

-- further nodes behind
children_left : (trees more : List Tree) (place : ℕ) (c : Children) → AreChildren trees place c
    → AreChildren (trees ++ more) place c
children_left trees more place c a = record {
  there = omega (arith, a.there, length-append trees more);
  within = omega (arith, a.within, length-append trees more);
  children = ap children_of (tree_left trees more place a.there) ∙ a.children
      ∙ sym (ap (take c.count) (drop-append-le c.first trees more (omega (arith, a.within)))
      ∙ take-append-le c.count (drop c.first trees) more
      (omega (arith, a.within, length-drop c.first trees)));
}

-- the nodes behind are the children
children_behind : (trees more : List Tree) (place : ℕ) (c : Children) → place < length trees
    → more ≡ children_of (tree_in trees place) → c.first ≡ length trees → c.count ≡ length more
    → AreChildren (trees ++ more) place c
children_behind trees more place c there is first count = record {
  there = omega (arith, there, length-append trees more);
  within = omega (arith, first, count, length-append trees more);
  children = ap children_of (tree_left trees more place there) ∙ sym is
      ∙ sym (ap (λ k. take c.count (drop k (trees ++ more))) first
      ∙ ap (take c.count) (drop-append_seam trees more)
      ∙ take_all c.count more (omega (arith, count)));
}

-- ---- how many children there are

pub child_number : (trees : List Tree) (place : ℕ) (c : Children) → AreChildren trees place c
    → c.count ≡ length (children_of (tree_in trees place))
child_number trees place c a =
    sym (ap length a.children ∙ length-take c.count (drop c.first trees)
    ∙ omega (arith, a.within, length-drop c.first trees))

-- a node that has its children at hand is known
hand_there : (all : List Children) (place : ℕ) → IsTrue (is_at_hand all place)
    → place < length all
hand_there [] place h = absurd (cc)
hand_there (c ∷ cs) zero h = omega arith
hand_there (c ∷ cs) (suc place) h = omega (arith, hand_there cs place h)

-- what is known of the children of a node that has them at hand
pub read_children : (trees : List Tree) (all : List Children) (place : ℕ) (c : Children)
    → AreAtHand trees all → IsTrue (is_at_hand all place)
    → c ≡ get_or all place c → AreChildren trees place c
read_children trees all place c are h at =
    subst (AreChildren trees place)
    (get_or_from_slice_get all place c closed
    (slice_get_read all _ place c refl (hand_there all place h) at)) (are place h)

pub child_within : (trees : List Tree) (place : ℕ) (c : Children) → AreChildren trees place c
    → (i : ℕ) → i < length (children_of (tree_in trees place)) → c.first + i < length trees
child_within trees place c a i h =
    omega (arith, h, child_number trees place c a, a.within)

pub child_tree : (trees : List Tree) (place : ℕ) (c : Children) → AreChildren trees place c
    → (i : ℕ) → i < length (children_of (tree_in trees place))
    → slice_get (children_of (tree_in trees place)) i ≡ Some (tree_in trees (c.first + i))
child_tree trees place c a i h =
    ap (λ ts. slice_get ts i) a.children
    ∙ slice_get-take (drop c.first trees) c.count i (omega (arith, h, child_number trees place c a))
    ∙ slice_get-drop trees c.first i
    ∙ slice_get-get_or trees (c.first + i) no_tree
    (omega (arith, h, child_number trees place c a, a.within))

-- ---- what opening leaves

module _ (store : Stored) (old new : Held) (held : IsHeld store old) where
  -- nothing is opened, whatever is known of children
  pub unopened : node_trees store new.list ≡ node_trees store old.list
      → IsSoundList store new.list → SameChildren old.children.items new.children.items
      → new.opened.items ≡ old.opened.items
      → Steps store old new [] []
  unopened trees sound same opened = record {
    trees = trees ∙ sym (append-nil (node_trees store old.list));
    sound = sound;
    children = subst (λ ts. AreAtHand ts new.children.items) (sym trees)
        (same_at_hand (node_trees store old.list) old.children.items new.children.items same
        held.children);
    stay = still_at_hand old.children.items new.children.items same;
    opens = opened ∙ sym (append-nil old.opened.items);
    valid = All-nil (λ (n : Node). n.number < length old.list.nodes.items);
    few = omega arith;
  }

  -- a node is opened whose children are at hand
  pub opened_again : (n : Node) → new.list ≡ old.list
      → SameChildren old.children.items new.children.items
      → new.opened.items ≡ old.opened.items ++ n ∷ [] → n.number < length old.list.nodes.items
      → Steps store old new [] (n ∷ [])
  opened_again n list same opened within = record {
    trees = ap (node_trees store) list ∙ sym (append-nil (node_trees store old.list));
    sound = subst (IsSoundList store) (sym list) held.sound;
    children = subst (λ l. AreAtHand (node_trees store l) new.children.items) (sym list)
        (same_at_hand (node_trees store old.list) old.children.items new.children.items same
        held.children);
    stay = still_at_hand old.children.items new.children.items same;
    opens = opened;
    valid = All-cons (λ (m : Node). m.number < length old.list.nodes.items) n [] within
        (All-nil (λ (m : Node). m.number < length old.list.nodes.items));
    few = omega arith;
  }

  -- a node is opened whose children weren't at hand
  module _ (n : Node) (within : n.number < length old.list.nodes.items) (known : List Children)
      (c : Children) (there : n.number < length known)
      (same : SameChildren old.children.items known)
      (set : new.children.items ≡ slice_set known n.number c)
      (opened : new.opened.items ≡ old.opened.items ++ n ∷ [])
      (g : Grows store None old.list new.list
      (children_of (tree_in (node_trees store old.list) n.number)))
      (at_hand : IsTrue c.at_hand) (first : c.first ≡ length old.list.nodes.items)
      (count : c.count ≡ length new.list.nodes.items - length old.list.nodes.items) where
    abbrev more : List Tree
    more = children_of (tree_in (node_trees store old.list) n.number)

    long : length (node_trees store old.list) ≡ length old.list.nodes.items
    long = length-node_trees store old.list

    pub count_is : c.count ≡ length (children_of (tree_in (node_trees store old.list) n.number))
    count_is = omega (arith, count, grows_length store None old.list new.list more g)

    here : children_at new.children.items n.number ≡ c
    here = ap (λ cs. children_at cs n.number) set ∙ get_or-set_same known n.number c closed there

    elsewhere : (place : ℕ) → place ≢ n.number
        → children_at new.children.items place ≡ children_at old.children.items place
    elsewhere place other =
        ap (λ cs. children_at cs place) set ∙ get_or-set_other known n.number place c closed other
        ∙ same place

    at_place : (place : ℕ) → ((place ≡ n.number) ⊎ (place ≡ n.number → ⊥))
        → IsTrue (is_at_hand new.children.items place)
        → AreChildren (node_trees store new.list) place (children_at new.children.items place)
    at_place place (inl e) h =
        subst (λ k. AreChildren (node_trees store new.list) k (children_at new.children.items k))
        (sym e)
        (subst (AreChildren (node_trees store new.list) n.number) (sym here)
        (subst (λ ts. AreChildren ts n.number c) (sym g.trees)
        (children_behind (node_trees store old.list) more n.number c (omega (arith, within, long))
        refl (omega (arith, first, long)) count_is)))
    at_place place (inr other) h =
        subst (AreChildren (node_trees store new.list) place) (sym (elsewhere place other))
        (subst (λ ts. AreChildren ts place (children_at old.children.items place)) (sym g.trees)
        (children_left (node_trees store old.list) more place
        (children_at old.children.items place)
        (held.children place
        (subst (λ (d : Children). IsTrue d.at_hand) (elsewhere place other) h))))

    stays_at_hand : (place : ℕ) → ((place ≡ n.number) ⊎ (place ≡ n.number → ⊥))
        → IsTrue (is_at_hand old.children.items place)
        → IsTrue (is_at_hand new.children.items place)
    stays_at_hand place (inl e) h =
        subst (λ k. IsTrue (is_at_hand new.children.items k)) (sym e)
        (subst (λ (d : Children). IsTrue d.at_hand) (sym here) at_hand)
    stays_at_hand place (inr other) h =
        subst (λ (d : Children). IsTrue d.at_hand) (sym (elsewhere place other)) h

    pub now_at_hand : IsTrue (is_at_hand new.children.items n.number)
    now_at_hand = subst (λ (d : Children). IsTrue d.at_hand) (sym here) at_hand

    same_tree : tree_in (node_trees store new.list) n.number
        ≡ tree_in (node_trees store old.list) n.number
    same_tree = ap (λ ts. tree_in ts n.number) g.trees
        ∙ tree_left (node_trees store old.list) more n.number (omega (arith, within, long))

    pub opened_first : Steps store old new
        (children_of (tree_in (node_trees store old.list) n.number)) (n ∷ [])
    opened_first = record {
      trees = g.trees;
      sound = g.sound;
      children = λ place. at_place place (cases_eq place n.number);
      stay = λ place. stays_at_hand place (cases_eq place n.number);
      opens = opened;
      valid = All-cons (λ (m : Node). m.number < length old.list.nodes.items) n [] within
          (All-nil (λ (m : Node). m.number < length old.list.nodes.items));
      few = omega (arith, ap (λ t. length (children_of t)) same_tree);
    }
