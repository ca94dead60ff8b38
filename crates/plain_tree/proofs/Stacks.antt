-- All nodes in preorder, by the stretches of siblings that are left.
use Rattle.std.proofs.Common.{ℕ, zero, suc, ◌≡◌, ◌+◌, ◌-◌, ◌*◌, ◌<◌, ◌≤◌, Option, Some, List, [], ◌∷◌, ◌++◌, length, take, drop, map, refl, sym, ◌∙◌, ap, subst, arith, append_assoc, append-nil, length-append}
use Rattle.std.specs.List.{slice_get, All}
use Rattle.std.proofs.lemmas.List.{map-append}
use Rattle.std.proofs.lemmas.List.Elements.{All-push, All-nil, All-pop}
use Rattle.doc_store.specs.Store.{Stored}
use Rattle.expanded_tree.specs.declared.node.Node.{Node}
use Rattle.expanded_tree.specs.Tree.{Tree, Trees, tile, pending, no_trees, more_trees, list_of, children_of}
use Rattle.plain_tree.specs.declared.plain_list.PlainList.{PlainList}
use Rattle.plain_tree.specs.declared.preorder.Siblings.{Siblings}
use Rattle.tree_nodes.specs.TreeIn.{tree_in}
use Rattle.plain_tree.specs.Preorder.{tree_nodes, all_tree_nodes, nodes_of}
use Rattle.tree_nodes.specs.Trees.{stored_tree}
use Rattle.tree_nodes.specs.Nodes.{node_trees}
use Rattle.plain_tree.specs.Windows.{IsParent, end_of, first_of, window}
use Rattle.plain_tree.specs.Listed.{IsListed}
use Rattle.tree_nodes.proofs.Growing.{length-node_trees}
use Rattle.plain_tree.proofs.Sizes.{size-children, sizes}

-- ---- nodes of lists of trees

abbrev pub list_nodes : List Tree → List Tree
list_nodes [] = []
list_nodes (t ∷ ts) = tree_nodes t ++ list_nodes ts

all_listed : (ts : Trees) → all_tree_nodes ts ≡ list_nodes (list_of ts)
all_listed no_trees = refl
all_listed (more_trees t ts) = ap (λ ns. tree_nodes t ++ ns) (all_listed ts)

nodes-children : (t : Tree) → tree_nodes t ≡ t ∷ list_nodes (children_of t)
nodes-children (tile parts children) = ap (λ ns. tile parts children ∷ ns) (all_listed children)
nodes-children (pending name facts key) = refl

-- ---- stretches that are left, the topmost last

abbrev pub open_nodes : List Tree → List Siblings → List Tree
open_nodes trees [] = []
open_nodes trees (s ∷ ss) = open_nodes trees ss ++ list_nodes (window trees s.next s.end)

abbrev pub open_size : List Tree → List Siblings → ℕ
open_size trees [] = 0
open_size trees (s ∷ ss) = open_size trees ss + sizes (window trees s.next s.end)

stack-last : (trees : List Tree) (ss : List Siblings) (s : Siblings)
    → open_nodes trees (ss ++ s ∷ []) ≡ list_nodes (window trees s.next s.end)
    ++ open_nodes trees ss
stack-last trees [] s = sym (append-nil (list_nodes (window trees s.next s.end)))
stack-last trees (r ∷ ss) s =
    ap (λ ns. ns ++ list_nodes (window trees r.next r.end)) (stack-last trees ss s)
    ∙ append_assoc (list_nodes (window trees s.next s.end)) (open_nodes trees ss)
    (list_nodes (window trees r.next r.end))

size-last : (trees : List Tree) (ss : List Siblings) (s : Siblings)
    → open_size trees (ss ++ s ∷ []) ≡ open_size trees ss + sizes (window trees s.next s.end)
size-last trees [] s = refl
size-last trees (r ∷ ss) s = omega (arith, size-last trees ss s)

window_none : (trees : List Tree) (first end : ℕ) → end ≤ first → window trees first end ≡ []
window_none trees first end h = ap (λ k. take k (drop first trees)) (none first end h)
  where
    none : (a b : ℕ) → b ≤ a → b - a ≡ 0
    none a b k = omega arith

window_first : (trees : List Tree) (first end : ℕ) → first < end → end ≤ length trees
    → window trees first end ≡ tree_in trees first ∷ window trees (first + 1) end
window_first trees first end h k =
    ap (λ n. take n (drop first trees)) (one first end h)
    ∙ ap (take (suc (end - (first + 1)))) (drop_next trees first (omega arith))
  where
    one : (a b : ℕ) → a < b → b - a ≡ suc (b - (a + 1))
    one a b l = omega arith

    drop_next : (ts : List Tree) (i : ℕ) → i < length ts
        → drop i ts ≡ tree_in ts i ∷ drop (i + 1) ts
    drop_next [] i l = absurd (omega arith)
    drop_next (t ∷ ts) zero l = refl
    drop_next (t ∷ ts) (suc i) l = drop_next ts i (omega arith)
        ∙ ap (λ n. tree_in ts i ∷ drop n (t ∷ ts)) (next i)
      where
        next : (n : ℕ) → suc (n + 1) ≡ suc n + 1
        next n = omega arith

-- ---- the loop

pub record Open (store : Stored) (plain : PlainList) (listed : List Node)
    (stack : List Siblings) : Type 0 where
  pub valid : All (λ (n : Node). n.number < length (node_trees store plain.list)) listed
  pub within : All (λ (s : Siblings). s.end ≤ length (node_trees store plain.list)) stack
  pub nodes : map (λ (n : Node). tree_in (node_trees store plain.list) n.number) listed ++ open_nodes
      (node_trees store plain.list) stack
      ≡ nodes_of (stored_tree store)

all_one : (trees : List Tree) (end : ℕ) (root : Option Tree) → slice_get trees 0 ≡ root
    → ((length trees ≡ 0) → end ≡ 0) → (0 < length trees → end ≡ 1)
    → (end ≤ length trees) × (list_nodes (window trees 0 end) ≡ nodes_of root)
all_one [] end root e none some =
    let zero_end = none refl in (
      omega (arith, zero_end),
      ap (λ k. list_nodes (window [] 0 k)) zero_end ∙ ap nodes_of e,
    )
all_one (t ∷ ts) end root e none some =
    let one_end = some (omega arith) in (
      omega (arith, one_end),
      ap (λ k. list_nodes (window (t ∷ ts) 0 k)) one_end ∙ append-nil (tree_nodes t)
          ∙ ap nodes_of e,
    )

pub starts : (store : Stored) (plain : PlainList) (end : ℕ) → IsListed store plain
    → ((length plain.list.nodes.items ≡ 0) → end ≡ 0) → (0 < length plain.list.nodes.items → end ≡ 1)
    → Open store plain [] (record { next = 0; end = end } ∷ [])
starts store plain end l none some =
    let trees = node_trees store plain.list in
    let long = length-node_trees store plain.list in
    let root = all_one trees end (stored_tree store) l.root (λ h. none (omega (arith, long, h)))
    (λ h. some (omega (arith, long, h))) in
    record {
      valid = All-nil (λ (n : Node). n.number < length trees);
      within = All-push (λ (s : Siblings). s.end ≤ length trees) [] (record { next = 0; end = end })
          (All-nil (λ (s : Siblings). s.end ≤ length trees)) root.0;
      nodes = root.1;
    }

module _ (store : Stored) (plain : PlainList) (listed : List Node) (stack rest : List Siblings)
    (s : Siblings)
    (l : IsListed store plain) (w : Open store plain listed stack)
    (popped : stack ≡ rest ++ s ∷ []) where
  abbrev trees : List Tree
  trees = node_trees store plain.list

  both : All (λ (r : Siblings). r.end ≤ length (node_trees store plain.list)) (rest ++ s ∷ [])
  both = subst (All (λ (r : Siblings). r.end ≤ length (node_trees store plain.list))) popped w.within

  pub rest_within : All (λ (r : Siblings). r.end ≤ length (node_trees store plain.list)) rest
  rest_within = (All-pop (λ (r : Siblings). r.end ≤ length (node_trees store plain.list)) (rest ++ s ∷ [])
      rest (Some s) refl both).0

  pub top_within : s.end ≤ length (node_trees store plain.list)
  top_within = (All-pop (λ (r : Siblings). r.end ≤ length (node_trees store plain.list)) (rest ++ s ∷ [])
      rest (Some s) refl both).1

  top_nodes : map (λ (n : Node). tree_in (node_trees store plain.list) n.number) listed
      ++ (list_nodes (window (node_trees store plain.list) s.next s.end) ++ open_nodes
      (node_trees store plain.list) rest)
      ≡ nodes_of (stored_tree store)
  top_nodes = ap (λ ns. map (λ (n : Node). tree_in trees n.number) listed ++ ns)
      (sym (ap (open_nodes trees) popped ∙ stack-last trees rest s))
      ∙ w.nodes

  size_open : open_size (node_trees store plain.list) stack ≡ open_size (node_trees store plain.list) rest
      + sizes (window (node_trees store plain.list) s.next s.end)
  size_open = ap (open_size trees) popped ∙ size-last trees rest s

  pub passed : s.end ≤ s.next → Open store plain listed rest
  passed h = record {
    valid = w.valid;
    within = rest_within;
    nodes =
        ap (λ ts. map (λ (n : Node). tree_in trees n.number) listed
        ++ (list_nodes ts ++ open_nodes trees rest))
        (sym (window_none trees s.next s.end h)) ∙ top_nodes;
  }

  pub smaller_passed : 2 * open_size (node_trees store plain.list) rest + length rest < 2 * open_size
      (node_trees store plain.list) stack + length stack
  smaller_passed = omega (arith, size_open, ap length popped, length-append rest (s ∷ []))

  module _ (inside : s.next < s.end) where
    pub parent : IsParent (node_trees store plain.list) plain.bounds.items s.next
    parent = l.children s.next (omega (arith, inside, top_within))

    abbrev others : Siblings
    others = record { next = s.next + 1; end = s.end }

    abbrev below : Siblings
    below =
        record { next = first_of plain.bounds.items s.next; end = end_of plain.bounds.items s.next }

    abbrev here : Tree
    here = tree_in trees s.next

    window_here : window (node_trees store plain.list) s.next s.end ≡ tree_in (node_trees store plain.list)
        s.next ∷ window (node_trees store plain.list) (s.next + 1) s.end
    window_here = window_first trees s.next s.end inside top_within

    nodes_here : list_nodes (window (node_trees store plain.list) s.next s.end)
        ≡ tree_in (node_trees store plain.list) s.next
        ∷ (list_nodes (window (node_trees store plain.list) (first_of plain.bounds.items s.next)
        (end_of plain.bounds.items s.next))
        ++ list_nodes (window (node_trees store plain.list) (s.next + 1) s.end))
    nodes_here =
        ap list_nodes window_here
        ∙ ap (λ ns. ns ++ list_nodes (window trees (s.next + 1) s.end)) (nodes-children here)
        ∙ ap (λ ts. here ∷ (list_nodes ts ++ list_nodes (window trees (s.next + 1) s.end)))
        parent.children

    pub stepped : (n : Node) → n.number ≡ s.next
        → Open store plain (listed ++ n ∷ []) ((rest ++ others ∷ []) ++ below ∷ [])
    stepped n e = record {
      valid = All-push (λ (m : Node). m.number < length trees) listed n w.valid
          (omega (arith, e, inside, top_within));
      within = All-push (λ (r : Siblings). r.end ≤ length trees) (rest ++ others ∷ []) below
          (All-push (λ (r : Siblings). r.end ≤ length trees) rest others rest_within top_within)
          parent.within;
      nodes = ap (λ ns. ns ++ open_nodes trees ((rest ++ others ∷ []) ++ below ∷ []))
          (map-append (λ (m : Node). tree_in trees m.number) listed (n ∷ []))
          ∙ append_assoc (map (λ (m : Node). tree_in trees m.number) listed)
          (tree_in trees n.number ∷ []) (open_nodes trees ((rest ++ others ∷ []) ++ below ∷ []))
          ∙ ap (λ k. map (λ (m : Node). tree_in trees m.number) listed
          ++ (tree_in trees k ∷ open_nodes trees ((rest ++ others ∷ []) ++ below ∷ []))) e
          ∙ ap (λ ns. map (λ (m : Node). tree_in trees m.number) listed ++ (here ∷ ns)) pushed
          ∙ ap (λ ns. map (λ (m : Node). tree_in trees m.number) listed
          ++ (ns ++ open_nodes trees rest)) (sym nodes_here)
          ∙ top_nodes;
    }
      where
        pushed : open_nodes (node_trees store plain.list)
            ((rest ++ record { next = s.next + 1; end = s.end } ∷ [])
            ++ record {
              next = first_of plain.bounds.items s.next;
              end = end_of plain.bounds.items
                  s.next;
            } ∷ [])
            ≡ (list_nodes (window (node_trees store plain.list) (first_of plain.bounds.items s.next)
            (end_of plain.bounds.items s.next))
            ++ list_nodes (window (node_trees store plain.list) (s.next + 1) s.end)) ++ open_nodes
            (node_trees store plain.list) rest
        pushed =
            stack-last trees (rest ++ record { next = s.next + 1; end = s.end } ∷ [])
            (record {
              next = first_of plain.bounds.items s.next;
              end = end_of plain.bounds.items s.next;
            })
            ∙ ap (λ ns. list_nodes (window trees (first_of plain.bounds.items s.next)
            (end_of plain.bounds.items s.next)) ++ ns)
            (stack-last trees rest (record { next = s.next + 1; end = s.end }))
            ∙ sym (append_assoc
            (list_nodes (window trees (first_of plain.bounds.items s.next)
            (end_of plain.bounds.items s.next)))
            (list_nodes (window trees (s.next + 1) s.end)) (open_nodes trees rest))

    pub smaller_stepped : 2 * open_size (node_trees store plain.list)
        ((rest ++ record { next = s.next + 1; end = s.end } ∷ [])
        ++ record {
          next = first_of plain.bounds.items s.next;
          end = end_of plain.bounds.items
              s.next;
        } ∷ [])
        + length ((rest ++ record { next = s.next + 1; end = s.end } ∷ [])
        ++ record {
          next = first_of plain.bounds.items s.next;
          end = end_of plain.bounds.items
              s.next;
        } ∷ [])
        < 2 * open_size (node_trees store plain.list) stack + length stack
    smaller_stepped =
        omega (
          arith,
          size_open,
          ap length popped,
          length-append rest (s ∷ []),
          length-append (rest ++ others ∷ []) (below ∷ []),
          length-append rest (others ∷ []),
          size-last trees (rest ++ others ∷ []) below,
          size-last trees rest others,
          ap sizes window_here,
          size-children here,
          ap sizes parent.children,
        )
