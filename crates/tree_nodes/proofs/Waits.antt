-- Which trees have no node that waits for a document.
use Rattle.std.proofs.Common.{ℕ, ◌≡◌, ◌+◌, Bool, true, false, ◌&&◌, Option, Some, None, List, [], ◌∷◌, ◌++◌, refl, ap, ◌∙◌, arith}
use Rattle.tile_types.specs.declared.key.Key.{Key}
use Rattle.expanded_tree.specs.Tree.{Tree, Trees, tile, pending, no_trees, more_trees, list_of, children_of}
use Rattle.tree_expansion.specs.Whole.{all_keys, all_keys_in, all_root_keys}
use Rattle.tree_nodes.specs.Waits.{pending_count, pending_counts, waits_in, top_waits, tops_wait}

-- ---- counts over lists

abbrev pub all_wait : List Tree → ℕ
all_wait [] = 0
all_wait (t ∷ ts) = pending_count t + all_wait ts

pub all_wait-append : (ts us : List Tree) → all_wait (ts ++ us) ≡ all_wait ts + all_wait us
all_wait-append [] us = omega arith
all_wait-append (t ∷ ts) us = omega (arith, all_wait-append ts us)

pub tops_wait-append : (ts us : List Tree) → tops_wait (ts ++ us) ≡ tops_wait ts + tops_wait us
tops_wait-append [] us = omega arith
tops_wait-append (t ∷ ts) us = omega (arith, tops_wait-append ts us)

counts_listed : (ts : Trees) → pending_counts ts ≡ all_wait (list_of ts)
counts_listed no_trees = refl
counts_listed (more_trees t ts) = ap (λ n. pending_count t + n) (counts_listed ts)

-- a tree has its root and the nodes of its children
pub waits-children : (t : Tree) → pending_count t ≡ top_waits t + all_wait (children_of t)
waits-children (tile parts children) = omega (arith, counts_listed children)
waits-children (pending name facts key) = omega arith

-- ---- no node waits

abbrev never : Key → Bool
never key = false

and_left : (a b : Bool) → (a && b) ≡ true → a ≡ true
and_left true b e = refl
and_left false b e = cc

and_right : (a b : Bool) → (a && b) ≡ true → b ≡ true
and_right true b e = e
and_right false b e = cc

mutual
  none_of : (t : Tree) → all_keys never t ≡ true → pending_count t ≡ 0
  none_of (tile parts children) e = none_in children e
  none_of (pending name facts key) e = cc

  none_in : (ts : Trees) → all_keys_in never ts ≡ true → pending_counts ts ≡ 0
  none_in no_trees e = refl
  none_in (more_trees t ts) e =
      omega (
        arith,
        none_of t (and_left (all_keys never t) (all_keys_in never ts) e),
        none_in ts (and_right (all_keys never t) (all_keys_in never ts) e),
      )

mutual
  whole_of : (t : Tree) → pending_count t ≡ 0 → all_keys never t ≡ true
  whole_of (tile parts children) e = whole_in children e
  whole_of (pending name facts key) e = absurd (omega (arith, e))

  whole_in : (ts : Trees) → pending_counts ts ≡ 0 → all_keys_in never ts ≡ true
  whole_in no_trees e = refl
  whole_in (more_trees t ts) e =
      ap (λ b. b && all_keys_in never ts) (whole_of t (omega (arith, e)))
      ∙ whole_in ts (omega (arith, e))

pub none_wait : (o : Option Tree) → all_root_keys never o ≡ true → waits_in o ≡ 0
none_wait None e = refl
none_wait (Some t) e = none_of t e

pub is_whole_if : (o : Option Tree) → waits_in o ≡ 0 → all_root_keys never o ≡ true
is_whole_if None e = refl
is_whole_if (Some t) e = whole_of t e
