-- The root of a store's tree.
use Rattle.std.proofs.Common.{ℕ, ◌≡◌, ◌+◌, ◌<◌, ◌≤◌, Option, Some, None, option_to_list, List, ◌++◌, length, refl, sym, ◌∙◌, ap, subst, arith}
use Rattle.std.specs.Global.{Vec}
use Rattle.std.specs.List.{slice_get}
use Rattle.doc_store.specs.Store.{Stored}
use Rattle.expanded_tree.specs.Tree.{Tree, tree_size}
use Rattle.tree_nodes.specs.declared.error.ListError.{ListError}
use Rattle.tree_nodes.specs.declared.node.TreeNode.{TreeNode}
use Rattle.tree_nodes.specs.declared.node_list.NodeList.{NodeList}
use Rattle.tree_nodes.specs.TreeIn.{tree_in}
use Rattle.tree_nodes.specs.Trees.{size_of, stored_tree}
use Rattle.tree_nodes.specs.Nodes.{node_trees}
use Rattle.tree_nodes.specs.Growth.{Grows, IsEmptyList, IsWithin, Refuses}
use Rattle.plain_tree.specs.Grown.{IsGrown}
use Rattle.plain_tree.specs.Listed.{IsListed}
use Rattle.tree_nodes.specs.Waits.{pending_count, top_waits, tops_wait, waits_in}
use Rattle.tree_nodes.proofs.Growing.{length-node_trees}
use Rattle.tree_nodes.proofs.Refusals.{refuses_more}
use Rattle.tree_nodes.proofs.RootTree.{no_trees}
use Rattle.plain_tree.proofs.Sizes.{size_some}

no_size : (limit : Option ℕ) → IsWithin limit 0
no_size None = tt
no_size (Some limit) = omega arith

length-root : (o : Option Tree) → length (option_to_list o) ≤ size_of o
length-root None = omega arith
length-root (Some t) = omega (arith, size_some t)

module _ (store : Stored) (list : NodeList) (e : IsEmptyList list) where
  module _ (limit : Option ℕ) (new : NodeList) where
    pub refused_root : (err : ListError)
        → Refuses limit (length list.nodes.items + length (option_to_list (stored_tree store))) err
        → Refuses limit (size_of (stored_tree store)) err
    refused_root err r =
        refuses_more limit (length list.nodes.items + length (option_to_list (stored_tree store)))
        (size_of (stored_tree store)) err
        (omega (arith, ap length e.nodes, length-root (stored_tree store))) r

    module _ (g : Grows store limit list new (option_to_list (stored_tree store))) where
      abbrev o : Option Tree
      o = stored_tree store

      all_trees : node_trees store new ≡ option_to_list o
      all_trees = g.trees ∙ ap (λ ts. ts ++ option_to_list o) (no_trees store list e)

      count : length new.nodes.items ≡ length (option_to_list o)
      count = sym (length-node_trees store new) ∙ ap length all_trees

      first_root : (p : Option Tree) → slice_get (option_to_list p) 0 ≡ p
      first_root None = refl
      first_root (Some t) = refl

      root_first : slice_get (node_trees store new) 0 ≡ stored_tree store
      root_first = ap (λ ts. slice_get ts 0) all_trees ∙ first_root (stored_tree store)

      within_new : IsWithin limit (length new.nodes.items)
      within_new =
          g.within (subst (λ (ns : List TreeNode). IsWithin limit (length ns)) (sym e.nodes)
          (no_size limit))

      new_waits : length new.tables.waiting.items ≡ tops_wait (option_to_list o)
      new_waits = omega (arith, g.waits, ap length e.waiting)

      nothing_waits : (p : Option Tree) → length (option_to_list p) ≡ 0
          → waits_in p ≡ tops_wait (option_to_list p)
      nothing_waits None h = refl
      nothing_waits (Some t) h = absurd (omega (arith, h))

      -- an empty tree
      pub listed_none : (bounds : Vec ℕ) → length new.nodes.items ≡ 0
          → IsListed store (record { list = new; bounds = bounds })
      listed_none bounds none = record {
        sound = g.sound;
        root = root_first;
        children = λ i h. absurd (omega (arith, none, length-node_trees store new, h));
        waits = nothing_waits o (omega (arith, none, count)) ∙ sym new_waits;
      }

      pub within_none : length new.nodes.items ≡ 0 → IsWithin limit (size_of (stored_tree store))
      within_none none =
          by_root o (omega (arith, none, count))
        where
          by_root : (p : Option Tree) → length (option_to_list p) ≡ 0 → IsWithin limit (size_of p)
          by_root None h = no_size limit
          by_root (Some t) h = absurd (omega (arith, h))

      -- a root
      pub one_root : 0 < length new.nodes.items → length new.nodes.items ≡ 1
      one_root some = count ∙ by_root o (omega (arith, some, count))
        where
          by_root : (p : Option Tree) → 0 < length (option_to_list p)
              → length (option_to_list p) ≡ 1
          by_root None h = absurd (omega arith)
          by_root (Some t) h = refl

      size_is : 0 < length new.nodes.items → tree_size (tree_in (node_trees store new) 0)
          ≡ size_of (stored_tree store)
      size_is some =
          ap (λ ts. tree_size (tree_in ts 0)) all_trees ∙ by_root o (omega (arith, some, count))
        where
          by_root : (p : Option Tree) → 0 < length (option_to_list p)
              → tree_size (tree_in (option_to_list p) 0) ≡ size_of p
          by_root None h = absurd (omega arith)
          by_root (Some t) h = refl

      -- the root alone waits
      root_waits : 0 < length new.nodes.items → length new.tables.waiting.items
          ≡ top_waits (tree_in (node_trees store new) 0)
      root_waits some =
          new_waits ∙ by_root o (omega (arith, some, count)) ∙ ap (λ ts. top_waits (tree_in ts 0))
          (sym all_trees)
        where
          by_root : (p : Option Tree) → 0 < length (option_to_list p)
              → tops_wait (option_to_list p) ≡ top_waits (tree_in (option_to_list p) 0)
          by_root None h = absurd (omega arith)
          by_root (Some t) h = omega arith

      waits_is : 0 < length new.nodes.items → waits_in (stored_tree store) ≡ pending_count
          (tree_in (node_trees store new) 0)
      waits_is some =
          by_root o (omega (arith, some, count))
          ∙ ap (λ ts. pending_count (tree_in ts 0)) (sym all_trees)
        where
          by_root : (p : Option Tree) → 0 < length (option_to_list p)
              → waits_in p ≡ pending_count (tree_in (option_to_list p) 0)
          by_root None h = absurd (omega arith)
          by_root (Some t) h = refl

      pub refused_rest : 0 < length new.nodes.items → (err : ListError)
          → Refuses limit (tree_size (tree_in (node_trees store new) 0)) err
          → Refuses limit (size_of (stored_tree store)) err
      refused_rest some err r = subst (λ k. Refuses limit k err) (size_is some) r

      module _ (some : 0 < length new.nodes.items) (last : NodeList) (bounds : Vec ℕ)
          (grown : IsGrown store limit new last bounds.items) where
        pub listed_all : IsListed store (record { list = last; bounds = bounds })
        listed_all = record {
          sound = grown.sound;
          root = grown.root ∙ root_first;
          children = grown.children;
          waits = waits_is some ∙ grown.waits (root_waits some);
        }

        pub within_all : IsWithin limit (size_of (stored_tree store))
        within_all = subst (IsWithin limit) (sym grown.counted ∙ size_is some)
            (grown.within (subst (IsWithin limit) (one_root some) within_new))
