-- The trees of nodes in a list.
use Rattle.std.proofs.Common.{ℕ, zero, suc, ◌≡◌, ◌+◌, ◌<◌, Some, List, [], ◌∷◌, ◌++◌, length, refl, sym, ◌∙◌, ap, subst, arith, length-append}
use Rattle.std.specs.List.{slice_get}
use Rattle.std.specs.Option.{unwrap_or}
use Rattle.std.proofs.lemmas.List.{get_or_append_left, get_or-append-add}
use Rattle.doc_store.specs.Store.{Stored, docs}
use Rattle.expanded_tree.specs.Tree.{Tree, name_of}
use Rattle.tree_expansion.specs.Expansion.{child_name, tilesets}
use Rattle.tree_nodes.specs.declared.node.NodeSource.{NodeSource}
use Rattle.tree_nodes.specs.declared.node.NodeSource.TheVariants.{Tile, Pending, Implicit}
use Rattle.tree_nodes.specs.declared.node.TreeNode.{TreeNode}
use Rattle.tree_nodes.specs.declared.tables.Tables.{Tables}
use Rattle.tree_nodes.specs.TreeIn.{no_tree, tree_in}
use Rattle.tree_nodes.specs.Tiles.{address_in, tile_at}
use Rattle.tree_nodes.specs.Places.{transform_in}
use Rattle.tree_nodes.specs.Nodes.{AreSoundIn, IsPending, IsThere, name_by, node_tree, pending_node, placed_node, source_tree, tile_node, trees_behind}
use Rattle.tree_nodes.specs.Fronts.{Continues}
use Rattle.tree_nodes.proofs.Fronts.{front_get}
use Rattle.tree_nodes.proofs.Maps.{transform_stays}
use Rattle.tree_nodes.proofs.Places.{place_stays, tree_stays}

pub tree_left : (ts us : List Tree) (i : ℕ) → i < length ts → tree_in (ts ++ us) i ≡ tree_in ts i
tree_left ts us i h = get_or_append_left ts us no_tree i h

pub tree_last : (ts : List Tree) (t : Tree) → tree_in (ts ++ t ∷ []) (length ts) ≡ t
tree_last ts t = ap (tree_in (ts ++ t ∷ [])) (end (length ts))
    ∙ get_or-append-add ts (t ∷ []) 0 no_tree
  where
    end : (n : ℕ) → n ≡ n + 0
    end n = omega arith

-- a name asks for the parent's tree alone, and that of the root for none
pub same_name : (ts us : List Tree) (place parent number : ℕ)
    → (0 < place → tree_in ts parent ≡ tree_in us parent)
    → name_by ts place parent number ≡ name_by us place parent number
same_name ts us zero parent number e = refl
same_name ts us (suc place) parent number e =
    ap (λ t. child_name (name_of t) number) (e (omega arith))

pub name_below : (ts : List Tree) (place parent number : ℕ) → 0 < place
    → name_by ts place parent number ≡ child_name (name_of (tree_in ts parent)) number
name_below ts zero parent number h = absurd (omega arith)
name_below ts (suc place) parent number h = refl

module _ (store : Stored) (tables : Tables) where
  pub length-trees_behind : (before : List Tree) (ns : List TreeNode)
      → length (trees_behind store tables before ns) ≡ length before + length ns
  unfolding trees_behind
  length-trees_behind before [] = omega arith
  length-trees_behind before (n ∷ ns) =
      let t = node_tree store tables before (length before) n in
      omega (arith, length-trees_behind (before ++ t ∷ []) ns, length-append before (t ∷ []))

  behind-append : (before : List Tree) (ns ms : List TreeNode)
      → trees_behind store tables before (ns ++ ms)
      ≡ trees_behind store tables (trees_behind store tables before ns) ms
  unfolding trees_behind
  behind-append before [] ms = refl
  behind-append before (n ∷ ns) ms =
      behind-append (before ++ node_tree store tables before (length before) n ∷ []) ns ms

  -- one more node
  pub one_tree : (ns : List TreeNode) (n : TreeNode)
      → trees_behind store tables [] (ns ++ n ∷ [])
      ≡ trees_behind store tables [] ns
      ++ node_tree store tables (trees_behind store tables [] ns)
      (length (trees_behind store tables [] ns)) n ∷ []
  unfolding trees_behind
  one_tree ns n = behind-append [] ns (n ∷ [])

  behind_left : (before : List Tree) (ns : List TreeNode) (i : ℕ) → i < length before
      → tree_in (trees_behind store tables before ns) i ≡ tree_in before i
  unfolding trees_behind
  behind_left before [] i h = refl
  behind_left before (n ∷ ns) i h =
      let t = node_tree store tables before (length before) n in
      behind_left (before ++ t ∷ []) ns i (omega (arith, length-append before (t ∷ [])))
      ∙ tree_left before (t ∷ []) i h

  -- the tree of a node, behind others
  later_is : (before : List Tree) (ns : List TreeNode) (i : ℕ) (n : TreeNode) (place : ℕ)
      → place ≡ length before + i → slice_get ns i ≡ Some n → (0 < place → n.parent < place)
      → tree_in (trees_behind store tables before ns) place
      ≡ node_tree store tables (trees_behind store tables before ns) place n
  unfolding trees_behind
  later_is before [] i n place at e below = cc
  later_is before (m ∷ ns) zero n place at e below =
      let same : m ≡ n = cc in
      let here : place ≡ length before = omega (arith, at) in
      let t = node_tree store tables before (length before) m in
      let all = trees_behind store tables (before ++ t ∷ []) ns in
      let long = length-append before (t ∷ []) in
      let stays : (j : ℕ) → j < length before → tree_in all j ≡ tree_in before j =
      λ j h. behind_left (before ++ t ∷ []) ns j (omega (arith, long, h))
      ∙ tree_left before (t ∷ []) j h in
      ap (tree_in all) here
      ∙ behind_left (before ++ t ∷ []) ns (length before) (omega (arith, long))
      ∙ tree_last before t
      ∙ ap (λ k. node_tree store tables before k m) (sym here)
      ∙ ap (λ k. node_tree store tables before place k) same
      ∙ ap (λ name. source_tree store tables name n n.source)
      (same_name before all place n.parent n.number
      (λ some. sym (stays n.parent (subst (λ k. n.parent < k) here (below some)))))
  later_is before (m ∷ ns) (suc i) n place at e below =
      let t = node_tree store tables before (length before) m in
      later_is (before ++ t ∷ []) ns i n place (omega (arith, at, length-append before (t ∷ []))) e
      below

  pub tree_at_node : (ns : List TreeNode) (place : ℕ) (n : TreeNode)
      → slice_get ns place ≡ Some n → (0 < place → n.parent < place)
      → tree_in (trees_behind store tables [] ns) place
      ≡ node_tree store tables (trees_behind store tables [] ns) place n
  tree_at_node ns place n e below = later_is [] ns place n place (omega arith) e below

-- ---- further entries of the tables

module _ (store : Stored) (old new : Tables) (c : Continues old new) where
  waiting_stays : (number : ℕ) → IsPending old number
      → slice_get new.waiting.items number ≡ slice_get old.waiting.items number
  waiting_stays number p =
      front_get old.waiting.items new.waiting.items c.waiting number p.entry p.at ∙ sym p.at

  source_stays : (name : List ℕ) (n : TreeNode) (s : NodeSource)
      → n.transform < length old.transforms.items → IsThere store old s
      → source_tree store new name n s ≡ source_tree store old name n s
  source_stays name n (Tile d t) h there =
      ap (λ m. tile_node (docs store) (tilesets (docs store) n.levels) (address_in store d) name m
      n.refine (tile_at store d t)) (transform_stays old new c n.transform h)
  source_stays name n (Pending w) h there =
      ap (λ m. pending_node name m n.refine (slice_get new.waiting.items w))
      (transform_stays old new c n.transform h)
      ∙ ap (pending_node name (transform_in old n.transform) n.refine) (waiting_stays w there)
  source_stays name n (Implicit p) h there =
      ap (placed_node store new n.levels)
      (front_get old.places.items new.places.items c.places p there.entry there.at)
      ∙ ap (λ o. unwrap_or o no_tree)
      (tree_stays store old new c n.levels there.entry.top there.has.top there.entry.at
      there.has.placed.is_top)
      ∙ ap (placed_node store old n.levels) (sym there.at)

  pub there_stays : (s : NodeSource) → IsThere store old s → IsThere store new s
  there_stays (Tile d t) there = there
  there_stays (Pending w) there = record {
    entry = there.entry;
    at = front_get old.waiting.items new.waiting.items c.waiting w there.entry there.at;
    error = there.error;
  }
  there_stays (Implicit p) there = place_stays store old new c p there

  all_stay : (before : List Tree) (ns : List TreeNode)
      → ((i : ℕ) (n : TreeNode) → slice_get ns i ≡ Some n
      → (n.transform < length old.transforms.items) × IsThere store old n.source)
      → trees_behind store new before ns ≡ trees_behind store old before ns
  unfolding trees_behind
  all_stay before [] sound = refl
  all_stay before (n ∷ ns) sound =
      let first = sound 0 n refl in
      let name = name_by before (length before) n.parent n.number in
      ap (λ t. trees_behind store new (before ++ t ∷ []) ns)
      (source_stays name n n.source first.0 first.1)
      ∙ all_stay (before ++ node_tree store old before (length before) n ∷ []) ns
      (λ i m e. sound (suc i) m e)

  pub trees_stay : (ns : List TreeNode) → AreSoundIn store old ns
      → trees_behind store new [] ns ≡ trees_behind store old [] ns
  trees_stay ns sound =
      all_stay [] ns (λ i n e. let s = sound i n e in (s.transform, s.there))
