-- The names of nodes.
use Rattle.std.specs.Prelude.{if◌then◌else◌, decimal, option_map}
use Rattle.std.proofs.Common.{ℕ, zero, suc, ◌≡◌, ◌==◌, ◌<◌, ◌≤◌, true, false, Some, List, [], ◌∷◌, ◌++◌, length, get_or, codes, refl, sym, ◌∙◌, ap, arith}
use Rattle.std.specs.List.{slice_get}
use Rattle.std.proofs.Math.Dec.{eqb-suc-zero}
use Rattle.std.proofs.lemmas.Option.{slice_get_read}
use Rattle.doc_store.specs.Docs.{Docs}
use Rattle.doc_store.specs.Store.{Stored, docs}
use Rattle.tileset_schema.specs.Tiles.{WrittenTile, written}
use Rattle.implicit_walk.specs.declared.place.Place.{Place}
use Rattle.implicit_walk.specs.Roots.{RootParts}
use Rattle.expanded_tree.specs.Tree.{name_of}
use Rattle.tree_expansion.specs.Expansion.{Below, Holder, RootTile, child_name, place_name, place_numbers, tilesets}
use Rattle.tree_nodes.specs.declared.node.NodeSource.{NodeSource}
use Rattle.tree_nodes.specs.declared.node.NodeSource.TheVariants.{Tile, Pending, Implicit}
use Rattle.tree_nodes.specs.declared.node.TreeNode.{TreeNode}
use Rattle.tree_nodes.specs.declared.node_list.NodeList.{NodeList}
use Rattle.tree_nodes.specs.declared.place_entry.PlaceEntry.{PlaceEntry}
use Rattle.tree_nodes.specs.declared.tables.Tables.{Tables}
use Rattle.tree_nodes.specs.declared.top.Top.{Top}
use Rattle.tree_nodes.specs.TreeIn.{tree_in}
use Rattle.tree_nodes.specs.Tiles.{address_in}
use Rattle.tree_nodes.specs.Names.{IsNumbered, StartsName, has_number}
use Rattle.tree_nodes.specs.Places.{IsPlaceAt, top_in, transform_in}
use Rattle.tree_nodes.specs.Nodes.{IsSoundList, holder_by, name_by, node_trees, tile_under}
use Rattle.tree_nodes.proofs.Elements.{some_there}
use Rattle.tree_nodes.proofs.NodeTrees.{name_below}
use Rattle.tree_nodes.proofs.PlaceFacts.{same_entry, same_name}
use Rattle.tree_nodes.proofs.PlacesRead.{pending_is, place_read, top_found, waiting_there, written_is}
use Rattle.tree_nodes.proofs.Rows.{is_at}
use Rattle.tree_nodes.proofs.TileChildren.{is_sound, there}

under_name : (docs : Docs) (below : Below) (base name : List ℕ) (holder : Holder) (t : WrittenTile)
    → name_of (tile_under docs below base name holder t) ≡ name
under_name docs below base name holder (written own children) = refl

module _ (store : Stored) (list : NodeList) (place : ℕ) (n : TreeNode)
    (sound : IsSoundList store list)
    (at : slice_get list.nodes.items place ≡ Some n) where
  abbrev name : List ℕ
  name = name_by (node_trees store list) place n.parent n.number

  -- its name is that by its parent
  named : has_number n.source ≡ true
      → name_of (tree_in (node_trees store list) place)
      ≡ name_by (node_trees store list) place n.parent n.number
  named numbered = by_source n.source refl numbered
    where
      by_source : (s : NodeSource) → n.source ≡ s → has_number s ≡ true
          → name_of (tree_in (node_trees store list) place)
          ≡ name_by (node_trees store list) place n.parent n.number
      by_source (Tile d t) e h =
          let here = there store list place n sound at d t e in
          let found = is_at store d t here.tiles here.tree here.read here.stands in
          ap name_of (written_is store list place n sound at d t e here.tree found)
          ∙ under_name (docs store) (tilesets (docs store) n.levels) (address_in store d) name
          (holder_by (transform_in list.tables n.transform) n.refine here.tree) here.tree
      by_source (Pending w) e h =
          let v = some_there list.tables.waiting.items w
          (waiting_there store list place n sound at w e) in
          ap name_of (pending_is store list place n sound at w e v.0 v.1)
      by_source (Implicit w) e h = cc

  -- below an implicit root it is that of its place
  pub implicit_name : (number : ℕ) → n.source ≡ Implicit number
      → (p : IsPlaceAt store list.tables number)
      → name_of (tree_in (node_trees store list) place) ≡ place_name p.has.top p.entry.at
  implicit_name number e p = (place_read store list place n sound at number e p).name

  -- where it starts a name and isn't below an implicit root
  pub root_name : StartsName list place → has_number n.source ≡ true
      → codes "r" ≡ name_of (tree_in (node_trees store list) place)
  root_name starts numbered = by_place place at starts numbered refl
    where
      by_place : (i : ℕ) → slice_get list.nodes.items i ≡ Some n → StartsName list i
          → has_number n.source ≡ true → place ≡ i
          → codes "r" ≡ name_of (tree_in (node_trees store list) place)
      by_place zero e s h same =
          sym (named numbered ∙ ap (λ i. name_by (node_trees store list) i n.parent n.number) same)
      by_place (suc i) e s h same =
          let none : has_number n.source ≡ false = s (omega arith) n e in
          cc

-- all but those below implicit roots are numbered
pub numbered_source : (s : NodeSource) → ((number : ℕ) → s ≡ Implicit number → ⊥)
    → has_number s ≡ true
numbered_source (Tile document tile) other = refl
numbered_source (Pending waiting) other = refl
numbered_source (Implicit number) other = absurd (other number refl)

-- ---- names of places

name_by_level : (level : ℕ) (first other : List ℕ) → level ≤ 0
    → (if level == 0 then first else other) ≡ first
name_by_level zero first other h = refl
name_by_level (suc n) first other h = absurd (omega arith)

name_below_root : (level : ℕ) (first other : List ℕ) → 0 < level
    → (if level == 0 then first else other) ≡ other
name_below_root zero first other h = absurd (omega arith)
name_below_root (suc n) first other h = rw (eqb-suc-zero n) refl

name_first : (top : RootTile) (at : Place) → at.level ≤ 0 → top.name ≡ place_name top at
name_first top at h =
    sym (name_by_level at.level top.name (top.name ++ codes "!" ++ decimal at.level
    ++ place_numbers top.root.part.octree at) h)

name_behind : (top : RootTile) (at : Place) → 0 < at.level
    → top.name ++ codes "!" ++ decimal at.level ++ place_numbers top.root.part.octree at
    ≡ place_name top at
name_behind top at h =
    sym (name_below_root at.level top.name (top.name ++ codes "!" ++ decimal at.level
    ++ place_numbers top.root.part.octree at) h)

module _ (store : Stored) (tables : Tables) (number : ℕ) (p : IsPlaceAt store tables number)
    (entry : PlaceEntry) (read : entry ≡ get_or tables.places.items number entry) (top : Top)
    (top_read : top ≡ get_or tables.tops.items entry.top top) (start : List ℕ)
    (started : start ≡ top.name) where
  abbrev own : RootTile
  own = p.has.top

  -- it begins with the name of its implicit root
  first : start ≡ p.has.top.name
  first = started ∙ sym (same_name store tables number p entry read top top_read)

  here : place_name p.has.top entry.at ≡ place_name p.has.top p.entry.at
  here = ap (λ (e : PlaceEntry). place_name own e.at)
      (sym (same_entry store tables number p entry read))

  pub name_at_root : entry.at.level ≤ 0 → start ≡ place_name p.has.top p.entry.at
  name_at_root h = first ∙ name_first own entry.at h ∙ here

  pub name_at_place : (root : RootParts)
      → option_map (λ t. t.root) (top_in store tables entry.top) ≡ Some root
      → (text : List ℕ)
      → text ≡ start ++ codes "!" ++ decimal entry.at.level
      ++ place_numbers root.part.octree entry.at
      → 0 < entry.at.level → text ≡ place_name p.has.top p.entry.at
  name_at_place root root_is text is deep =
      let found : top_in store tables entry.top ≡ Some own =
      ap (λ (e : PlaceEntry). top_in store tables e.top)
      (sym (same_entry store tables number p entry read))
      ∙ top_found store tables p.entry.top own p.has.placed.is_top in
      let same : Some own.root ≡ Some root =
      ap (option_map (λ (t : RootTile). t.root)) (sym found) ∙ root_is in
      let its : root ≡ own.root = cc in
      is
      ∙ ap (λ s. s ++ codes "!" ++ decimal entry.at.level
      ++ place_numbers root.part.octree entry.at) first
      ∙ ap (λ (r : RootParts). own.name ++ codes "!" ++ decimal entry.at.level
      ++ place_numbers r.part.octree entry.at) its
      ∙ name_behind own entry.at deep
      ∙ here

-- ---- numbers on the way up

-- the name below a node of this name, by the numbers on the way up
abbrev pub below_name : List ℕ → List ℕ → List ℕ
below_name base [] = base
below_name base (number ∷ numbers) = child_name (below_name base numbers) number

below_more : (base path : List ℕ) (number : ℕ)
    → below_name (child_name base number) path ≡ below_name base (path ++ number ∷ [])
below_more base [] number = refl
below_more base (k ∷ path) number = ap (λ name. child_name name k) (below_more base path number)

-- the numbers of the nodes between a node and one above it
pub record Upwards (store : Stored) (list : NodeList) (place at : ℕ) (path : List ℕ) : Type 0 where
  pub within : at < length list.nodes.items
  pub name : name_of (tree_in (node_trees store list) place)
      ≡ below_name (name_of (tree_in (node_trees store list) at)) path

pub upwards_more : (store : Stored) (list : NodeList) (place at : ℕ) (path : List ℕ) (n : TreeNode)
    → IsSoundList store list → Upwards store list place at path → IsNumbered list at
    → n ≡ get_or list.nodes.items at n
    → Upwards store list place n.parent (path ++ n.number ∷ [])
upwards_more store list place at path n sound w numbered read =
    let e = slice_get_read list.nodes.items _ at n refl w.within read in
    let below = (is_sound store list at n sound e).below numbered.below in
    record {
      within = omega (arith, below, w.within);
      name = w.name
          ∙ ap (λ base. below_name base path)
          (named store list at n sound e (numbered.numbered n e)
          ∙ name_below (node_trees store list) at n.parent n.number numbered.below)
          ∙ below_more (name_of (tree_in (node_trees store list) n.parent)) path n.number;
    }

-- the next number is written
pub written_more : (whole base base' : List ℕ) (path path' : List ℕ) (number : ℕ)
    → whole ≡ below_name base path → path ≡ path' ++ number ∷ []
    → base' ≡ child_name base number → whole ≡ below_name base' path'
written_more whole base base' path path' number e path_is joined =
    e ∙ ap (below_name base) path_is ∙ sym (below_more base path' number)
    ∙ ap (λ b. below_name b path') (sym joined)
