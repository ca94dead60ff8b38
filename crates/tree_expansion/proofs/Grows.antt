-- Loading documents changes pending nodes alone.
use Rattle.std.specs.Prelude.{nat_le, is_none, if◌then◌else◌, filter_map, option_to_list}
use Rattle.std.proofs.Common.{ℕ, zero, suc, ◌+◌, ◌<◌, ◌≤◌, ◌≡◌, inl, inr, Bool, true, false, Option, Some, None, List, [], ◌∷◌, ◌++◌, map, flat_map, length, codes, refl, sym, ◌∙◌, ap, subst, arith}
use Rattle.std.specs.List.{range_with_len}
use Rattle.tile_types.specs.declared.key.Key.{Key}
use Rattle.tileset_schema.specs.Implicit.{ImplicitParts}
use Rattle.tileset_schema.specs.Parts.{WrittenParts}
use Rattle.tileset_schema.specs.Tiles.{WrittenTile, WrittenTiles, written, no_tiles, more_tiles}
use Rattle.subtree_binary.specs.Counts.{arity}
use Rattle.subtree_binary.specs.Found.{Found, waiting, lost, here}
use Rattle.subtree_binary.specs.Subtrees.{SubtreeParts}
use Rattle.implicit_walk.specs.declared.place.Place.{Place}
use Rattle.implicit_walk.specs.declared.presence.Presence.{Presence}
use Rattle.implicit_walk.specs.declared.presence.Presence.TheVariants.{No, Tile, Waiting}
use Rattle.implicit_walk.specs.Places.{child, child_places, has_children, root_place}
use Rattle.implicit_walk.specs.Roots.{RootParts}
use Rattle.implicit_walk.specs.Presences.{presence, content_by, of_tile, subtree_at as found_at}
use Rattle.doc_store.specs.Docs.{Docs, is_tileset, tileset_at, tileset_key, subtree_at}
use Rattle.expanded_tree.specs.Facts.{Facts}
use Rattle.expanded_tree.specs.Tree.{Tree, TileParts, tile, pending, explicit_tile, list_of, from_list, name_of}
use Rattle.expanded_tree.proofs.Trees.{list_of-from_list}
use Rattle.tree_expansion.specs.declared.limits.TheConstants.{NESTING_LIMIT}
use Rattle.tree_expansion.specs.Expansion.{Holder, top_holder, holder_of, Below, child_name, own_of, external_of, externals, RootTile, place_name, place_contents, place_facts, place_holder, place_origin, place_tile, implicit_node, implicit_tree, written_facts, root_tile, written_tree, written_trees, count_of, waiting_facts, tileset, tilesets, expand}
use Rattle.tree_expansion.specs.Growth.{Extends, StandsFor, Grown, same_tile, read, AllGrown, none_grown, more_grown, dropped, RootGrown, lacks_root_tile, leaves_none_by, tileset_leaves_none, leaves_none}
use Rattle.tree_expansion.proofs.Learned.{Here, IsReached, is_no, waited, stays, learned, tile_is_here, WaitsFor, waiting_key, root_presence, above_child}
use Rattle.tree_expansion.proofs.Within.{OfPart, AreWithin, loaded_within}

module _ (new : Docs) where
  joined : (xs xs' ys ys' : List Tree) → AllGrown new xs xs' → AllGrown new ys ys'
      → AllGrown new (xs ++ ys) (xs' ++ ys')
  joined xs xs' ys ys' none_grown h = h
  joined xs xs' ys ys' (more_grown t t' ts ts' g gs) h =
      more_grown t t' (ts ++ ys) (ts' ++ ys') g (joined ts ts' ys ys' gs h)
  joined xs xs' ys ys' (dropped name facts key ts ts' why gs) h =
      dropped name facts key (ts ++ ys) (ts' ++ ys') why (joined ts ts' ys ys' gs h)

  one_grows : (t t' : Tree) → Grown new t t' → RootGrown new (Some t) (Some t')
  one_grows t t' g = more_grown t t' [] [] g none_grown

  tile_grows : (parts : TileParts) (ts ts' : List Tree) → AllGrown new ts ts'
      → RootGrown new (Some (tile parts (from_list ts))) (Some (tile parts (from_list ts')))
  tile_grows parts ts ts' g =
      one_grows (tile parts (from_list ts)) (tile parts (from_list ts'))
      (same_tile parts (from_list ts) (from_list ts')
      (subst (λ us. AllGrown new us (list_of (from_list ts'))) (sym (list_of-from_list ts))
      (subst (AllGrown new ts) (sym (list_of-from_list ts')) g)))

  -- a node that waited became another one, or none where nothing comes of its key
  waited_grows : (name : List ℕ) (facts : Facts) (key : Key) (o : Option Tree)
      → leaves_none new key ≡ is_none o → ((t : Tree) → o ≡ Some t → StandsFor name facts t)
      → RootGrown new (Some (pending name facts key)) o
  waited_grows name facts key None n s = dropped name facts key [] [] n none_grown
  waited_grows name facts key (Some t) n s =
      one_grows (pending name facts key) t (read name facts key t n (s t refl))

  -- of a subtree's key
  of_subtree : (key : Key) (b : Bool) → is_tileset key ≡ false
      → lacks_root_tile (subtree_at new key) ≡ b → leaves_none new key ≡ b
  of_subtree key b k e =
      ap (λ t. if t then tileset_leaves_none new key.address (tileset_at new key.address)
      else lacks_root_tile (subtree_at new key)) k ∙ e

  -- what stands below grows
  abbrev BelowGrows : Below → Below → Type 0
  BelowGrows from to = (name : List ℕ) (holder : Holder) (address : List ℕ)
      → RootGrown new (from name holder address) (to name holder address)

  externals_grow : (from to : Below) → BelowGrows from to
      → (name : List ℕ) (holder : Holder) (number : ℕ) (addresses : List (List ℕ))
      → AllGrown new (externals from name holder number addresses)
      (externals to name holder number addresses)
  externals_grow from to b name holder number [] = none_grown
  externals_grow from to b name holder number (address ∷ addresses) =
      joined (option_to_list (from (child_name name number) holder address))
      (option_to_list (to (child_name name number) holder address))
      (externals from name holder (number + 1) addresses)
      (externals to name holder (number + 1) addresses)
      (b (child_name name number) holder address)
      (externals_grow from to b name holder (number + 1) addresses)

-- ---- implicit tiles

-- what lies below a tile at a place
abbrev under : Docs → Below → RootTile → ℕ → Place → List Tree
under docs below top levels at =
    flat_map (λ place. option_to_list (implicit_node docs below top levels place))
    (child_places top.root.part at)
    ++ externals below (place_name top at) (place_holder top at) 0
    (external_of (place_contents docs top at))

-- the node at a place by its presence
abbrev node_for : RootTile → Place → List (List ℕ) → List Tree → Presence → Option Tree
node_for top at contents children there =
    elim there [
      | No ↦ None
      | Waiting key ↦ Some (pending (place_name top at) (place_facts top at []) key)
      | Tile ↦ Some (place_tile top at contents children)
    ]

none_is_no : (top : RootTile) (at : Place) (contents : List (List ℕ)) (children : List Tree)
    (there : Presence) → is_no there ≡ is_none (node_for top at contents children there)
none_is_no top at contents children No = refl
none_is_no top at contents children (Waiting key) = refl
none_is_no top at contents children Tile = refl

-- what stands at a place has its name and its volume
stands : (top : RootTile) (at : Place) (contents : List (List ℕ)) (children : List Tree)
    (there : Presence) (t : Tree) → node_for top at contents children there ≡ Some t
    → StandsFor (place_name top at) (place_facts top at []) t
stands top at contents children No t e = cc
stands top at contents children (Waiting key) t e =
    let is : pending (place_name top at) (place_facts top at []) key ≡ t = cc in
    subst (StandsFor (place_name top at) (place_facts top at [])) is
    (record { same_name = refl; same_volume = inr refl; same_request = inr refl })
stands top at contents children Tile t e =
    let is : place_tile top at contents children ≡ t = cc in
    subst (StandsFor (place_name top at) (place_facts top at [])) is
    (record { same_name = refl; same_volume = inr refl; same_request = inr refl })

-- the contents by what is known
abbrev contents_for : RootTile → Place → Presence → Found SubtreeParts → List (List ℕ)
contents_for top at there found =
    filter_map (λ which. of_tile there (content_by top.root at which found))
    (range_with_len 0 (length top.root.part.contents))

contents_kept : (old new : Docs) (top : RootTile) (at : Place)
    → presence top.root (subtree_at old) at ≡ presence top.root (subtree_at new) at
    → found_at top.root (subtree_at old) at ≡ found_at top.root (subtree_at new) at
    → place_contents old top at ≡ place_contents new top at
contents_kept old new top at e f =
    ap (λ there. contents_for top at there (found_at top.root (subtree_at old) at)) e
    ∙ ap (contents_for top at (presence top.root (subtree_at new) at)) f

arity_to : (octree : Bool) → arity octree ≤ 8
arity_to true = omega arith
arity_to false = omega arith

-- the node of a tile by its implicit part
abbrev pub tile_for : Docs → Below → List ℕ → List ℕ → Holder → WrittenParts → WrittenTiles
    → Option ImplicitParts → Option Tree
tile_for docs below base name holder own children part =
    elim part [
      | Some p ↦ implicit_tree docs below (root_tile base name holder own p)
      | None ↦ Some (explicit_tile name (written_facts holder own) (own_of own.contents)
          (from_list
          (written_trees docs below base name holder 0 children
          ++ externals below name holder (count_of children) (external_of own.contents))))
    ]

module _ (old new : Docs) (x : Extends old new) (from to : Below) (b : BelowGrows new from to) where
  children_grow : (f g : Place → List Tree) (at : Place)
      → ((i : ℕ) → i < 8 → AllGrown new (f (child at i)) (g (child at i)))
      → (k n : ℕ) → k + n ≤ 8
      → AllGrown new (flat_map f (map (child at) (range_with_len k n)))
      (flat_map g (map (child at) (range_with_len k n)))
  children_grow f g at h k zero e = none_grown
  children_grow f g at h k (suc n) e =
      joined new (f (child at k)) (g (child at k))
      (flat_map f (map (child at) (range_with_len (k + 1) n)))
      (flat_map g (map (child at) (range_with_len (k + 1) n)))
      (h k (omega arith)) (children_grow f g at h (k + 1) n (omega arith))

  places_grow : (f g : Place → List Tree) (part : ImplicitParts) (at : Place)
      → ((i : ℕ) → i < 8 → AllGrown new (f (child at i)) (g (child at i)))
      → AllGrown new (flat_map f (child_places part at)) (flat_map g (child_places part at))
  places_grow f g part at h =
      elim (has_children part at) as (λ b. AllGrown new
      (flat_map f (if b then map (child at) (range_with_len 0 (arity part.octree)) else []))
      (flat_map g (if b then map (child at) (range_with_len 0 (arity part.octree)) else []))) [
        | true ↦ children_grow f g at h 0 (arity part.octree)
            (omega (arith, arity_to part.octree))
        | false ↦ none_grown
      ]

  -- what lies below a tile grows, if each of its children does
  under_grows : (top : RootTile) (levels : ℕ) (at : Place)
      → ((i : ℕ) → i < 8 → RootGrown new (implicit_node old from top levels (child at i))
      (implicit_node new to top levels (child at i)))
      → place_contents old top at ≡ place_contents new top at
      → AllGrown new (under old from top levels at) (under new to top levels at)
  under_grows top levels at each same =
      let f : Place → List Tree =
      λ place. option_to_list (implicit_node old from top levels place) in
      let g : Place → List Tree =
      λ place. option_to_list (implicit_node new to top levels place) in
      let outside : Below → List (List ℕ) → List Tree =
      λ below contents. externals below (place_name top at) (place_holder top at) 0
      (external_of contents) in
      joined new (flat_map f (child_places top.root.part at))
      (flat_map g (child_places top.root.part at))
      (outside from (place_contents old top at)) (outside to (place_contents new top at))
      (places_grow f g top.root.part at each)
      (subst (λ contents. AllGrown new (outside from (place_contents old top at))
      (outside to contents)) same
      (externals_grow new from to b (place_name top at) (place_holder top at) 0
      (external_of (place_contents old top at))))

  -- where the presence stays
  agreed : (top : RootTile) (levels : ℕ) (at : Place) (there : Presence)
      → presence top.root (subtree_at new) at ≡ there
      → (there ≡ Tile → place_contents old top at ≡ place_contents new top at)
      → (there ≡ Tile → AllGrown new (under old from top levels at) (under new to top levels at))
      → RootGrown new
      (node_for top at (place_contents old top at) (under old from top levels at) there)
      (node_for top at (place_contents new top at) (under new to top levels at) there)
  agreed top levels at No p c u = none_grown
  agreed top levels at (Waiting key) p c u =
      let waits : WaitsFor top.root (subtree_at new) key =
      waiting_key top.root (subtree_at new) at key p in
      one_grows new (pending (place_name top at) (place_facts top at []) key)
      (pending (place_name top at) (place_facts top at []) key)
      (read (place_name top at) (place_facts top at []) key
      (pending (place_name top at) (place_facts top at []) key)
      (of_subtree new key false (ap is_tileset (sym waits.is_key))
      (ap lacks_root_tile waits.unknown))
      (record { same_name = refl; same_volume = inr refl; same_request = inr refl }))
  agreed top levels at Tile p c u =
      subst (λ contents. RootGrown new
      (node_for top at (place_contents old top at) (under old from top levels at) Tile)
      (node_for top at contents (under new to top levels at) Tile)) (c refl)
      (tile_grows new (record {
        name = place_name top at;
        facts = place_facts top at (place_contents old top at);
        contents = own_of (place_contents old top at);
        origin = place_origin top at;
      }) (under old from top levels at) (under new to top levels at) (u refl))

  implicit_grows : (top : RootTile) (levels : ℕ) (at : Place)
      → IsReached top.root (subtree_at old) at
      → RootGrown new (implicit_node old from top levels at) (implicit_node new to top levels at)
  implicit_grows top zero at r = none_grown
  implicit_grows top (suc levels) at r =
      let node : Docs → Below → Presence → Option Tree =
      λ docs below there.
      node_for top at (place_contents docs top at) (under docs below top levels at) there in
      let now : Presence = presence top.root (subtree_at new) at in
      elim (learned top.root (subtree_at old) (subtree_at new) x.subtrees at r) [
        | waited key k e why ↦
            subst (λ there. RootGrown new (node old from there) (node new to now)) (sym e)
            (waited_grows new (place_name top at) (place_facts top at []) key (node new to now)
            (of_subtree new key _ k (why ∙ none_is_no top at (place_contents new top at)
            (under new to top levels at) now))
            (stands top at (place_contents new top at) (under new to top levels at) now))
        | stays e f ↦
            subst (λ there. RootGrown new (node old from (presence top.root (subtree_at old) at))
            (node new to there)) e
            (agreed top levels at (presence top.root (subtree_at old) at) (sym e)
            (λ t. contents_kept old new top at e (f t))
            (λ t. under_grows top levels at (λ i small. implicit_grows top levels (child at i)
            (below_here t i small)) (contents_kept old new top at e (f t))))
      ] where
        below_here : presence top.root (subtree_at old) at ≡ Tile → (i : ℕ) → i < 8
            → IsReached top.root (subtree_at old) (child at i)
        below_here t i small =
            let there : Here top.root (subtree_at old) at =
            tile_is_here top.root (subtree_at old) at t in
            λ h. (
              there.0,
              ap (found_at top.root (subtree_at old)) (above_child at i small) ∙ there.1,
            )

  -- ---- written tiles

  top_is_reached : (root : RootParts) → IsReached root (subtree_at old) root_place
  top_is_reached root h = cc

  mutual
    written_grows : (base name : List ℕ) (above : Holder) (t : WrittenTile)
        → RootGrown new (written_tree old from base name above t)
        (written_tree new to base name above t)
    written_grows base name above (written own children) =
        let holder : Holder = holder_of above own in
        let outside : Below → List Tree =
        λ below. externals below name holder (count_of children) (external_of own.contents) in
        elim own.implicit as (λ part. RootGrown new
        (tile_for old from base name holder own children part)
        (tile_for new to base name holder own children part)) [
          | Some p ↦ implicit_grows (root_tile base name holder own p) p.available_levels root_place
              (top_is_reached (root_tile base name holder own p).root)
          | None ↦ tile_grows new (record {
            name = name;
            facts = written_facts holder own;
            contents = own_of own.contents;
            origin = None;
          })
              (written_trees old from base name holder 0 children ++ outside from)
              (written_trees new to base name holder 0 children ++ outside to)
              (joined new (written_trees old from base name holder 0 children)
              (written_trees new to base name holder 0 children) (outside from) (outside to)
              (all_written_grow base name holder 0 children)
              (externals_grow new from to b name holder (count_of children)
              (external_of own.contents)))
        ]

    all_written_grow : (base name : List ℕ) (holder : Holder) (number : ℕ) (ts : WrittenTiles)
        → AllGrown new (written_trees old from base name holder number ts)
        (written_trees new to base name holder number ts)
    all_written_grow base name holder number no_tiles = none_grown
    all_written_grow base name holder number (more_tiles t ts) =
        joined new (option_to_list (written_tree old from base (child_name name number) holder t))
        (option_to_list (written_tree new to base (child_name name number) holder t))
        (written_trees old from base name holder (number + 1) ts)
        (written_trees new to base name holder (number + 1) ts)
        (written_grows base (child_name name number) holder t)
        (all_written_grow base name holder (number + 1) ts)

-- ---- documents

-- a written tile stands for a node of its name
place_stands : (docs : Docs) (below : Below) (top : RootTile) (levels : ℕ) (t : Tree)
    → implicit_node docs below top levels root_place ≡ Some t → name_of t ≡ top.name
place_stands docs below top zero t e = cc
place_stands docs below top (suc levels) t e =
    (stands top root_place (place_contents docs top root_place)
    (under docs below top levels root_place) (presence top.root (subtree_at docs) root_place) t
    e).same_name

written_name : (docs : Docs) (below : Below) (base name : List ℕ) (above : Holder)
    (tile : WrittenTile) (t : Tree) → written_tree docs below base name above tile ≡ Some t
    → name_of t ≡ name
written_name docs below base name above (written own children) t e =
    let holder : Holder = holder_of above own in
    elim own.implicit as (λ part. tile_for docs below base name holder own children part ≡ Some t
    → name_of t ≡ name) [
      | Some p ↦ λ h. place_stands docs below (root_tile base name holder own p)
          p.available_levels t h
      | None ↦ λ h. let is : explicit_tile name (written_facts holder own) (own_of own.contents)
          (from_list (written_trees docs below base name holder 0 children
          ++ externals below name holder (count_of children) (external_of own.contents))) ≡ t =
          cc in ap name_of (sym is)
    ] e

-- an implicit root leaves none where its subtree does
top_is_none : (docs : Docs) (below : Below) (top : RootTile) (levels : ℕ) → nat_le 1 levels ≡ true
    → lacks_root_tile (found_at top.root (subtree_at docs) root_place)
    ≡ is_none (implicit_node docs below top levels root_place)
top_is_none docs below top zero e = cc
top_is_none docs below top (suc levels) e =
    root_presence top.root (subtree_at docs)
    ∙ none_is_no top root_place (place_contents docs top root_place)
    (under docs below top levels root_place) (presence top.root (subtree_at docs) root_place)

written_is_none : (docs : Docs) (below : Below) (base name : List ℕ) (holder : Holder)
    (tile : WrittenTile) → AreWithin tile → tileset_leaves_none docs base (here tile)
    ≡ is_none (written_tree docs below base name holder tile)
written_is_none docs below base name above (written own children) l =
    let holder : Holder = holder_of above own in
    elim own.implicit as (λ part. OfPart part → leaves_none_by docs base own part
    ≡ is_none (tile_for docs below base name holder own children part)) [
      | Some p ↦ λ within. top_is_none docs below (root_tile base name holder own p)
          p.available_levels within.1
      | None ↦ λ within. refl
    ] l.0

-- the root of a document by what is known of it
abbrev root_for : Docs → Below → List ℕ → Holder → List ℕ → Found WrittenTile → Option Tree
root_for docs below name holder address found =
    elim found [
      | waiting ↦ Some (pending name (waiting_facts holder) (tileset_key address))
      | lost ↦ None
      | here root ↦ written_tree docs below address name holder root
    ]

root_name : (docs : Docs) (below : Below) (name : List ℕ) (holder : Holder) (address : List ℕ)
    (found : Found WrittenTile) (t : Tree)
    → root_for docs below name holder address found ≡ Some t → name_of t ≡ name
root_name docs below name holder address waiting t e =
    let is : pending name (waiting_facts holder) (tileset_key address) ≡ t = cc in
    ap name_of (sym is)
root_name docs below name holder address lost t e = cc
root_name docs below name holder address (here root) t e =
    written_name docs below address name holder root t e

root_is_none : (docs : Docs) (below : Below) (name : List ℕ) (holder : Holder) (address : List ℕ)
    (found : Found WrittenTile) → tileset_at docs address ≡ found
    → tileset_leaves_none docs address found
    ≡ is_none (root_for docs below name holder address found)
root_is_none docs below name holder address waiting e = refl
root_is_none docs below name holder address lost e = refl
root_is_none docs below name holder address (here root) e =
    written_is_none docs below address name holder root (loaded_within docs address root e)

module _ (old new : Docs) (x : Extends old new) where
  same_grows : (from to : Below) → BelowGrows new from to
      → (name : List ℕ) (holder : Holder) (address : List ℕ) (found : Found WrittenTile)
      → tileset_at new address ≡ found → RootGrown new (root_for old from name holder address found)
      (root_for new to name holder address found)
  same_grows from to b name holder address waiting e =
      one_grows new (pending name (waiting_facts holder) (tileset_key address))
      (pending name (waiting_facts holder) (tileset_key address))
      (read name (waiting_facts holder) (tileset_key address)
      (pending name (waiting_facts holder) (tileset_key address))
      (ap (tileset_leaves_none new address) e)
      (record { same_name = refl; same_volume = inl refl; same_request = inl refl }))
  same_grows from to b name holder address lost e = none_grown
  same_grows from to b name holder address (here root) e =
      written_grows old new x from to b address name holder root

  tileset_grows : (from to : Below) → BelowGrows new from to
      → BelowGrows new (tileset old from) (tileset new to)
  tileset_grows from to b name holder address =
      let now : Option Tree = root_for new to name holder address (tileset_at new address) in
      elim (x.tilesets address) [
        | inl w ↦ subst (λ f. RootGrown new (root_for old from name holder address f) now) (sym w)
            (waited_grows new name (waiting_facts holder) (tileset_key address) now
            (root_is_none new to name holder address (tileset_at new address) refl)
            (λ t e. record {
              same_name = root_name new to name holder address (tileset_at new address) t e;
              same_volume = inl refl;
              same_request = inl refl;
            }))
        | inr e ↦ subst (λ f. RootGrown new
            (root_for old from name holder address (tileset_at old address))
            (root_for new to name holder address f)) e
            (same_grows from to b name holder address (tileset_at old address) (sym e))
      ]

  tilesets_grow : (depth : ℕ) → BelowGrows new (tilesets old depth) (tilesets new depth)
  tilesets_grow zero name holder address = none_grown
  tilesets_grow (suc depth) name holder address =
      tileset_grows (tilesets old depth) (tilesets new depth) (tilesets_grow depth) name holder
      address

-- where more is known of the documents, pending nodes alone have changed
pub expanded_grows : (old new : Docs) → Extends old new → (root : List ℕ)
    → RootGrown new (expand old root) (expand new root)
unfolding expand
expanded_grows old new x root =
    tileset_grows old new x (tilesets old NESTING_LIMIT) (tilesets new NESTING_LIMIT)
    (tilesets_grow old new x NESTING_LIMIT) (codes "r") top_holder root
