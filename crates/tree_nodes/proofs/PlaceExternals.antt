-- The external tilesets of a tile at a place, one after the other, and all children of such a tile.
use Rattle.std.specs.Prelude.{if◌then◌else◌}
use Rattle.std.proofs.Common.{ℕ, zero, suc, ◌≡◌, ◌+◌, ◌-◌, ◌<◌, ◌≤◌, ◌^◌, Bool, true, false, not, Option, Some, None, option_to_list, List, [], ◌∷◌, ◌++◌, filter_map, map, length, drop, get_or, refl, sym, ◌∙◌, ap, subst, arith, append_assoc, append-nil, length-append}
use Rattle.std.specs.List.{flat_map, range_with_len, slice_get}
use Rattle.std.specs.Option.{option_map, option_map_or, unwrap_or}
use Rattle.std.proofs.lemmas.List.{drop_all}
use Rattle.std.proofs.lemmas.List.Concat.{flat_map-cons}
use Rattle.std.proofs.lemmas.List.FromFn.{length-map-range_with_len, length-range_with_len}
use Rattle.std.proofs.lemmas.List.Sums.{count_by-le-length, length-filter}
use Rattle.std.proofs.lemmas.Option.{slice_get_read, slice_get_within}
use Rattle.tile_uri.specs.Addresses.{IsAddress, is_external}
use Rattle.tileset_schema.specs.Implicit.{ImplicitParts}
use Rattle.subtree_binary.specs.Counts.{arity}
use Rattle.implicit_walk.specs.declared.place.Place.{Place}
use Rattle.implicit_walk.specs.Places.{IsPlace, child, child_places, has_children}
use Rattle.implicit_walk.specs.Roots.{RootParts, error_at}
use Rattle.implicit_walk.specs.Presences.{content_at}
use Rattle.doc_store.specs.Docs.{Docs, subtree_at}
use Rattle.doc_store.specs.Store.{Stored, docs}
use Rattle.expanded_tree.specs.Tree.{Tree, addresses_of, children_of, name_of}
use Rattle.expanded_tree.proofs.Trees.{list_of-from_list}
use Rattle.tree_expansion.specs.Expansion.{Below, Holder, RootTile, child_name, external_of, externals, place_contents, place_holder, place_name, tileset, tilesets}
use Rattle.tree_nodes.specs.declared.error.ListError.{ListError}
use Rattle.tree_nodes.specs.declared.found.Found.{Found}
use Rattle.tree_nodes.specs.declared.node.Handed.{Handed}
use Rattle.tree_nodes.specs.declared.node.NodeSource.TheVariants.{Implicit}
use Rattle.tree_nodes.specs.declared.node.TreeNode.{TreeNode}
use Rattle.tree_nodes.specs.declared.node_list.NodeList.{NodeList}
use Rattle.tree_nodes.specs.declared.place_entry.PlaceEntry.{PlaceEntry}
use Rattle.tree_nodes.specs.declared.place_entry.SubtreeState.TheVariants.{Read, Awaited}
use Rattle.tree_nodes.specs.declared.tables.Tables.{Tables}
use Rattle.tree_nodes.specs.declared.top.Top.{Top}
use Rattle.tree_nodes.specs.Found.{IsFound, IsFoundSome}
use Rattle.tree_nodes.specs.Growth.{CanTake, Grows, HasFew, IsPlaceParent, Refuses, handed_holder, handed_name, place_external}
use Rattle.tree_nodes.specs.Nodes.{IsSoundList, name_by, node_trees, placed_node, source_tree}
use Rattle.tree_nodes.specs.Places.{HasNumber, HasTile, HasTop, IsPlaced, IsState, IsTileIn, IsTop, map_in, node_at, place_children, top_in}
use Rattle.tree_nodes.specs.TreeIn.{no_tree, tree_in}
use Rattle.tree_nodes.proofs.ExternalChildren.{drop_some, shallow}
use Rattle.tree_nodes.proofs.Fronts.{IsFront-length}
use Rattle.tree_nodes.proofs.Growing.{can_still, grows_left, grows_length, grows_map, grows_none, grows_then}
use Rattle.tree_nodes.proofs.NodeTrees.{name_below, tree_at_node}
use Rattle.tree_nodes.proofs.PlaceFacts.{same_entry}
use Rattle.tree_nodes.proofs.PlaceNodes.{awaited_at, children_are, tile_at}
use Rattle.tree_nodes.proofs.Places.{children_are as row_is, entry_same, placed_stays, stretch_count, told_root, top_is, top_stays, tree_is}
use Rattle.tree_nodes.proofs.PlacesRead.{entry_there, place_read, place_there, stretch_get}
use Rattle.tree_nodes.proofs.Refusals.{refuses_more}

-- the external tilesets of this tile, but for the first ones
abbrev pub left_at : Stored → ℕ → PlaceEntry → ℕ → RootTile → List Tree
left_at store levels entry number top =
    externals (tilesets (docs store) levels) (place_name top entry.at) (place_holder top entry.at)
    number (drop number (external_of (place_contents (docs store) top entry.at)))

abbrev pub external_left : Stored → Tables → ℕ → PlaceEntry → ℕ → List Tree
external_left store tables levels entry number =
    option_map_or (left_at store levels entry number) (top_in store tables entry.top) []

-- the first ones have their nodes
pub record Followed (store : Stored) (limit : Option ℕ) (old now : NodeList) (handed : Handed)
    (entry : PlaceEntry) (number : ℕ) : Type 0 where
  pub done : List Tree
  pub grows : Grows store limit old now done
  pub rest : done ++ external_left store old.tables handed.levels entry number
      ≡ place_external store old.tables handed.levels entry

pub none_followed : (store : Stored) (limit : Option ℕ) (old : NodeList) (handed : Handed)
    (entry : PlaceEntry)
    → IsSoundList store old → Followed store limit old old handed entry 0
none_followed store limit old handed entry sound = record {
  done = [];
  grows = grows_none store limit old sound;
  rest = refl;
}

one_level : (docs : Docs) (levels : ℕ) (name : List ℕ) (holder : Holder) (address : List ℕ)
    → 0 < levels
    → tileset docs (tilesets docs (levels - 1)) name holder address
    ≡ tilesets docs levels name holder address
one_level docs zero name holder address h = absurd (omega arith)
one_level docs (suc k) name holder address h =
    ap (λ l. tileset docs (tilesets docs l) name holder address) (less k)
  where
    less : (n : ℕ) → suc n - 1 ≡ n
    less n = omega arith

-- what is found at an address of the tables
pub found_some : (store : Stored) (item address : List ℕ) (found : Found) → address ≡ item
    → IsAddress item → IsFound store address found → IsFoundSome store found
found_some store item address found same is_address is =
    record { address = address; is = is; is_address = subst IsAddress (sym same) is_address }

module _ (store : Stored) (limit : Option ℕ) (old : NodeList) (handed : Handed)
    (entry : PlaceEntry) (p : IsPlaceParent store old handed entry) where
  abbrev addresses : List (List ℕ)
  addresses = external_of (place_contents (docs store) p.top entry.at)

  abbrev left : ℕ → List Tree
  left number = left_at store handed.levels entry number p.top

  left_is : (number : ℕ) → external_left store old.tables handed.levels entry number
      ≡ left_at store handed.levels entry number p.top
  left_is number = ap (λ o. option_map_or (left_at store handed.levels entry number) o [])
      (top_is store old.tables entry.top p.top p.placed.is_top)

  count_is : length (external_of (place_contents (docs store) p.top entry.at))
      ≡ entry.external.count
  count_is = stretch_count old.tables.external.items entry.external addresses p.placed.external

  pub none_deep : IsSoundList store old → handed.levels ≡ 0
      → Grows store limit old old (place_external store old.tables handed.levels entry)
  none_deep sound e =
      subst (Grows store limit old old)
      (sym (left_is 0
      ∙ ap (λ l. externals (tilesets (docs store) l) (place_name p.top entry.at)
      (place_holder p.top entry.at) 0 addresses) e
      ∙ shallow (docs store) (place_name p.top entry.at) (place_holder p.top entry.at) 0
      addresses))
      (grows_none store limit old sound)

  module _ (now : NodeList) (number : ℕ) (w : Followed store limit old now handed entry number)
    where
      pub all_followed : entry.external.count ≤ number
          → Grows store limit old now (place_external store old.tables handed.levels entry)
      all_followed past =
          subst (Grows store limit old now)
          (sym (append-nil w.done)
          ∙ ap (λ ts. w.done ++ ts) (sym none_left)
          ∙ w.rest) w.grows
        where
          none_left : external_left store old.tables handed.levels entry number ≡ []
          none_left =
              left_is number
              ∙ ap (λ xs. externals (tilesets (docs store) handed.levels)
              (place_name p.top entry.at) (place_holder p.top entry.at) number xs)
              (drop_all number addresses (omega (arith, count_is, past)))

      placed_now : IsPlaced store now.tables entry p.top
      placed_now =
          placed_stays store old.tables now.tables w.grows.tables entry p.top p.placed

      pub number_now : HasNumber store now.tables entry.top
      number_now = record { top = p.top; is_top = placed_now.is_top }

      same_root : (root : RootParts)
          → option_map (λ (t : RootTile). t.root) (top_in store now.tables entry.top) ≡ Some root
          → root ≡ p.top.root
      same_root root e =
          told_root store now.tables entry.top p.top placed_now.is_top root e

      pub is_place : (root : RootParts)
          → option_map (λ (t : RootTile). t.root) (top_in store now.tables entry.top) ≡ Some root
          → IsPlace root.part entry.at
      is_place root e =
          subst (λ (r : RootParts). IsPlace r.part entry.at) (sym (same_root root e)) p.placed.place

      nodes_now : length now.nodes.items ≡ length old.nodes.items + length w.done
      nodes_now = grows_length store limit old now w.done w.grows

      pub can_follow : CanTake old handed → 0 < length old.nodes.items
          → CanTake now (record handed { number = number; levels = handed.levels - 1 })
      can_follow can some = record {
        parent = λ h. omega (arith, can.parent some, nodes_now);
        transform =
            omega (
              arith,
              can.transform,
              IsFront-length old.tables.transforms.items now.tables.transforms.items
                  w.grows.tables.transforms,
            );
      }

      module _ (inside : number < entry.external.count) where
        pub external_there : entry.external.first + number < length now.tables.external.items
        external_there = omega (arith, placed_now.external.there)

        module _ (can : CanTake old handed) (some : 0 < length old.nodes.items)
            (deep : 0 < handed.levels) (address item : List ℕ) (same : address ≡ item)
            (read : item ≡ get_or now.tables.external.items (entry.external.first + number) item)
            (root : RootParts)
            (told : option_map (λ (t : RootTile). t.root) (top_in store now.tables entry.top)
            ≡ Some root)
            (error : ℕ) (error_is : error ≡ error_at root entry.at) where
          at : slice_get (external_of (place_contents (docs store) p.top entry.at)) number
              ≡ Some address
          at = stretch_get now.tables.external.items entry.external addresses placed_now.external number
              (omega (arith, count_is))
              ∙ slice_get_read now.tables.external.items _ (entry.external.first + number) item
              refl external_there read
              ∙ ap Some (sym same)

          map_now : map_in now.tables.transforms.items handed.transform
              ≡ map_in old.tables.transforms.items handed.transform
          map_now = grows_map store limit old now w.done w.grows handed.transform can.transform

          name_now : handed_name store now
              (record handed { number = number; levels = handed.levels - 1 })
              ≡ child_name (place_name p.top entry.at) number
          name_now =
              name_below (node_trees store now) (length now.nodes.items) handed.parent number
              (omega (arith, some, nodes_now))
              ∙ ap (λ u. child_name (name_of u) number)
              (grows_left store limit old now w.done w.grows handed.parent (can.parent some))
              ∙ ap (λ m. child_name m number) p.name

          holder_now : handed_holder now
              (record handed { number = number; levels = handed.levels - 1 }) error
              ≡ place_holder p.top entry.at
          holder_now =
              ap (λ m. record { transform = m; error = error; refine = handed.refine }) map_now
              ∙ ap (λ (e : ℕ). record {
                transform = map_in old.tables.transforms.items handed.transform;
                error = e;
                refine = handed.refine;
              })
              (error_is ∙ ap (λ r. error_at r entry.at) (same_root root told))
              ∙ p.holder

          abbrev one : List Tree
          one =
              option_to_list (tilesets (docs store) handed.levels
              (child_name (place_name p.top entry.at) number) (place_holder p.top entry.at) address)

          -- what the call adds
          one_is : option_to_list (tileset (docs store) (tilesets (docs store) (handed.levels - 1))
              (handed_name store now (record handed { number = number; levels = handed.levels - 1 }))
              (handed_holder now (record handed { number = number; levels = handed.levels - 1 })
              error) address)
              ≡ option_to_list (tilesets (docs store) handed.levels
              (child_name (place_name p.top entry.at) number) (place_holder p.top entry.at) address)
          one_is =
              ap (λ name. option_to_list
              (tileset (docs store) (tilesets (docs store) (handed.levels - 1)) name
              (handed_holder now (record handed { number = number; levels = handed.levels - 1 })
              error) address)) name_now
              ∙ ap (λ holder. option_to_list
              (tileset (docs store) (tilesets (docs store) (handed.levels - 1))
              (child_name (place_name p.top entry.at) number) holder address)) holder_now
              ∙ ap option_to_list (one_level (docs store) handed.levels
              (child_name (place_name p.top entry.at) number) (place_holder p.top entry.at) address
              deep)

          -- what is left begins with it
          begins : left_at store handed.levels entry number p.top
              ≡ option_to_list (tilesets (docs store) handed.levels
              (child_name (place_name p.top entry.at) number) (place_holder p.top entry.at) address)
              ++ left_at store handed.levels entry (number + 1) p.top
          begins =
              ap (λ xs. externals (tilesets (docs store) handed.levels) (place_name p.top entry.at)
              (place_holder p.top entry.at) number xs) (drop_some addresses number address at)

          all_is : (w.done ++ one) ++ external_left store old.tables handed.levels entry (number + 1)
              ≡ place_external store old.tables handed.levels entry
          all_is =
              append_assoc w.done one (external_left store old.tables handed.levels entry (number + 1))
              ∙ ap (λ ts. w.done ++ (one ++ ts)) (left_is (number + 1))
              ∙ ap (λ ts. w.done ++ ts) (sym (left_is number ∙ begins))
              ∙ w.rest

          pub one_followed : (new : NodeList)
              → Grows store limit now new
              (option_to_list (tileset (docs store) (tilesets (docs store) (handed.levels - 1))
              (handed_name store now (record handed { number = number; levels = handed.levels - 1 }))
              (handed_holder now (record handed { number = number; levels = handed.levels - 1 })
              error) address))
              → Followed store limit old new handed entry (number + 1)
          one_followed new g = record {
            done = w.done ++ one;
            grows = grows_then store limit old now new w.done one w.grows
                (subst (Grows store limit now new) one_is g);
            rest = all_is;
          }

          pub not_followed : (e : ListError)
              → Refuses limit
              (length now.nodes.items + length
              (option_to_list (tileset (docs store) (tilesets (docs store) (handed.levels - 1))
              (handed_name store now (record handed { number = number; levels = handed.levels - 1 }))
              (handed_holder now (record handed { number = number; levels = handed.levels - 1 })
              error) address))) e
              → Refuses limit
              (length old.nodes.items
              + length (place_external store old.tables handed.levels entry)) e
          not_followed e r =
              refuses_more limit _
              (length old.nodes.items + length (place_external store old.tables handed.levels entry))
              e
              (omega (
                arith,
                ap length one_is,
                nodes_now,
                ap length all_is,
                length-append (w.done ++ one)
                    (external_left store old.tables handed.levels entry (number + 1)),
                length-append w.done one,
              )) r

-- ---- all children

arity_small : (octree : Bool) → arity octree ≤ 8
arity_small true = omega arith
arity_small false = omega arith

few_places : (part : ImplicitParts) (at : Place) → length (child_places part at) ≤ 8
few_places part at = by_level (has_children part at)
  where
    by_level : (b : Bool)
        → length (if b then map (child at) (range_with_len 0 (arity part.octree)) else []) ≤ 8
    by_level false = omega arith
    by_level true =
        omega (
          arith,
          length-map-range_with_len (child at) 0 (arity part.octree),
          arity_small part.octree,
        )

one_at_most : (o : Option Tree) → length (option_to_list o) ≤ 1
one_at_most None = omega arith
one_at_most (Some t) = omega arith

few_of : {A : Type 0} (f : A → Option Tree) (xs : List A)
    → length (flat_map (λ x. option_to_list (f x)) xs) ≤ length xs
few_of f [] = omega arith
few_of f (x ∷ xs) =
    omega (
      arith,
      ap length (flat_map-cons (λ y. option_to_list (f y)) x xs),
      length-append (option_to_list (f x)) (flat_map (λ y. option_to_list (f y)) xs),
      one_at_most (f x),
      few_of f xs,
    )

kept_one : {A B : Type 0} (f : A → Option B) (x : A) (xs : List A) (o : Option B) → f x ≡ o
    → length (filter_map f xs) ≤ length xs
    → length (filter_map f (x ∷ xs)) ≤ length (x ∷ xs)
kept_one f x xs None e h = rw e (omega (arith, h))
kept_one f x xs (Some y) e h = rw e (omega (arith, h))

few_kept : {A B : Type 0} (f : A → Option B) (xs : List A)
    → length (filter_map f xs) ≤ length xs
few_kept f [] = omega arith
few_kept f (x ∷ xs) = kept_one f x xs (f x) refl (few_kept f xs)

few_externals : (below : Below) (name : List ℕ) (holder : Holder) (number : ℕ)
    (addresses : List (List ℕ))
    → length (externals below name holder number addresses) ≤ length addresses
few_externals below name holder number [] = omega arith
few_externals below name holder number (x ∷ xs) =
    omega (
      arith,
      one_at_most (below (child_name name number) holder x),
      length-append (option_to_list (below (child_name name number) holder x))
          (externals below name holder (number + 1) xs),
      few_externals below name holder (number + 1) xs,
    )

-- what the tile of an implicit root hands down to the children of a node
abbrev pub handed_by : ℕ → ℕ → Top → Handed
handed_by place levels top = record {
  parent = place;
  transform = top.transform;
  number = 0;
  levels = levels;
  refine = top.refine;
}

-- what is read of the entry of a node
module _ (store : Stored) (list : NodeList) (place : ℕ) (n : TreeNode)
    (sound : IsSoundList store list)
    (at : slice_get list.nodes.items place ≡ Some n)
    (number : ℕ) (source : n.source ≡ Implicit number)
    (entry : PlaceEntry) (read : entry ≡ get_or list.tables.places.items number entry) where
  abbrev tree : Tree
  tree = tree_in (node_trees store list) place

  at_entry : slice_get list.tables.places.items number ≡ Some entry
  at_entry = slice_get_read list.tables.places.items _ number entry refl
      (entry_there store list place n sound at number source) read

  pub has_top : HasTop store list.tables entry
  has_top =
      let p = place_there store list place n sound at number source in
      subst (HasTop store list.tables) (same_entry store list.tables number p entry read) p.has

  pub top_there : entry.top < length list.tables.tops.items
  top_there = slice_get_within list.tables.tops.items entry.top has_top.placed.is_top.entry
      has_top.placed.is_top.at

  tree_at : tree_in (node_trees store list) place
      ≡ unwrap_or (node_at store n.levels has_top.top entry.at) no_tree
  tree_at =
      tree_at_node store list.tables list.nodes.items place n at (sound.nodes place n at).below
      ∙ ap (source_tree store list.tables (name_by (node_trees store list) place n.parent n.number)
      n) source
      ∙ ap (placed_node store list.tables n.levels) at_entry
      ∙ ap (λ o. unwrap_or o no_tree)
      (tree_is store list.tables entry.top has_top.top has_top.placed.is_top n.levels entry.at)

  -- it has fewer than 2^32 contents of its own
  few_contents : length (addresses_of (tree_in (node_trees store list) place)) < 2 ^ 32
  few_contents =
      let own = place_contents (docs store) has_top.top entry.at in
      omega (
        arith,
        ap length (place_read store list place n sound at number source
            (record { entry = entry; at = at_entry; has = has_top })).contents,
        length-filter (λ address. not (is_external address)) own,
        count_by-le-length (λ address. not (is_external address)) own,
        few_kept (content_at has_top.top.root (subtree_at (docs store)) entry.at)
            (range_with_len 0 (length has_top.top.root.part.contents)),
        length-range_with_len 0 (length has_top.top.root.part.contents),
        has_top.placed.is_top.root.contents,
      )

  -- a node that waits for its subtree has no child
  no_child : (waiting : ℕ) → entry.state ≡ Awaited waiting
      → children_of (tree_in (node_trees store list) place) ≡ []
  no_child waiting e =
      let state = subst (IsState store list.tables has_top.top.root entry.at) e
      has_top.placed.state in
      ap children_of (tree_at ∙ ap (λ o. unwrap_or o no_tree)
      (awaited_at store n.levels has_top.top entry.at has_top.placed.place state.entry.key
      state.waits))

  pub no_children : (limit : Option ℕ) (waiting : ℕ) → entry.state ≡ Awaited waiting
      → Grows store limit list list (children_of (tree_in (node_trees store list) place))
      × HasFew (tree_in (node_trees store list) place)
  no_children limit waiting e = (
    subst (Grows store limit list list) (sym (no_child waiting e))
        (grows_none store limit list sound),
    record {
      children = omega (arith, ap length (no_child waiting e));
      contents = few_contents;
    },
  )

  module _ (subtree : ℕ) (e : entry.state ≡ Read subtree) where
    state : IsTileIn store has_top.top.root entry.at subtree
    state = subst (IsState store list.tables has_top.top.root entry.at) e has_top.placed.state

    pub has_tile : HasTile store list.tables entry.top subtree entry.at
    has_tile = record {
      top = has_top.top;
      is_top = has_top.placed.is_top;
      place = has_top.placed.place;
      tile = state;
    }

    abbrev externals_of : RootTile → List Tree
    externals_of top =
        externals (tilesets (docs store) n.levels) (place_name top entry.at)
        (place_holder top entry.at) 0 (external_of (place_contents (docs store) top entry.at))

    external_is : (tables : Tables) → IsTop store tables entry.top has_top.top
        → place_external store tables n.levels entry
        ≡ externals (tilesets (docs store) n.levels) (place_name has_top.top entry.at)
        (place_holder has_top.top entry.at) 0
        (external_of (place_contents (docs store) has_top.top entry.at))
    external_is tables t =
        ap (λ o. option_map_or externals_of o []) (top_is store tables entry.top has_top.top t)

    -- those below it, and behind them those of external tilesets
    children_parted : children_of (tree_in (node_trees store list) place)
        ≡ place_children store list.tables n.levels entry.top entry.at
        ++ place_external store list.tables n.levels entry
    children_parted =
        ap children_of (tree_at ∙ ap (λ o. unwrap_or o no_tree)
        (tile_at store n.levels has_top.top entry.at has_top.placed.place state.present))
        ∙ list_of-from_list _
        ∙ children_are store n.levels has_top.top entry.at has_top.placed.place
        ∙ ap (λ ts. ts ++ externals_of has_top.top)
        (sym (row_is store list.tables entry.top has_top.top has_top.placed.is_top n.levels
        entry.at))
        ∙ ap (λ ts. place_children store list.tables n.levels entry.top entry.at ++ ts)
        (sym (external_is list.tables has_top.placed.is_top))

    counted : length (children_of (tree_in (node_trees store list) place))
        ≡ length (place_children store list.tables n.levels entry.top entry.at)
        + length (place_external store list.tables n.levels entry)
    counted =
        omega (
          arith,
          ap length children_parted,
          length-append (place_children store list.tables n.levels entry.top entry.at)
              (place_external store list.tables n.levels entry),
        )

    row_small : length (place_children store list.tables n.levels entry.top entry.at) ≤ 8
    row_small =
        omega (
          arith,
          ap length (row_is store list.tables entry.top has_top.top has_top.placed.is_top n.levels
              entry.at),
          few_of (λ p. node_at store n.levels has_top.top p)
              (child_places has_top.top.root.part entry.at),
          few_places has_top.top.root.part entry.at,
        )

    external_small : length (place_external store list.tables n.levels entry)
        ≤ entry.external.count
    external_small =
        omega (
          arith,
          ap length (external_is list.tables has_top.placed.is_top),
          few_externals (tilesets (docs store) n.levels) (place_name has_top.top entry.at)
              (place_holder has_top.top entry.at) 0
              (external_of (place_contents (docs store) has_top.top entry.at)),
          stretch_count list.tables.external.items entry.external
              (external_of (place_contents (docs store) has_top.top entry.at))
              has_top.placed.external,
        )

    -- too many of those below it
    pub too_many_below : (limit : Option ℕ) (e : ListError)
        → Refuses limit (length list.nodes.items
        + length (place_children store list.tables n.levels entry.top entry.at)) e
        → Refuses limit (length list.nodes.items
        + length (children_of (tree_in (node_trees store list) place))) e
    too_many_below limit e r =
        refuses_more limit _
        (length list.nodes.items + length (children_of (tree_in (node_trees store list) place))) e
        (omega (arith, counted)) r

    module _ (top : Top) (top_read : top ≡ get_or list.tables.tops.items entry.top top) where
      same_top : top ≡ has_top.placed.is_top.entry
      same_top = entry_same store list.tables entry.top has_top.top has_top.placed.is_top top
          top_read

      within : place < length list.nodes.items
      within = slice_get_within list.nodes.items place n at

      pub some_nodes : 0 < length list.nodes.items
      some_nodes = omega (arith, within)

      pub can_take : CanTake list (handed_by place n.levels top)
      can_take = record {
        parent = λ h. within;
        transform = subst (λ (t : Top). t.transform < length list.tables.transforms.items)
            (sym same_top) has_top.placed.is_top.transform;
      }

      is_parent : IsPlaceParent store list (handed_by place n.levels top) entry
      is_parent = record {
        top = has_top.top;
        placed = has_top.placed;
        name = (place_read store list place n sound at number source
            (record { entry = entry; at = at_entry; has = has_top })).name;
        holder = ap (λ (t : Top). record {
          transform = map_in list.tables.transforms.items t.transform;
          error = error_at has_top.top.root entry.at;
          refine = t.refine;
        }) same_top
            ∙ sym (ap (λ (t : RootTile). record t.holder {
              error = error_at has_top.top.root entry.at;
            }) has_top.placed.is_top.is);
      }

      -- once those below it have their nodes
      module _ (limit : Option ℕ) (mid : NodeList)
          (g : Grows store limit list mid
          (place_children store list.tables n.levels entry.top entry.at)) where
        pub can_take_more : CanTake mid (handed_by place n.levels top)
        can_take_more = can_still store limit list mid _ (handed_by place n.levels top) g can_take
            some_nodes

        nodes_mid : length mid.nodes.items ≡ length list.nodes.items
            + length (place_children store list.tables n.levels entry.top entry.at)
        nodes_mid = grows_length store limit list mid _ g

        pub some_more : 0 < length mid.nodes.items
        some_more = omega (arith, some_nodes, nodes_mid)

        pub still_parent : IsPlaceParent store mid (handed_by place n.levels top) entry
        unfolding has_top is_parent
        still_parent = record {
          top = has_top.top;
          placed = placed_stays store list.tables mid.tables g.tables entry has_top.top
              has_top.placed;
          name = ap name_of (grows_left store limit list mid _ g place within) ∙ is_parent.name;
          holder = ap (λ m. record {
            transform = m;
            error = error_at has_top.top.root entry.at;
            refine = top.refine;
          }) (grows_map store limit list mid _ g top.transform can_take.transform)
              ∙ is_parent.holder;
        }

        external_same : place_external store mid.tables n.levels entry
            ≡ place_external store list.tables n.levels entry
        external_same =
            external_is mid.tables
            (top_stays store list.tables mid.tables g.tables entry.top has_top.top
            has_top.placed.is_top)
            ∙ sym (external_is list.tables has_top.placed.is_top)

        pub too_many : (e : ListError)
            → Refuses limit
            (length mid.nodes.items + length (place_external store mid.tables n.levels entry)) e
            → Refuses limit (length list.nodes.items
            + length (children_of (tree_in (node_trees store list) place))) e
        too_many e r =
            refuses_more limit _
            (length list.nodes.items
            + length (children_of (tree_in (node_trees store list) place))) e
            (omega (arith, counted, nodes_mid, ap length external_same)) r

        pub all_children : (new : NodeList) → entry.external.count + 8 < 2 ^ 32
            → Grows store limit mid new (place_external store mid.tables n.levels entry)
            → Grows store limit list new (children_of (tree_in (node_trees store list) place))
            × HasFew (tree_in (node_trees store list) place)
        all_children new few h = (
          subst (Grows store limit list new) (sym children_parted)
              (grows_then store limit list mid new _ _ g
              (subst (Grows store limit mid new) external_same h)),
          record {
            children = omega (arith, counted, row_small, external_small, few);
            contents = few_contents;
          },
        )
