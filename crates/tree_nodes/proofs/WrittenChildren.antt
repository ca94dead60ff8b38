-- The written children of a tile, one node after the other.
use Rattle.std.proofs.Common.{ℕ, ◌≡◌, ◌+◌, ◌<◌, ◌≤◌, Option, Some, None, option_to_list, List, [], ◌++◌, length, refl, sym, ◌∙◌, ap, subst, arith, append_assoc, append-nil, length-append}
use Rattle.std.specs.List.{slice_get}
use Rattle.std.specs.Option.{option_and_then}
use Rattle.tile_uri.specs.Addresses.{IsAddress}
use Rattle.tileset_schema.specs.Tiles.{WrittenTile, WrittenTiles, written, no_tiles, more_tiles, tile_count, tiles_count}
use Rattle.tileset_schema.specs.Preorder.{Row}
use Rattle.doc_store.specs.Docs.{Docs}
use Rattle.doc_store.specs.Store.{Stored, docs}
use Rattle.expanded_tree.specs.Tree.{Tree, name_of}
use Rattle.tree_expansion.specs.Expansion.{Holder, Below, child_name, count_of, tilesets, written_tree, written_trees}
use Rattle.tree_nodes.specs.declared.error.ListError.{ListError}
use Rattle.tree_nodes.specs.declared.node.Handed.{Handed}
use Rattle.tree_nodes.specs.declared.node_list.NodeList.{NodeList}
use Rattle.tree_nodes.specs.Tiles.{HasRow, IsTileAt, StandsAt, StandsIn, address_in, children_in, document_rows, row_of, tile_at}
use Rattle.tree_nodes.specs.Nodes.{IsSoundList, node_trees}
use Rattle.tree_nodes.specs.Growth.{AddsChildren, CanTake, Grows, Refuses, handed_holder, handed_name, parent_name, written_at, written_below}
use Rattle.tree_nodes.proofs.Growing.{can_still, grows_left, grows_length, grows_map, grows_none, grows_then}
use Rattle.tree_nodes.proofs.NodeTrees.{name_below}
use Rattle.tree_nodes.proofs.Refusals.{refuses_more}
use Rattle.tree_nodes.proofs.Rows.{AllStandAt, children_stand, first_stands, is_at, read_row, rest_stands, room_stands, row_stands}

pub length-written_trees : (docs : Docs) (below : Below) (base name : List ℕ) (holder : Holder)
    (k : ℕ) (ts : WrittenTiles)
    → length (written_trees docs below base name holder k ts) ≤ count_of ts
length-written_trees docs below base name holder k no_tiles = omega arith
length-written_trees docs below base name holder k (more_tiles t ts) =
    omega (
      arith,
      one (written_tree docs below base (child_name name k) holder t),
      length-append
          (option_to_list (written_tree docs below base (child_name name k) holder t))
          (written_trees docs below base name holder (k + 1) ts),
      length-written_trees docs below base name holder (k + 1) ts,
    )
  where
    one : (o : Option Tree) → length (option_to_list o) ≤ 1
    one None = omega arith
    one (Some t) = omega arith

-- some children have their nodes, and these are left
pub record Written (store : Stored) (limit : Option ℕ) (old now : NodeList) (handed : Handed)
    (tiles : List Row) (document : ℕ) (t : Option WrittenTile) (next end number : ℕ)
    : Type 0 where
  pub left : WrittenTiles
  pub stand : AllStandAt tiles next left
  pub until : next + tiles_count left ≡ end
  pub within : end ≤ length tiles
  pub counted : number + count_of left ≡ count_of (children_in t)
  pub small : number < next
  pub done : List Tree
  pub grows : Grows store limit old now done
  pub rest : done ++ written_below store old handed document number left
      ≡ written_below store old handed document 0 (children_in t)

children_of_tile : (t : WrittenTile) (tiles : List Row) (tile : ℕ) → StandsAt tiles tile t
    → AllStandAt tiles (tile + 1) (children_in (Some t))
children_of_tile (written own children) tiles tile s = children_stand tiles tile own children s

count_tile : (t : WrittenTile) → tile_count t ≡ tiles_count (children_in (Some t)) + 1
count_tile (written own children) = refl

pub starts : (store : Stored) (limit : Option ℕ) (old : NodeList) (handed : Handed)
    (tiles : List Row)
    (document tile size : ℕ) (row : Row) (there : StandsIn tiles tile)
    → document_rows store document ≡ Some tiles → IsSoundList store old
    → slice_get tiles tile ≡ Some row → size ≡ row.size
    → Written store limit old old handed tiles document (tile_at store document tile) (tile + 1)
    (tile + size) 0
starts store limit old handed tiles document tile size row there read sound e size_is =
    subst (λ t. Written store limit old old handed tiles document t (tile + 1) (tile + size) 0)
    (sym (is_at store document tile tiles there.tree read there.stands))
    (record {
      left = children_in (Some there.tree);
      stand = children_of_tile there.tree tiles tile there.stands;
      until = omega (arith, counted, count_tile there.tree);
      within = omega (arith, counted, room_stands tiles tile there.tree there.stands);
      counted = omega arith;
      small = omega arith;
      done = [];
      grows = grows_none store limit old sound;
      rest = refl;
    })
  where
    size_of_row : (r : Row) → Some r ≡ Some (row_of there.tree) → r.size ≡ tile_count there.tree
    size_of_row r f = let same : r ≡ row_of there.tree = cc in ap (λ (q : Row). q.size) same
        ∙ of_tile there.tree
      where
        of_tile : (u : WrittenTile) → (row_of u).size ≡ tile_count u
        of_tile (written own children) = refl

    counted : size ≡ tile_count there.tree
    counted = size_is ∙ size_of_row row (sym e ∙ row_stands tiles tile there.tree there.stands)

some_tile : (t : WrittenTile) → 1 ≤ tile_count t
some_tile (written own children) = omega arith

-- the first of the children that are left
record Head (left : WrittenTiles) : Type 0 where
  first : WrittenTile
  others : WrittenTiles
  is : left ≡ more_tiles first others

head : (left : WrittenTiles) → 0 < tiles_count left → Head left
head no_tiles h = absurd (omega arith)
head (more_tiles t ts) h = record { first = t; others = ts; is = refl }

abbrev numbered : Handed → ℕ → Handed
numbered handed number = record handed { number = number }

same_parts : (row : Row) (t : WrittenTile) → Some row ≡ Some (row_of t) → row ≡ row_of t
same_parts row t e = cc

size_of : (t : WrittenTile) → (row_of t).size ≡ tile_count t
size_of (written own children) = refl

module _ (store : Stored) (limit : Option ℕ) (old now : NodeList) (handed : Handed)
    (tiles : List Row) (document : ℕ) (t : Option WrittenTile) (next end number : ℕ)
    (w : Written store limit old now handed tiles document t next end number) where
  nodes_now : length now.nodes.items ≡ length old.nodes.items + length w.done
  nodes_now = grows_length store limit old now w.done w.grows

  pub can_take : CanTake old handed → 0 < length old.nodes.items
      → CanTake now (numbered handed number)
  can_take can some =
      let still = can_still store limit old now w.done handed w.grows can some in
      record { parent = still.parent; transform = still.transform }

  name_now : CanTake old handed → 0 < length old.nodes.items
      → handed_name store now (numbered handed number) ≡ child_name
      (parent_name store old handed) number
  name_now can some =
      name_below (node_trees store now) (length now.nodes.items) handed.parent number
      (omega (arith, some, nodes_now))
      ∙ ap (λ u. child_name (name_of u) number)
      (grows_left store limit old now w.done w.grows handed.parent (can.parent some))

  pub finished : end ≤ next → AddsChildren store limit old now handed document t number
  finished past = record {
    grows = subst (Grows store limit old now) whole w.grows;
    counted = none_left w.left w.counted (omega (arith, w.until));
  }
    where
      none_left : (left : WrittenTiles) → number + count_of left ≡ count_of (children_in t)
          → tiles_count left ≡ 0 → number ≡ count_of (children_in t)
      none_left no_tiles e z = omega (arith, e)
      none_left (more_tiles u us) e z = absurd (omega (arith, some_tile u))

      no_trees_left : (left : WrittenTiles) → tiles_count left ≡ 0
          → written_below store old handed document number left ≡ []
      no_trees_left no_tiles z = refl
      no_trees_left (more_tiles u us) z = absurd (omega (arith, some_tile u))

      whole : w.done ≡ written_below store old handed document 0 (children_in t)
      whole =
          sym (append-nil w.done)
          ∙ ap (λ us. w.done ++ us) (sym (no_trees_left w.left (omega (arith, w.until))))
          ∙ w.rest

  module _ (inside : next < end) where
    first : Head w.left
    first = head w.left (omega (arith, w.until))

    stand : AllStandAt tiles next (more_tiles first.first first.others)
    stand = subst (AllStandAt tiles next) first.is w.stand

    count_left : tile_count first.first + tiles_count first.others ≡ tiles_count w.left
    count_left = ap tiles_count (sym first.is)

    counted_left : number + (count_of first.others + 1) ≡ count_of (children_in t)
    counted_left = ap (λ ts. number + count_of ts) (sym first.is) ∙ w.counted

    module _ (row : Row) (read : slice_get tiles next ≡ Some row) where
      row_is : row ≡ row_of first.first
      row_is =
          same_parts row first.first (sym read ∙ row_stands tiles next first.first
          (first_stands tiles next first.first first.others stand))

      size_is : row.size ≡ tile_count first.first
      size_is = ap (λ (r : Row). r.size) row_is ∙ size_of first.first

      pub next_within : next + row.size ≤ end
      next_within = omega (arith, size_is, count_left, w.until)

      pub next_past : 1 ≤ row.size
      next_past = omega (arith, size_is, some_tile first.first)

    module _ (found : document_rows store document ≡ Some tiles)
        (address : IsAddress (address_in store document)) where
      pub there : IsTileAt store document next
      there = record {
        tiles = tiles;
        read = found;
        tree = first.first;
        stands = first_stands tiles next first.first first.others stand;
        address = address;
      }

      pub has_row : (row : Row) → slice_get tiles next ≡ Some row
          → HasRow store document next row
      has_row row read = read_row store document next tiles there found row read

      abbrev one : Option Tree
      one = written_tree (docs store) (tilesets (docs store) handed.levels)
          (address_in store document) (child_name (parent_name store old handed) number)
          (handed_holder old handed 0) first.first

      -- what the call adds
      one_is : CanTake old handed → 0 < length old.nodes.items
          → written_at store now (numbered handed number) document next ≡ one
      one_is can some =
          let below = tilesets (docs store) handed.levels in
          let base = address_in store document in
          let name = handed_name store now (numbered handed number) in
          ap (option_and_then (written_tree (docs store) below base name
          (handed_holder now (numbered handed number) 0)))
          (is_at store document next tiles first.first found
          (first_stands tiles next first.first first.others stand))
          ∙ ap (λ m. written_tree (docs store) below base m
          (handed_holder now (numbered handed number) 0) first.first) (name_now can some)
          ∙ ap (λ map. written_tree (docs store) below base
          (child_name (parent_name store old handed) number)
          (record { transform = map; error = 0; refine = handed.refine }) first.first)
          (grows_map store limit old now w.done w.grows handed.transform can.transform)

      rest_is : (w.done ++ option_to_list one)
          ++ written_below store old handed document (number + 1) first.others
          ≡ written_below store old handed document 0 (children_in t)
      rest_is =
          append_assoc w.done (option_to_list one)
          (written_below store old handed document (number + 1) first.others)
          ∙ ap (λ ts. w.done ++ written_below store old handed document number ts) (sym first.is)
          ∙ w.rest

      pub refused : CanTake old handed → 0 < length old.nodes.items → (e : ListError)
          → Refuses limit (length now.nodes.items + length (option_to_list
          (written_at store now (numbered handed number) document next))) e
          → Refuses limit (length old.nodes.items
          + length (written_below store old handed document 0 (children_in t))) e
      refused can some e =
          refuses_more limit _ (length old.nodes.items
          + length (written_below store old handed document 0 (children_in t))) e
          (omega (
            arith,
            nodes_now,
            ap (λ o. length (option_to_list o)) (one_is can some),
            ap length rest_is,
            length-append (w.done ++ option_to_list one)
                (written_below store old handed document (number + 1) first.others),
            length-append w.done (option_to_list one),
          ))

      pub stepped : (row : Row) → slice_get tiles next ≡ Some row → (new : NodeList)
          → CanTake old handed → 0 < length old.nodes.items
          → Grows store limit now new (option_to_list
          (written_at store now (numbered handed number) document next))
          → Written store limit old new handed tiles document t (next + row.size) end (number + 1)
      stepped row read new can some g = record {
        left = first.others;
        stand = subst (λ k. AllStandAt tiles (next + k) first.others) (sym (size_is row read))
            (rest_stands tiles next first.first first.others stand);
        until = omega (arith, size_is row read, count_left, w.until);
        within = w.within;
        counted = omega (arith, counted_left);
        small = omega (arith, w.small, next_past row read);
        done = w.done ++ option_to_list one;
        grows = grows_then store limit old now new w.done (option_to_list one) w.grows
            (subst (λ o. Grows store limit now new (option_to_list o)) (one_is can some) g);
        rest = rest_is;
      }
