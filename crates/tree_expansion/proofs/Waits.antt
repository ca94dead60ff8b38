-- Pending nodes wait for tilesets and subtrees that are neither loaded nor absent.
use Rattle.std.proofs.Common.{ℕ, zero, suc, ◌+◌, ◌≡◌, Bool, true, false, not, ◌&&◌, Option, Some, None, option_to_list, List, [], ◌∷◌, ◌++◌, flat_map, is_none, codes, refl, sym, ◌∙◌, ap}
use Rattle.std.specs.Prelude.{nat_le, if◌then◌else◌}
use Rattle.std.specs.List.{list_all}
use Rattle.std.proofs.lemmas.List.Folds.{list_all-append}
use Rattle.std.proofs.lemmas.Bool.{leb-true}
use Rattle.tile_types.specs.declared.key.Key.{Key}
use Rattle.tile_types.specs.declared.key.Kind.{Kind}
use Rattle.tile_types.specs.declared.key.Kind.TheVariants.{Content, Tileset, Subtree}
use Rattle.tileset_schema.specs.Implicit.{ImplicitParts}
use Rattle.tileset_schema.specs.Tiles.{WrittenTile, WrittenTiles, written, no_tiles, more_tiles}
use Rattle.subtree_binary.specs.Counts.{level_limit}
use Rattle.subtree_binary.specs.Found.{waiting, lost, here}
use Rattle.implicit_walk.specs.declared.place.Place.{Place}
use Rattle.implicit_walk.specs.declared.presence.Presence.{Presence}
use Rattle.implicit_walk.specs.declared.presence.Presence.TheVariants.{No, Tile, Waiting}
use Rattle.implicit_walk.specs.Places.{child_places, root_place}
use Rattle.implicit_walk.specs.Roots.{RootParts, key_of_subtree}
use Rattle.implicit_walk.specs.Presences.{presence}
use Rattle.doc_store.specs.Docs.{Docs, found, found_in, as_read, tileset_in, tileset_at, tileset_key, subtree_at, subtree_for, is_unread}
use Rattle.doc_store.specs.Store.{IsDocumentKind}
use Rattle.expanded_tree.specs.Tree.{Tree, pending, from_list}
use Rattle.tree_expansion.specs.declared.limits.TheConstants.{NESTING_LIMIT}
use Rattle.tree_expansion.specs.Expansion.{Holder, top_holder, holder_of, Below, child_name, external_of, externals, RootTile, place_name, place_contents, place_facts, place_holder, place_tile, implicit_node, root_tile, written_tree, written_trees, count_of, waiting_facts, tileset, tilesets, expand}
use Rattle.tree_expansion.specs.Whole.{all_keys, all_keys_in, all_root_keys, is_document, is_document_kind}
use Rattle.cut_core.proofs.Bools.{and_left, and_right}
use Rattle.tree_expansion.proofs.Within.{IsWithin, OfPart, AreWithin, AllAreWithin, loaded_within}
use Rattle.tree_expansion.proofs.Learned.{WaitsFor, waiting_key}
use Rattle.tree_expansion.proofs.Grows.{tile_for}

and_both : (a b : Bool) → a ≡ true → b ≡ true → (a && b) ≡ true
and_both a b p q = ap (λ x. x && b) p ∙ q

all_both : {A : Type 0} (p : A → Bool) (xs ys : List A)
    → list_all p xs ≡ true → list_all p ys ≡ true → list_all p (xs ++ ys) ≡ true
all_both p xs ys h k = list_all-append p xs ys ∙ and_both (list_all p xs) (list_all p ys) h k

all_listed : (test : Key → Bool) (ts : List Tree) → list_all (all_keys test) ts ≡ true
    → all_keys_in test (from_list ts) ≡ true
all_listed test [] e = refl
all_listed test (t ∷ ts) e =
    elim (all_keys test t) as (λ b. (b && list_all (all_keys test) ts) ≡ true
    → (b && all_keys_in test (from_list ts)) ≡ true) [
      | true ↦ λ h. all_listed test ts h
      | false ↦ λ h. cc
    ] e

-- ---- a key of which nothing is known is neither loaded nor absent

read_waits : {A : Type 0} (o : Option A) → as_read o ≡ waiting → ⊥
read_waits None e = cc
read_waits (Some a) e = cc

bytes_wait : {A : Type 0} (read : List ℕ → Option A) (o : Option (List ℕ))
    → found_in read o ≡ waiting → is_none o ≡ true
bytes_wait read None e = refl
bytes_wait read (Some bytes) e = absurd (read_waits (read bytes) e)

found_waits : {A : Type 0} (read : List ℕ → Option A) (docs : Docs) (key : Key)
    → found read docs key ≡ waiting → is_unread docs key ≡ true
found_waits read docs key e =
    elim (docs.gone key) as (λ b. (if b then lost else found_in read (docs.loaded key)) ≡ waiting
    → (not b && is_none (docs.loaded key)) ≡ true) [
      | true ↦ λ h. cc
      | false ↦ λ h. bytes_wait read (docs.loaded key) h
    ] e

-- ---- the test holds of each key of which nothing is known, whatever holds it

record HoldsWaiting (docs : Docs) (test : Key → Bool) : Type 0 where
  tilesets : (address : List ℕ) → tileset_at docs address ≡ waiting
      → test (tileset_key address) ≡ true
  subtrees : (part : ImplicitParts) → IsWithin part → (address : List ℕ)
      → subtree_at docs (key_of_subtree part address) ≡ waiting
      → test (key_of_subtree part address) ≡ true

-- it holds of what stands below
abbrev HoldsBelow : (Key → Bool) → Below → Type 0
HoldsBelow test below = (name : List ℕ) (holder : Holder) (address : List ℕ)
    → all_root_keys test (below name holder address) ≡ true

optional : (test : Key → Bool) (o : Option Tree) → all_root_keys test o ≡ true
    → list_all (all_keys test) (option_to_list o) ≡ true
optional test None e = refl
optional test (Some t) e = and_both (all_keys test t) true e refl

externals_hold : (test : Key → Bool) (below : Below) → HoldsBelow test below
    → (name : List ℕ) (holder : Holder) (number : ℕ) (addresses : List (List ℕ))
    → list_all (all_keys test) (externals below name holder number addresses) ≡ true
externals_hold test below w name holder number [] = refl
externals_hold test below w name holder number (address ∷ addresses) =
    all_both (all_keys test) (option_to_list (below (child_name name number) holder address))
    (externals below name holder (number + 1) addresses)
    (optional test (below (child_name name number) holder address)
    (w (child_name name number) holder address))
    (externals_hold test below w name holder (number + 1) addresses)

-- ---- implicit tiles

module _ (docs : Docs) (test : Key → Bool) (h : HoldsWaiting docs test) where
  place_holds : (root : RootParts) → IsWithin root.part → (at : Place) (key : Key)
      → presence root (subtree_at docs) at ≡ Waiting key → test key ≡ true
  place_holds root l at key e =
      let waits : WaitsFor root (subtree_at docs) key =
      waiting_key root (subtree_at docs) at key e in
      ap test (sym waits.is_key)
      ∙ h.subtrees root.part l waits.address (ap (subtree_at docs) waits.is_key ∙ waits.unknown)

  mapped : {A : Type 0} (f : A → List Tree) → ((a : A) → list_all (all_keys test) (f a) ≡ true)
      → (xs : List A) → list_all (all_keys test) (flat_map f xs) ≡ true
  mapped f each [] = refl
  mapped f each (x ∷ xs) =
      all_both (all_keys test) (f x) (flat_map f xs) (each x) (mapped f each xs)

  module _ (below : Below) (w : HoldsBelow test below) where
    node_holds : (top : RootTile) (at : Place) (contents : List (List ℕ)) (children : List Tree)
        (there : Presence)
        → ((key : Key) → there ≡ Waiting key → test key ≡ true)
        → list_all (all_keys test) children ≡ true
        → all_root_keys test (elim there as (λ x. Option Tree) [
          | No ↦ None
          | Waiting key ↦ Some (pending (place_name top at) (place_facts top at []) key)
          | Tile ↦ Some (place_tile top at contents children)
        ]) ≡ true
    node_holds top at contents children No k e = refl
    node_holds top at contents children (Waiting key) k e = k key refl
    node_holds top at contents children Tile k e = all_listed test children e

    implicit_holds : (top : RootTile) → IsWithin top.root.part → (levels : ℕ) (at : Place)
        → all_root_keys test (implicit_node docs below top levels at) ≡ true
    implicit_holds top l zero at = refl
    implicit_holds top l (suc levels) at =
        let contents : List (List ℕ) = place_contents docs top at in
        let inside : List Tree =
        flat_map (λ place. option_to_list (implicit_node docs below top levels place))
        (child_places top.root.part at) in
        let outside : List Tree =
        externals below (place_name top at) (place_holder top at) 0 (external_of contents) in
        node_holds top at contents (inside ++ outside) (presence top.root (subtree_at docs) at)
        (place_holds top.root l at)
        (all_both (all_keys test) inside outside
        (mapped (λ place. option_to_list (implicit_node docs below top levels place))
        (λ place. optional test (implicit_node docs below top levels place)
        (implicit_holds top l levels place)) (child_places top.root.part at))
        (externals_hold test below w (place_name top at) (place_holder top at) 0
        (external_of contents)))

    -- ---- written tiles

    mutual
      written_holds : (base name : List ℕ) (above : Holder) (t : WrittenTile) → AreWithin t
          → all_root_keys test (written_tree docs below base name above t) ≡ true
      written_holds base name above (written own children) l =
          let holder : Holder = holder_of above own in
          let outside : List Tree =
          externals below name holder (count_of children) (external_of own.contents) in
          elim own.implicit as (λ part. OfPart part → all_root_keys test
          (tile_for docs below base name holder own children part) ≡ true) [
            | Some p ↦ λ within. implicit_holds (root_tile base name holder own p) within
                p.available_levels root_place
            | None ↦ λ within.
                all_listed test (written_trees docs below base name holder 0 children ++ outside)
                (all_both (all_keys test) (written_trees docs below base name holder 0 children)
                outside (all_written_hold base name holder 0 children l.1)
                (externals_hold test below w name holder (count_of children)
                (external_of own.contents)))
          ] l.0

      all_written_hold : (base name : List ℕ) (holder : Holder) (number : ℕ) (ts : WrittenTiles)
          → AllAreWithin ts
          → list_all (all_keys test) (written_trees docs below base name holder number ts)
          ≡ true
      all_written_hold base name holder number no_tiles l = refl
      all_written_hold base name holder number (more_tiles t ts) l =
          all_both (all_keys test)
          (option_to_list (written_tree docs below base (child_name name number) holder t))
          (written_trees docs below base name holder (number + 1) ts)
          (optional test (written_tree docs below base (child_name name number) holder t)
          (written_holds base (child_name name number) holder t l.0))
          (all_written_hold base name holder (number + 1) ts l.1)

  -- ---- documents

  tileset_holds : (below : Below) → HoldsBelow test below → HoldsBelow test (tileset docs below)
  tileset_holds below w name holder address =
      elim (tileset_at docs address) as (λ f. tileset_at docs address ≡ f → all_root_keys test
      (elim f as (λ x. Option Tree) [
        | waiting ↦ Some (pending name (waiting_facts holder) (tileset_key address))
        | lost ↦ None
        | here root ↦ written_tree docs below address name holder root
      ]) ≡ true) [
        | waiting ↦ λ e. h.tilesets address e
        | lost ↦ λ e. refl
        | here root ↦ λ e. written_holds below w address name holder root
            (loaded_within docs address root e)
      ] refl

  tilesets_hold : (depth : ℕ) → HoldsBelow test (tilesets docs depth)
  tilesets_hold zero name holder address = refl
  tilesets_hold (suc depth) name holder address =
      tileset_holds (tilesets docs depth) (tilesets_hold depth) name holder address

  expanded_holds : (root : List ℕ) → all_root_keys test (expand docs root) ≡ true
  unfolding expand
  expanded_holds root =
      tileset_holds (tilesets docs NESTING_LIMIT) (tilesets_hold NESTING_LIMIT) (codes "r")
      top_holder root

-- each pending node waits for a key that is neither loaded nor absent
pub expanded_waits : (docs : Docs) (root : List ℕ)
    → all_root_keys (is_unread docs) (expand docs root) ≡ true
expanded_waits docs root = expanded_holds docs (is_unread docs) (record {
  tilesets = λ address e. found_waits (tileset_in address) docs (tileset_key address) e;
  subtrees = λ part l address e.
      found_waits (subtree_for (key_of_subtree part address).kind) docs
      (key_of_subtree part address) e;
}) root

-- and for a tileset, or a subtree whose levels are within the limits
pub expanded_waits_for_documents : (docs : Docs) (root : List ℕ)
    → all_root_keys is_document (expand docs root) ≡ true
expanded_waits_for_documents docs root = expanded_holds docs is_document (record {
  tilesets = λ address e. refl;
  subtrees = λ part l address e. l.0;
}) root

-- a store takes such a key
kind_taken : (kind : Kind) → is_document_kind kind ≡ true → IsDocumentKind kind
kind_taken Content e = cc
kind_taken Tileset e = tt
kind_taken (Subtree octree levels contents) e = record {
  some = leb-true 1 levels (and_left (nat_le 1 levels) (nat_le levels (level_limit octree)) e);
  few =
      leb-true levels (level_limit octree)
      (and_right (nat_le 1 levels) (nat_le levels (level_limit octree)) e);
}

pub document_taken : (key : Key) → is_document key ≡ true → IsDocumentKind key.kind
document_taken key e = kind_taken key.kind e
