-- What is found at the places below implicit roots.
use Rattle.std.specs.Prelude.{if◌then◌else◌}
use Rattle.std.proofs.Common.{ℕ, ◌≡◌, ◌<◌, ◌&&◌, Bool, true, false, not, Some, option_map, length, refl, sym, ◌∙◌, ap, subst}
use Rattle.std.specs.List.{slice_get}
use Rattle.tile_types.specs.declared.key.Key.{Key}
use Rattle.subtree_binary.specs.Subtrees.{SubtreeParts}
use Rattle.implicit_walk.specs.declared.place.Place.{Place}
use Rattle.implicit_walk.specs.declared.presence.Presence.TheVariants.{No}
use Rattle.implicit_walk.specs.Places.{above, begins_subtree}
use Rattle.implicit_walk.specs.Roots.{RootParts, address_at, subtree_key}
use Rattle.implicit_walk.specs.Presences.{IsOfRoot, has_child_bit, has_child_subtree, has_tile, known_at, own_presence, presence, presence_of, says}
use Rattle.implicit_walk.specs.Places.{subtree_root}
use Rattle.implicit_walk.proofs.Knowing.{by_subtree, deeper, kind_of_subtree}
use Rattle.implicit_walk.proofs.Subtrees.{same_subtree}
use Rattle.implicit_walk.specs.Places.{local_level}
use Rattle.doc_store.specs.Docs.{Loaded, subtree_at}
use Rattle.doc_store.specs.States.{number_in}
use Rattle.doc_store.specs.Store.{Stored, docs}
use Rattle.tree_nodes.specs.declared.found.FoundTile.{FoundTile}
use Rattle.tree_nodes.specs.declared.found.FoundTile.TheVariants as tile
use Rattle.tree_nodes.specs.Found.{IsSubtree}
use Rattle.tree_nodes.specs.Places.{IsFoundTile, IsSubtreeOf}
use Rattle.tree_nodes.proofs.Known.{is_named}

-- the kind of a key of this number
pub numbered_kind : (store : Stored) (key : Key) (number : ℕ) → number_in store key ≡ Some number
    → option_map (λ l. l.key.kind) (slice_get store.loaded number) ≡ Some key.kind
numbered_kind store key number e =
    let named = is_named store key number e in
    ap (option_map (λ (l : Loaded). l.key.kind)) named.at
    ∙ ap (λ (k : Key). Some k.kind) (sym named.key_is)

module _ (store : Stored) (root : RootParts) (at : Place) where
  -- the subtree of its key
  pub of_key : (key : Key) (number : ℕ) → Some key ≡ subtree_key root at
      → IsSubtree store key number → IsSubtreeOf store root at number
  of_key key number e s = record {
    parts = s.parts;
    found = ap (known_at (subtree_at (docs store))) (sym e) ∙ s.found;
    read = s.read;
    of_root = s.counts root.part.octree root.part.subtree_levels (length root.part.contents)
        (kind_of_subtree root.part (address_at root root.part.subtrees (subtree_root root.part at))
        key (sym e));
  }

  module _ (number : ℕ) (s : IsSubtreeOf store root at number) (parts : SubtreeParts)
      (same : parts ≡ s.parts) where
    pub parts_of_root : IsOfRoot root.part parts
    parts_of_root = subst (IsOfRoot root.part) (sym same) s.of_root

    own_is : own_presence root (subtree_at (docs store)) at
        ≡ presence_of (has_tile root.part parts at)
    own_is =
        by_subtree root.part (subtree_at (docs store)) at (subtree_key root at) s.parts s.found
        ∙ ap (λ p. presence_of (has_tile root.part p at)) (sym same)

    pub bit_set : (b : Bool) → b ≡ has_tile root.part parts at → b ≡ true
        → IsFoundTile store root at (own_presence root (subtree_at (docs store)) at)
        (tile.Read number)
    bit_set b is set = (own_is ∙ ap presence_of (sym is ∙ set), s)

    pub bit_unset : (b : Bool) → b ≡ has_tile root.part parts at → b ≡ false
        → IsFoundTile store root at (own_presence root (subtree_at (docs store)) at) tile.No
    bit_unset b is unset = own_is ∙ ap presence_of (sym is ∙ unset)

  -- ---- below a tile

  presence_by_bits : (b d : Bool) → begins_subtree root.part at ≡ b
      → has_child_bit root (subtree_at (docs store)) at ≡ d
      → presence root (subtree_at (docs store)) at
      ≡ (if b && not d then No else own_presence root (subtree_at (docs store)) at)
  presence_by_bits b d e f =
      ap (λ x. if x && not (has_child_bit root (subtree_at (docs store)) at) then No
      else own_presence root (subtree_at (docs store)) at) e
      ∙ ap (λ y. if b && not y then No else own_presence root (subtree_at (docs store)) at) f

  inside : begins_subtree root.part at ≡ false → presence root (subtree_at (docs store)) at
      ≡ own_presence root (subtree_at (docs store)) at
  inside e = presence_by_bits false (has_child_bit root (subtree_at (docs store)) at) e refl

  pub found_inside : (found : FoundTile) → begins_subtree root.part at ≡ false
      → IsFoundTile store root at (own_presence root (subtree_at (docs store)) at) found
      → IsFoundTile store root at (presence root (subtree_at (docs store)) at) found
  found_inside found e = subst (λ p. IsFoundTile store root at p found) (sym (inside e))

  module _ (number : ℕ) (s : IsSubtreeOf store root (above 1 at) number) where
    -- it is that of the place too
    pub shared : 0 < at.level → begins_subtree root.part at ≡ false
        → IsSubtreeOf store root at number
    shared deep first = record {
      parts = s.parts;
      found = ap (known_at (subtree_at (docs store)))
          (same_subtree root at (deeper at.level (local_level root.part at) deep first))
          ∙ s.found;
      read = s.read;
      of_root = s.of_root;
    }

    module _ (parts : SubtreeParts) (same : parts ≡ s.parts) (b : Bool)
        (is : b ≡ has_child_subtree root.part parts at) where
      child_bit : has_child_bit root (subtree_at (docs store)) at ≡ b
      child_bit =
          ap (says (λ p. has_child_subtree root.part p at)) s.found
          ∙ ap (λ p. has_child_subtree root.part p at) (sym same) ∙ sym is

      pub no_child : begins_subtree root.part at ≡ true → b ≡ false
          → presence root (subtree_at (docs store)) at ≡ No
      no_child first unset = presence_by_bits true false first (child_bit ∙ unset)

      pub found_child : (found : FoundTile) → b ≡ true
          → IsFoundTile store root at (own_presence root (subtree_at (docs store)) at) found
          → IsFoundTile store root at (presence root (subtree_at (docs store)) at) found
      found_child found set =
          subst (λ p. IsFoundTile store root at p found)
          (sym (presence_by_bits (begins_subtree root.part at) true refl (child_bit ∙ set)
          ∙ any (begins_subtree root.part at)))
        where
          any : (x : Bool) → (if x && not true then No
              else own_presence root (subtree_at (docs store)) at)
              ≡ own_presence root (subtree_at (docs store)) at
          any true = refl
          any false = refl
