-- Which implicit tiles there are, as more becomes known of their subtrees.
use Rattle.std.specs.Prelude.{if◌then◌else◌, nat_lt, option_map}
use Rattle.std.proofs.Common.{ℕ, zero, suc, ◌+◌, ◌-◌, ◌*◌, ◌/◌, ◌%◌, ◌<◌, ◌≡◌, ◌⊎◌, inl, inr, ◌==◌, Bool, true, false, not, ◌&&◌, Option, Some, None, List, refl, sym, ◌∙◌, ap, arith}
use Rattle.std.proofs.Math.Nat.{zero-mod}
use Rattle.std.proofs.lemmas.Bool.{lt-ltb}
use Rattle.avail_bits.specs.Morton.{interleaved2, interleaved3}
use Rattle.tile_types.specs.declared.key.Key.{Key}
use Rattle.tileset_schema.specs.Implicit.{ImplicitParts}
use Rattle.subtree_binary.specs.Counts.{tile_count}
use Rattle.subtree_binary.specs.Found.{Found, waiting, lost, here}
use Rattle.subtree_binary.specs.Subtrees.{SubtreeParts}
use Rattle.implicit_walk.specs.declared.place.Place.{Place}
use Rattle.implicit_walk.specs.declared.presence.Presence.{Presence}
use Rattle.implicit_walk.specs.declared.presence.Presence.TheVariants.{No, Tile, Waiting}
use Rattle.implicit_walk.specs.Places.{above, below, child, local_level, subtree_root, begins_subtree, number_in_subtree, tile_number, root_place}
use Rattle.implicit_walk.specs.Roots.{RootParts, subtree_key, key_of_subtree, address_at}
use Rattle.implicit_walk.specs.Presences.{Known, is_set, has_tile, has_child_subtree, known_at, subtree_at, says, has_child_bit, presence_of, presence_by, presence_in, own_presence, presence}
use Rattle.tree_expansion.specs.Growth.{lacks_root_tile}
use Rattle.implicit_walk.proofs.Subtrees.{same_place, same_subtree}
use Rattle.doc_store.specs.Docs.{is_tileset}
use Rattle.cut_core.proofs.Bools.{and_left}

-- ---- places

-- the child of a place stands below it
pub above_child : (at : Place) (i : ℕ) → i < 8 → above 1 (child at i) ≡ at
above_child at i h =
    same_place (lower at.level) (half at.x (i % 2) (omega arith))
    (half at.y (i / 2 % 2) (omega arith)) (half at.z (i / 4) (omega arith)) where
      lower : (n : ℕ) → n + 1 - 1 ≡ n
      lower n = omega arith

      half : (a b : ℕ) → b < 2 → (2 * a + b) / 2 ≡ a
      half a b h = omega arith

-- a subtree begins with the tile of its first bit
first_number : (octree : Bool) (at : Place) → tile_number octree (below 0 at) ≡ 0
unfolding tile_count interleaved2 interleaved3
first_number true at = refl
first_number false at = refl

first_bit : (part : ImplicitParts) (at : Place) → local_level part at ≡ 0
    → number_in_subtree part at ≡ 0
first_bit part at e =
    ap (λ level. tile_number part.octree (below level at)) e ∙ first_number part.octree at

-- ---- what is known of subtrees

-- what is known stays, unless it waited
abbrev pub Learns : Known → Known → Type 0
Learns old new = (key : Key) → (old key ≡ waiting) ⊎ (old key ≡ new key)

abbrev pub is_no : Presence → Bool
is_no No = true
is_no Tile = false
is_no (Waiting key) = false

module _ (root : RootParts) where
  -- the subtree that a tile is in is read
  abbrev pub Here : Known → Place → Type 0
  Here known at = (s : SubtreeParts) × (subtree_at root known at ≡ here s)

  -- the subtree of the parent is read, where there is a parent
  abbrev pub IsReached : Known → Place → Type 0
  IsReached known at = nat_lt 0 at.level ≡ true → Here known (above 1 at)

  kept : (old new : Known) → Learns old new → (at : Place)
      → (subtree_at root old at ≡ waiting)
      ⊎ (subtree_at root old at ≡ subtree_at root new at)
  kept old new l at =
      elim (subtree_key root at) as (λ o. (known_at old o ≡ waiting)
      ⊎ (known_at old o ≡ known_at new o)) [ None ↦ inr refl | Some key ↦ l key ]

  here_kept : (old new : Known) → Learns old new → (at : Place) → Here old at
      → subtree_at root old at ≡ subtree_at root new at
  here_kept old new l at h = elim (kept old new l at) [
    | inl w ↦ let never : here h.0 ≡ waiting = sym h.1 ∙ w in cc
    | inr e ↦ e
  ]

  -- ---- the bit of a child subtree

  abbrev is_cut_off : Known → Place → Bool
  is_cut_off known at = begins_subtree root.part at && not (has_child_bit root known at)

  cut_off_kept : (old new : Known) → Learns old new → (at : Place) → IsReached old at
      → is_cut_off old at ≡ is_cut_off new at
  cut_off_kept old new l at r =
      elim (begins_subtree root.part at) as (λ b. begins_subtree root.part at ≡ b
      → (b && not (has_child_bit root old at)) ≡ (b && not (has_child_bit root new at))) [
        | true ↦ λ e. ap (λ f. not (says (λ s. has_child_subtree root.part s at) f))
            (here_kept old new l (above 1 at)
            (r (and_left (nat_lt 0 at.level) (local_level root.part at == 0) e)))
        | false ↦ λ e. refl
      ] refl

  -- ---- presences

  abbrev found_presence : Place → Option Key → Found SubtreeParts → Presence
  found_presence at None found = No
  found_presence at (Some key) found = presence_by root.part at key found

  own_found : (known : Known) (at : Place)
      → own_presence root known at
      ≡ found_presence at (subtree_key root at) (subtree_at root known at)
  own_found known at =
      elim (subtree_key root at) as (λ o. presence_in root.part known at o
      ≡ found_presence at o (known_at known o)) [ None ↦ refl | Some key ↦ refl ]

  abbrev unless_cut_off : Bool → Presence → Presence
  unless_cut_off b p = if b then No else p

  presence_found : (known : Known) (at : Place) → presence root known at
      ≡ unless_cut_off (is_cut_off known at)
      (found_presence at (subtree_key root at) (subtree_at root known at))
  presence_found known at = ap (unless_cut_off (is_cut_off known at)) (own_found known at)

  -- a tile's subtree is read
  pub tile_is_here : (known : Known) (at : Place) → presence root known at ≡ Tile → Here known at
  tile_is_here known at e =
      by_cut_off (is_cut_off known at) (sym (presence_found known at) ∙ e) where
        by_key : (o : Option Key) (f : Found SubtreeParts) → found_presence at o f ≡ Tile
            → (s : SubtreeParts) × (f ≡ here s)
        by_key None f h = cc
        by_key (Some key) waiting h = cc
        by_key (Some key) lost h = cc
        by_key (Some key) (here s) h = (s, refl)

        by_cut_off : (b : Bool) → unless_cut_off b
            (found_presence at (subtree_key root at) (subtree_at root known at)) ≡ Tile
            → Here known at
        by_cut_off true h = cc
        by_cut_off false h = by_key (subtree_key root at) (subtree_at root known at) h

  -- a subtree that isn't loaded begins with the tile that waits for it
  waiting_begins : (known : Known) (at : Place) → IsReached known at
      → subtree_at root known at ≡ waiting → local_level root.part at ≡ 0
  waiting_begins known at r w = by_local (local_level root.part at) refl where
    has_parent : (m : ℕ) → at.level ≡ m → 0 < local_level root.part at → nat_lt 0 at.level ≡ true
    has_parent zero e h =
        let none : local_level root.part at ≡ 0 =
        ap (λ k. k % root.part.subtree_levels) e ∙ zero-mod root.part.subtree_levels in
        let never : ⊥ = omega arith in absurd never
    has_parent (suc m) e h = ap (nat_lt 0) e ∙ lt-ltb 0 (suc m) (omega arith)

    same : 0 < local_level root.part at → subtree_at root known (above 1 at) ≡ waiting
    same h = ap (known_at known) (sym (same_subtree root at h)) ∙ w

    by_local : (n : ℕ) → local_level root.part at ≡ n → local_level root.part at ≡ 0
    by_local zero e = e
    by_local (suc n) e =
        let more : 0 < local_level root.part at = omega arith in
        let there : Here known (above 1 at) = r (has_parent at.level refl more) in
        let never : here there.0 ≡ waiting = sym there.1 ∙ same more in cc

  -- ---- what more knowledge does

  -- a node that waited may have become anything, and none where its subtree has no tile at its root;
  -- all else is as before
  pub data Learned (old new : Known) (at : Place) : Type 0 where
    waited : (key : Key) → is_tileset key ≡ false → presence root old at ≡ Waiting key
        → lacks_root_tile (new key) ≡ is_no (presence root new at) → Learned old new at
    stays : presence root old at ≡ presence root new at
        → (presence root old at ≡ Tile → subtree_at root old at ≡ subtree_at root new at)
        → Learned old new at

  has_key : (known : Known) (at : Place) → subtree_at root known at ≡ waiting
      → (key : Key) × (subtree_key root at ≡ Some key)
  has_key known at w =
      elim (subtree_key root at) as (λ o. known_at known o ≡ waiting
      → (key : Key) × (o ≡ Some key)) [
        | None ↦ λ h. cc
        | Some key ↦ λ h. (key, refl)
      ] w

  key_is_subtrees : (o : Option (List ℕ)) (key : Key)
      → option_map (key_of_subtree root.part) o ≡ Some key → is_tileset key ≡ false
  key_is_subtrees None key e = cc
  key_is_subtrees (Some address) key e =
      let is : key_of_subtree root.part address ≡ key = cc in ap is_tileset (sym is)

  -- there is no tile at the root of a subtree where it lacks one
  first_tile : (at : Place) (key : Key) (f : Found SubtreeParts) → local_level root.part at ≡ 0
      → lacks_root_tile f ≡ is_no (presence_by root.part at key f)
  first_tile at key waiting z = refl
  first_tile at key lost z = refl
  first_tile at key (here s) z =
      ap (λ n. not (is_set s.tiles n)) (sym (first_bit root.part at z))
      ∙ by_bit (has_tile root.part s at) where
        by_bit : (b : Bool) → not b ≡ is_no (presence_of b)
        by_bit true = refl
        by_bit false = refl

  -- the key of one of the root's subtrees, which isn't loaded
  pub record WaitsFor (known : Known) (key : Key) : Type 0 where
    pub address : List ℕ
    pub is_key : key_of_subtree root.part address ≡ key
    pub unknown : known key ≡ waiting

  -- a node that waits, waits for such a key
  pub waiting_key : (known : Known) (at : Place) (key : Key) → presence root known at ≡ Waiting key
      → WaitsFor known key
  waiting_key known at key e = by_cut_off (is_cut_off known at) e where
    by_found : (address : List ℕ) (f : Found SubtreeParts)
        → known (key_of_subtree root.part address) ≡ f
        → presence_by root.part at (key_of_subtree root.part address) f ≡ Waiting key
        → WaitsFor known key
    by_found address waiting w h =
        let is : key_of_subtree root.part address ≡ key = cc in
        record { address = address; is_key = is; unknown = ap known (sym is) ∙ w }
    by_found address lost w h = cc
    by_found address (here s) w h = by_bit (has_tile root.part s at) h where
      by_bit : (b : Bool) → presence_of b ≡ Waiting key → WaitsFor known key
      by_bit true g = cc
      by_bit false g = cc

    by_address : (o : Option (List ℕ))
        → presence_in root.part known at (option_map (key_of_subtree root.part) o) ≡ Waiting key
        → WaitsFor known key
    by_address None h = cc
    by_address (Some address) h =
        by_found address (known (key_of_subtree root.part address)) refl h

    by_cut_off : (b : Bool) → unless_cut_off b (own_presence root known at) ≡ Waiting key
        → WaitsFor known key
    by_cut_off true h = cc
    by_cut_off false h =
        by_address (address_at root root.part.subtrees (subtree_root root.part at)) h

  -- there is no tile at an implicit root where its subtree lacks one
  pub root_presence : (known : Known)
      → lacks_root_tile (subtree_at root known root_place) ≡ is_no (presence root known root_place)
  root_presence known =
      elim (subtree_key root root_place) as (λ o. lacks_root_tile (known_at known o)
      ≡ is_no (presence_in root.part known root_place o)) [
        | None ↦ refl
        | Some key ↦ first_tile root_place key (known key) (zero-mod root.part.subtree_levels)
      ]

  pub learned : (old new : Known) → Learns old new → (at : Place) → IsReached old at
      → Learned old new at
  learned old new l at r = elim (kept old new l at) [
    | inl w ↦ by_waiting w (has_key old at w) (is_cut_off old at) refl
    | inr e ↦ stays (presence_found old at
        ∙ ap (λ b. unless_cut_off b
        (found_presence at (subtree_key root at) (subtree_at root old at)))
        (cut_off_kept old new l at r)
        ∙ ap (λ f. unless_cut_off (is_cut_off new at) (found_presence at (subtree_key root at) f)) e
        ∙ sym (presence_found new at)) (λ h. e)
  ] where
    found_by : (known : Known) (key : Key) → subtree_key root at ≡ Some key → (b : Bool)
        → is_cut_off known at ≡ b
        → presence root known at ≡ unless_cut_off b (presence_by root.part at key (known key))
    found_by known key k b c =
        ap (λ b'. unless_cut_off b' (own_presence root known at)) c
        ∙ ap (λ o. unless_cut_off b (presence_in root.part known at o)) k

    by_waiting : subtree_at root old at ≡ waiting → (key : Key) × (subtree_key root at ≡ Some key)
        → (b : Bool) → is_cut_off old at ≡ b → Learned old new at
    by_waiting w k true c =
        let was : presence root old at ≡ No = found_by old k.0 k.1 true c in
        let is : presence root new at ≡ No =
        found_by new k.0 k.1 true (sym (cut_off_kept old new l at r) ∙ c) in
        stays (was ∙ sym is) (λ h. let never : No ≡ Tile = sym was ∙ h in cc)
    by_waiting w k false c =
        let known_key : old k.0 ≡ waiting = ap (known_at old) (sym k.1) ∙ w in
        waited k.0
        (key_is_subtrees (address_at root root.part.subtrees (subtree_root root.part at)) k.0 k.1)
        (found_by old k.0 k.1 false c ∙ ap (presence_by root.part at k.0) known_key)
        (first_tile at k.0 (new k.0) (waiting_begins old at r w)
        ∙ ap is_no (sym (found_by new k.0 k.1 false (sym (cut_off_kept old new l at r) ∙ c))))
