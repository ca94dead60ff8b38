-- Which tiles of an implicit tileset there are (OGC 22-025r4, "Availability").
use Rattle.std.specs.Prelude.{ℕ, Bool, false, not, ◌&&◌, if◌then◌else◌, Option, Some, None}
use Rattle.std.specs.Prelude.{unwrap_or, List, length, slice_get}
use Rattle.std.specs.Option.{option_map_or}
use Rattle.tile_types.specs.declared.key.Key.{Key}
use Rattle.tileset_schema.specs.Implicit.{ImplicitParts}
use Rattle.subtree_binary.specs.Found.{Found, waiting, lost, here}
use Rattle.subtree_binary.specs.Subtrees.{SubtreeParts, HasCounts}
use Rattle.implicit_walk.specs.declared.place.Place.{Place}
use Rattle.implicit_walk.specs.declared.presence.Presence.{Presence}
use Rattle.implicit_walk.specs.declared.presence.Presence.TheVariants.{No, Tile, Waiting}
use Rattle.implicit_walk.specs.Places.{above, begins_subtree, number_in_subtree}
use Rattle.implicit_walk.specs.Places.{child_subtree_number}
use Rattle.implicit_walk.specs.Roots.{RootParts, subtree_key, content_address}

-- what is known of each subtree
abbrev pub Known : Type 0
Known = Key → Found SubtreeParts

-- the subtree has as many bits as the root's subtrees have
abbrev pub IsOfRoot : ImplicitParts → SubtreeParts → Type 0
IsOfRoot part subtree =
    HasCounts part.octree part.subtree_levels (length part.contents) subtree

-- ---- what a subtree says

abbrev pub is_set : List Bool → ℕ → Bool
is_set bits i = unwrap_or (slice_get bits i) false

-- its bit of a tile that is in it
abbrev pub has_tile : ImplicitParts → SubtreeParts → Place → Bool
has_tile part subtree at = is_set subtree.tiles (number_in_subtree part at)

-- its bit of the child subtree that begins with a tile
abbrev pub has_child_subtree : ImplicitParts → SubtreeParts → Place → Bool
has_child_subtree part subtree at =
    is_set subtree.children (child_subtree_number part at)

-- its bit of one of the contents of a tile that is in it
abbrev pub has_content : ImplicitParts → SubtreeParts → Place → ℕ → Bool
has_content part subtree at which =
    option_map_or (λ bits. is_set bits (number_in_subtree part at))
    (slice_get subtree.contents which) false

-- the content of a tile that is in it: its bit is set, and its template names an address
abbrev pub content_in : RootParts → SubtreeParts → Place → ℕ → Option (List ℕ)
content_in root subtree at which =
    if has_content root.part subtree at which then content_address root at which else None

-- ---- what is known of the subtrees

-- a subtree that no address is named for is lost
abbrev pub known_at : Known → Option Key → Found SubtreeParts
known_at known None = lost
known_at known (Some key) = known key

-- what is known of the subtree that a tile is in
abbrev pub subtree_at : RootParts → Known → Place → Found SubtreeParts
subtree_at root known at = known_at known (subtree_key root at)

-- a loaded subtree says so
abbrev pub says : (SubtreeParts → Bool) → Found SubtreeParts → Bool
says test waiting = false
says test lost = false
says test (here subtree) = test subtree

-- the subtree of the parent has a child subtree that begins with the tile
abbrev pub has_child_bit : RootParts → Known → Place → Bool
has_child_bit root known at =
    says (λ subtree. has_child_subtree root.part subtree at) (subtree_at root known (above 1 at))

-- ---- tiles

abbrev pub presence_of : Bool → Presence
presence_of bit = if bit then Tile else No

-- there is a tile where its bit is set, and none in a subtree that is lost
abbrev pub presence_by : ImplicitParts → Place → Key → Found SubtreeParts → Presence
presence_by part at key waiting = Waiting key
presence_by part at key lost = No
presence_by part at key (here subtree) = presence_of (has_tile part subtree at)

abbrev pub presence_in : ImplicitParts → Known → Place → Option Key → Presence
presence_in part known at None = No
presence_in part known at (Some key) = presence_by part at key (known key)

-- by the subtree that a tile is in
abbrev pub own_presence : RootParts → Known → Place → Presence
own_presence root known at = presence_in root.part known at (subtree_key root at)

-- whether there is a tile at a place whose parent is one. A tile that begins a subtree below
-- another needs the child subtree's bit in that one too
abbrev pub presence : RootParts → Known → Place → Presence
presence root known at =
    if begins_subtree root.part at && not (has_child_bit root known at) then No
    else own_presence root known at

-- ---- contents

-- by the subtree that a tile is in
abbrev pub content_by : RootParts → Place → ℕ → Found SubtreeParts → Option (List ℕ)
content_by root at which waiting = None
content_by root at which lost = None
content_by root at which (here subtree) = content_in root subtree at which

-- only a tile has contents
abbrev pub of_tile : {A : Type 0} → Presence → Option A → Option A
of_tile No content = None
of_tile Tile content = content
of_tile (Waiting key) content = None

-- the content at a place whose parent is a tile
abbrev pub content_at : RootParts → Known → Place → ℕ → Option (List ℕ)
content_at root known at which =
    of_tile (presence root known at) (content_by root at which (subtree_at root known at))
