-- What the bytes of a binary subtree say (OGC 22-025r4, "Subtrees").
use Rattle.std.specs.Prelude.{ℕ, Bool, Ok, List, codes}
use Rattle.json_decimal.specs.JsonValue.{JsonValue, last_of}
use Rattle.json_decimal.specs.Parts.{members_of}
use Rattle.json_decimal.specs.Reading.{value_in}
use Rattle.subtree_binary.specs.Availability.{Storage, Members, bits_at, contents_at}
use Rattle.subtree_binary.specs.Causes.{Read, ◌>>=◌, or_cause}
use Rattle.subtree_binary.specs.Chunks.{buffers, views}
use Rattle.subtree_binary.specs.Counts.{tile_count, child_count}
use Rattle.subtree_binary.specs.Header.{chunks}
use Rattle.subtree_binary.specs.Subtrees.{SubtreeParts}
use Rattle.subtree_binary.specs.declared.header.Chunks.{Chunks}
use Rattle.subtree_binary.specs.declared.error.SubtreeField.TheVariants.{Top, TileAvailability, ChildAvailability}
use Rattle.subtree_binary.specs.declared.error.SubtreeError.TheVariants.{NotJson, Shape}

-- the buffers, the buffer views, and the binary chunk
abbrev pub storage : List ℕ → Members → Read Storage
storage binary members =
    buffers (last_of (codes "buffers") members) >>= λ buffers.
    views (last_of (codes "bufferViews") members) >>= λ views.
    Ok (record { buffers = buffers; views = views; binary = binary })

-- the three kinds of availability
abbrev pub available : Bool → ℕ → ℕ → JsonValue → Members → Storage → Read SubtreeParts
available octree levels contents json members storage =
    bits_at storage TileAvailability (tile_count octree levels)
    (last_of (codes "tileAvailability") members) >>= λ tiles.
    contents_at storage (tile_count octree levels) contents
    (last_of (codes "contentAvailability") members) >>= λ contents.
    bits_at storage ChildAvailability (child_count octree levels)
    (last_of (codes "childSubtreeAvailability") members) >>= λ children.
    Ok (record {
      tiles = tiles;
      contents = contents;
      children = children;
      json = json;
      binary = storage.binary;
    })

-- what the value of the JSON chunk says
abbrev pub parts : Bool → ℕ → ℕ → List ℕ → JsonValue → Read SubtreeParts
parts octree levels contents binary json =
    or_cause (Shape Top) (members_of json) >>= λ members.
    storage binary members >>= available octree levels contents json members

abbrev pub in_chunks : Bool → ℕ → ℕ → Chunks → Read SubtreeParts
in_chunks octree levels contents chunks =
    or_cause NotJson (value_in chunks.json) >>= parts octree levels contents chunks.binary

-- the subtree of so many levels and contents that these bytes are, or the first cause why they
-- aren't one
unfoldable pub subtree : Bool → ℕ → ℕ → List ℕ → Read SubtreeParts
subtree octree levels contents bytes = chunks bytes >>= in_chunks octree levels contents
