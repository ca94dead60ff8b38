-- What was written is read again.
use Rattle.std.proofs.Common.{◌≡◌, ℕ, ◌+◌, ◌^◌, ◌<◌, List, [], ◌∷◌, length, map, slice_get, Some, Ok, refl, ap, sym, ◌∙◌, subst, arith, append-nil}
use Rattle.std.specs.List.{All}
use Rattle.json_decimal.specs.Ascii.{space}
use Rattle.json_decimal.specs.JsonValue.{JsonValue}
use Rattle.subtree_binary.specs.Availability.{Storage, Members, bits, contents_at as read_contents}
use Rattle.subtree_binary.specs.Causes.{◌>>=◌}
use Rattle.subtree_binary.specs.Counts.{tile_count, child_count}
use Rattle.subtree_binary.specs.Reading.{available, in_chunks, parts, subtree}
use Rattle.subtree_binary.specs.Subtrees.{SubtreeParts}
use Rattle.subtree_binary.specs.declared.error.SubtreeField.TheVariants.{TileAvailability, ChildAvailability}
use Rattle.subtree_write.specs.ReadingBack.{HasAllBits, ReadsAs}
use Rattle.subtree_write.specs.Rows.{binary, padded, streams, views}
use Rattle.subtree_write.specs.Texts.{json_text, rows, streams_of}
use Rattle.subtree_write.specs.Writing.{written}
use Rattle.subtree_write.specs.declared.spec.SubtreeSpec.{SubtreeSpec}
use Rattle.subtree_write.specs.declared.streams.View.{View}
use Rattle.subtree_write.proofs.Adding.{counts-append}
use Rattle.subtree_write.proofs.Bounded.{views_small, few_streams}
use Rattle.subtree_write.proofs.Headed.{chunks_are, length_is}
use Rattle.subtree_write.proofs.Looked.{contents_value, members, buffers_at, views_at, tiles_at, contents_at, children_at}
use Rattle.subtree_write.proofs.RowsRead.{IsAround, around_front, around_back, row_is, contents_are}
use Rattle.subtree_write.proofs.Spelling.{text_is, IsSmall}
use Rattle.subtree_write.proofs.Stored.{stored_view, stored_buffer, stored_buffers, storage_is}
use Rattle.subtree_write.proofs.Values.{availability_value, json_value}

first_buffer : (seen : List View) (bytes : ℕ) → 0 < length (map stored_view seen)
    → slice_get (stored_buffers seen bytes) 0 ≡ Some (stored_buffer bytes)
first_buffer [] bytes h = absurd (omega arith)
first_buffer (view ∷ seen) bytes h = refl

module _ (spec : SubtreeSpec) (whole : HasAllBits spec)
    (short : length (binary (streams_of spec)) < 2 ^ 63) where
  abbrev bytes : List ℕ
  bytes = binary (streams_of spec)

  abbrev seen : List View
  seen = views 0 (streams_of spec)

  abbrev storage : Storage
  storage = record {
    buffers = stored_buffers seen (length bytes);
    views = map stored_view seen;
    binary = bytes;
  }

  around : IsAround storage 0 0 (rows spec)
  around = record {
    views_before = [];
    views_behind = [];
    views = sym (append-nil (map stored_view seen));
    number = refl;
    bytes_before = [];
    bytes_behind = [];
    binary = sym (append-nil bytes);
    offset = refl;
    buffer = first_buffer seen (length bytes);
  }

  abbrev n : ℕ
  n = length (streams (spec.tiles ∷ []))

  abbrev m : ℕ
  m = length (streams (spec.tiles ∷ spec.contents))

  few : m + length (streams (spec.children ∷ [])) < 2 ^ 63
  few =
      let all = counts-append (spec.tiles ∷ spec.contents) (spec.children ∷ []) in
      let least = few_streams (rows spec) in
      omega arith

  before : n + length (streams spec.contents) ≡ m
  before = sym (counts-append (spec.tiles ∷ []) spec.contents)

  abbrev end : ℕ
  end = 0 + length (binary (streams (spec.tiles ∷ [])))

  abbrev last : ℕ
  last = 0 + length (binary (streams (spec.tiles ∷ spec.contents)))

  front : IsAround storage 0 0 (spec.tiles ∷ spec.contents)
  front = around_front storage 0 0 (spec.tiles ∷ spec.contents) (spec.children ∷ []) around

  at_tiles : IsAround storage 0 0 (spec.tiles ∷ [])
  at_tiles = around_front storage 0 0 (spec.tiles ∷ []) spec.contents front

  at_contents : IsAround storage n end spec.contents
  at_contents =
      let same : 0 + n ≡ n = omega arith in
      subst (λ k. IsAround storage k end spec.contents) same
      (around_back storage 0 0 (spec.tiles ∷ []) spec.contents front)

  at_children : IsAround storage m last (spec.children ∷ [])
  at_children =
      let same : 0 + m ≡ m = omega arith in
      subst (λ k. IsAround storage k last (spec.children ∷ [])) same
      (around_back storage 0 0 (spec.tiles ∷ spec.contents) (spec.children ∷ []) around)

  abbrev count : ℕ
  count = tile_count spec.octree spec.levels

  abbrev cells : ℕ
  cells = child_count spec.octree spec.levels

  tiles_are : bits storage TileAvailability count (availability_value 0 spec.tiles)
      ≡ Ok spec.tiles
  tiles_are = row_is storage 0 0 count spec.tiles (omega arith) at_tiles whole.tiles
      TileAvailability

  children_are : bits storage ChildAvailability cells (availability_value m spec.children)
      ≡ Ok spec.children
  children_are = row_is storage m last cells spec.children (omega (arith, few)) at_children
      whole.children ChildAvailability

  contents_read : read_contents storage count (length spec.contents)
      (contents_value n spec.contents)
      ≡ Ok spec.contents
  contents_read = contents_are storage count n end spec.contents (omega (arith, few, before))
      at_contents whole.contents

  -- ---- all of it

  abbrev tile : JsonValue
  tile = availability_value 0 spec.tiles

  abbrev child : JsonValue
  child = availability_value m spec.children

  abbrev found : Members
  found = members (length bytes) n tile child seen spec.contents

  abbrev said : JsonValue → SubtreeParts
  said json = record {
    tiles = spec.tiles;
    contents = spec.contents;
    children = spec.children;
    json = json;
    binary = bytes;
  }

  available_is : (json : JsonValue)
      → available spec.octree spec.levels (length spec.contents) json found storage
      ≡ Ok (said json)
  available_is json =
      rw (
        tiles_at (length bytes) n tile child seen spec.contents,
        tiles_are,
        contents_at (length bytes) n tile child seen spec.contents,
        contents_read,
        children_at (length bytes) n tile child seen spec.contents,
        children_are,
      ) refl

  small : All IsSmall seen
  small = views_small 0 (streams_of spec) (omega arith)

  parts_are : parts spec.octree spec.levels (length spec.contents) bytes (json_value spec)
      ≡ Ok (said (json_value spec))
  unfolding json_value
  parts_are =
      ap (λ r. r >>= available spec.octree spec.levels (length spec.contents) (json_value spec)
      found)
      (storage_is bytes found seen small short
      (buffers_at (length bytes) n tile child seen spec.contents)
      (views_at (length bytes) n tile child seen spec.contents))
      ∙ available_is (json_value spec)

  streams_few : length (streams_of spec) < 2 ^ 63
  streams_few = let least = few_streams (rows spec) in omega arith

  pub chunks_read : in_chunks spec.octree spec.levels (length spec.contents)
      (record { json = padded space (json_text spec); binary = bytes })
      ≡ Ok (said (json_value spec))
  chunks_read = rw (text_is spec streams_few short small) parts_are

pub reads_back : (spec : SubtreeSpec) → HasAllBits spec → length (written spec) < 2 ^ 63
    → ReadsAs spec (written spec)
unfolding written subtree
reads_back spec whole short =
    let json = padded space (json_text spec) in
    let bytes = binary (streams_of spec) in
    let long = length_is json bytes in
    let small : length bytes < 2 ^ 63 = omega arith in
    rw (chunks_are json bytes (omega arith) (omega arith), chunks_read spec whole small) refl
