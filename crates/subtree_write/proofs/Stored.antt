-- The buffers and buffer views are read as they were written.
use Rattle.std.proofs.Common.{◌≡◌, ℕ, ◌^◌, ◌<◌, false, List, [], ◌∷◌, map, length, codes, Ok, refl, ap, ◌∙◌}
use Rattle.std.specs.List.{All}
use Rattle.std.proofs.lemmas.List.Elements.{All-head, All-tail}
use Rattle.json_decimal.specs.JsonValue.{last_of, list_of-values}
use Rattle.subtree_binary.specs.Availability.{Members}
use Rattle.subtree_binary.specs.Causes.{each}
use Rattle.subtree_binary.specs.Chunks.{buffer, buffers, buffer_view, views as read_views}
use Rattle.subtree_binary.specs.Reading.{storage}
use Rattle.subtree_binary.specs.declared.buffers.Buffer.{Buffer}
use Rattle.subtree_binary.specs.declared.views.View as read
use Rattle.subtree_write.specs.declared.streams.View.{View}
use Rattle.subtree_write.proofs.Looked.{buffers_value, views_value}
use Rattle.subtree_write.proofs.Numerals.{natural_is}
use Rattle.subtree_write.proofs.Spelling.{IsSmall}
use Rattle.subtree_write.proofs.Values.{buffer_value, view_value}

abbrev pub stored_view : View → read.View
stored_view view = record {
  buffer = 0;
  byte_offset = view.byte_offset;
  byte_length = view.byte_length;
}

abbrev pub stored_buffer : ℕ → Buffer
stored_buffer bytes = record { byte_length = bytes; is_external = false }

abbrev pub stored_buffers : List View → ℕ → List Buffer
stored_buffers [] bytes = []
stored_buffers (view ∷ views) bytes = stored_buffer bytes ∷ []

buffer_is : (bytes : ℕ) → bytes < 2 ^ 63 → buffer (buffer_value bytes) ≡ Ok (stored_buffer bytes)
buffer_is bytes h = rw (natural_is bytes h) refl

buffers_are : (views : List View) (bytes : ℕ) → bytes < 2 ^ 63
    → buffers (buffers_value views bytes) ≡ Ok (stored_buffers views bytes)
buffers_are [] bytes h = refl
buffers_are (view ∷ views) bytes h = rw (buffer_is bytes h) refl

view_is : (view : View) → IsSmall view → buffer_view (view_value view) ≡ Ok (stored_view view)
view_is view small =
    rw (
      natural_is view.byte_offset small.byte_offset,
      natural_is view.byte_length small.byte_length,
    ) refl

each_is : (views : List View) → All IsSmall views
    → each buffer_view (map view_value views) ≡ Ok (map stored_view views)
each_is [] small = refl
each_is (view ∷ views) small =
    rw (
      view_is view (All-head IsSmall view views small),
      each_is views (All-tail IsSmall view views small),
    ) refl

views_are : (views : List View) → All IsSmall views
    → read_views (views_value views) ≡ Ok (map stored_view views)
views_are [] small = refl
views_are (view ∷ views) small =
    ap (each buffer_view) (list_of-values (map view_value (view ∷ views)))
    ∙ each_is (view ∷ views) small

-- the storage, by what its members are
pub storage_is : (binary : List ℕ) (members : Members) (seen : List View) → All IsSmall seen
    → length binary < 2 ^ 63
    → last_of (codes "buffers") members ≡ buffers_value seen (length binary)
    → last_of (codes "bufferViews") members ≡ views_value seen
    → storage binary members ≡ Ok record {
      buffers = stored_buffers seen (length binary);
      views = map stored_view seen;
      binary = binary;
    }
storage_is binary members seen small short e f =
    rw (e, f, buffers_are seen (length binary) short, views_are seen small) refl
