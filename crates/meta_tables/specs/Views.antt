-- The views of a column in the binary chunk (OGC 22-025r4, "Buffers and Buffer Views").
use Rattle.std.specs.Prelude.{ℕ, ◌&&◌, Bool, true, Option, Some, None, List, length}
use Rattle.std.specs.Result.{result_ok, is_ok}
use Rattle.json_decimal.specs.Scan.{◌>>=◌}
use Rattle.subtree_binary.specs.Availability.{Storage, internal_length, in_range, view_bytes}
use Rattle.subtree_binary.specs.declared.buffers.Buffer.{Buffer}
use Rattle.subtree_binary.specs.declared.views.View.{View}
use Rattle.meta_tables.specs.declared.views.ColumnViews.{ColumnViews}
use Rattle.meta_tables.specs.declared.views.OffsetView.{OffsetView}

-- the view is one of the binary chunk
abbrev pub is_internal : List Buffer → View → Bool
is_internal buffers view = is_ok (internal_length buffers view)

abbrev pub has_internal : List Buffer → Option OffsetView → Bool
has_internal buffers None = true
has_internal buffers (Some o) = is_internal buffers o.view

-- each view of a column is one of the binary chunk
abbrev pub are_internal : List Buffer → ColumnViews → Bool
are_internal buffers views =
    is_internal buffers views.values && has_internal buffers views.offsets

-- the bytes of a view of the binary chunk, if it passes neither its buffer nor the chunk
abbrev pub bytes_in : Storage → View → Option (List ℕ)
bytes_in storage view =
    result_ok (internal_length storage.buffers view) >>= λ buffer.
    result_ok (in_range view buffer (length storage.binary)) >>= λ u.
    Some (view_bytes view storage.binary)
