-- What streams were added.
use Rattle.std.specs.Prelude.{◌≡◌, ℕ, Bool, List, ◌++◌, length}
use Rattle.subtree_write.specs.Rows.{binary, streams, views}
use Rattle.subtree_write.specs.declared.streams.Streams.{Streams}
use Rattle.subtree_write.specs.declared.streams.View.{View}

-- the views and the bytes, with those of further rows behind them
abbrev pub views_with : Streams → List (List Bool) → List View
views_with held rows = held.views.items ++ views (length held.binary.items) (streams rows)

abbrev pub binary_with : Streams → List (List Bool) → List ℕ
binary_with held rows = held.binary.items ++ binary (streams rows)

-- those of the rows were added to the old ones
pub record AddsRows (old new : Streams) (rows : List (List Bool)) : Type 0 where
  pub views : new.views.items ≡ views_with old rows
  pub binary : new.binary.items ≡ binary_with old rows
