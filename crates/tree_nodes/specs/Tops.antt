-- What an implicit root is made from.
use Rattle.std.specs.Prelude.{◌≡◌, ◌≤◌, Some}
use Rattle.volumes.specs.Limits.{IsBoxInRange, error_limit}
use Rattle.tileset_schema.specs.Implicit.{ImplicitParts}
use Rattle.doc_store.specs.Store.{Stored}
use Rattle.tree_nodes.specs.declared.top.Top.{Top}
use Rattle.tree_nodes.specs.Tiles.{IsTileAt, part_at}

-- its tile is there and says what the places below it are, and its box and error are in range
pub record IsTopEntry (store : Stored) (top : Top) : Type 0 where
  pub tile : IsTileAt store top.document top.tile
  pub part : ImplicitParts
  pub says : part_at store top.document top.tile ≡ Some part
  pub volume : IsBoxInRange top.volume
  pub error : top.error ≤ error_limit
