-- What the lines of metadata stand for.
use Rattle.std.specs.Prelude.{ℕ, ◌≡◌, Option, List}
use Rattle.doc_store.specs.Store.{Stored}
use Rattle.plain_tree.specs.Standing.{Plain}
use Rattle.tile_metadata.specs.Kept.{AreKept}
use Rattle.tile_metadata.specs.Shown.{AreOpen, HasShown}
use Rattle.tile_metadata.specs.declared.open_table.OpenTable.{OpenTable}
use Rattle.tile_metadata.specs.declared.schemas.Schemas.{Schemas}
use Rattle.tile_metadata.specs.declared.shown.Shown.{Shown}

-- the store, the tree and the schemas that they are of, and those of the node that they stand at
pub record Turned : Type 0 where
  pub store : Stored
  pub tree : Plain
  pub schemas : Schemas
  pub lines : List (List ℕ)

-- the tree and the schemas are of the store, and what is shown is over the open table
pub record IsTurned (store : Stored) (tree : Plain) (schemas : Schemas) (held : Option OpenTable)
    (shown : Shown) : Type 0 where
  pub stored : tree.store ≡ store
  pub kept : AreKept store schemas
  pub is_open : AreOpen store schemas held
  pub has_shown : HasShown held shown
