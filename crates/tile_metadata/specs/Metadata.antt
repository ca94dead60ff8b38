-- The metadata of the implicit tiles of a tree (OGC 22-025r4, "Metadata").
use Rattle.std.specs.Prelude.{ℕ, ◌==◌, nat_lt, if◌then◌else◌, Option, Some, None, option_map, Result, Ok, Err, List, [], ◌∷◌}
use Rattle.std.specs.List.{filter_map, flat_map}
use Rattle.std.specs.Option.{option_and_then}
use Rattle.doc_store.specs.Docs.{Docs, Found, waiting, lost, here, subtree_at}
use Rattle.doc_store.specs.States.{schema_at}
use Rattle.expanded_tree.specs.Tree.{Origin, Tree, tile, pending}
use Rattle.meta_schema.specs.Reading.{schema}
use Rattle.meta_schema.specs.Schemas.{SchemaParts}
use Rattle.meta_schema.specs.declared.error.SchemaError.{SchemaError}
use Rattle.meta_tables.specs.Causes.{Read}
use Rattle.meta_tables.specs.Reading.{table}
use Rattle.meta_tables.specs.Rows.{row_of, tile_table}
use Rattle.meta_tables.specs.Tables.{TableParts}
use Rattle.plain_tree.specs.Preorder.{nodes_of}
use Rattle.subtree_binary.specs.Subtrees.{SubtreeParts}
use Rattle.tree_nodes.specs.TablePlaces.{origin_of}
use Rattle.tile_metadata.specs.Lines.{row_lines, table_line}

-- ---- schemas

-- a schema, or the first cause why it isn't read
abbrev pub ReadSchema : Type 0
ReadSchema = Result SchemaParts SchemaError

-- what is read of a document's schema, if it has one
abbrev pub schema_of : Docs → Origin → Option ReadSchema
schema_of docs origin = option_map schema (schema_at docs origin.document)

abbrev pub cause_of : Option ReadSchema → Option SchemaError
cause_of None = None
cause_of (Some (Ok read)) = None
cause_of (Some (Err cause)) = Some cause

-- why the schema of a tile's document isn't read, if it isn't
abbrev pub schema_cause : Docs → Tree → Option SchemaError
schema_cause docs t = option_and_then (λ origin. cause_of (schema_of docs origin)) (origin_of t)

abbrev pub first_of : {A : Type 0} → List A → Option A
first_of [] = None
first_of (a ∷ rest) = Some a

-- of the schemas of the documents of implicit tiles, in preorder of the tiles, the first cause why one
-- isn't read
abbrev pub first_cause : Docs → List Tree → Option SchemaError
first_cause docs nodes = first_of (filter_map (schema_cause docs) nodes)

-- ---- lines

-- of a table that isn't read a line at the first place of its subtree; else a line for each column of
-- the tile's row, if the table has as many rows
abbrev pub table_lines : List ℕ → ℕ → SubtreeParts → Read TableParts → List (List ℕ)
table_lines name index subtree (Err cause) =
    if index == 0 then table_line name cause ∷ [] else []
table_lines name index subtree (Ok read) =
    let row = row_of subtree.tiles index in
    if nat_lt row read.count then row_lines name read row else []

-- by the number of the subtree's table for tiles, if it has one
abbrev pub numbered_lines : SchemaParts → List ℕ → ℕ → SubtreeParts → Option ℕ → List (List ℕ)
numbered_lines read name index subtree None = []
numbered_lines read name index subtree (Some number) =
    table_lines name index subtree (table read subtree number)

-- by the subtree that the tile is in
abbrev pub subtree_lines : SchemaParts → List ℕ → ℕ → Found SubtreeParts → List (List ℕ)
subtree_lines read name index waiting = []
subtree_lines read name index lost = []
subtree_lines read name index (here subtree) =
    numbered_lines read name index subtree (tile_table subtree)

-- by the schema of its document; a document without one gives none
abbrev pub schema_lines : Docs → List ℕ → Origin → Option ReadSchema → List (List ℕ)
schema_lines docs name origin None = []
schema_lines docs name origin (Some (Err cause)) = []
schema_lines docs name origin (Some (Ok read)) =
    subtree_lines read name origin.index (subtree_at docs origin.subtree)

-- of a tile that a document writes out there are none
abbrev pub origin_lines : Docs → List ℕ → Option Origin → List (List ℕ)
origin_lines docs name None = []
origin_lines docs name (Some origin) = schema_lines docs name origin (schema_of docs origin)

-- the lines of a node
abbrev pub lines_of : Docs → Tree → List (List ℕ)
lines_of docs (tile parts children) = origin_lines docs parts.name parts.origin
lines_of docs (pending name facts key) = []

-- the lines of all implicit tiles, in preorder
abbrev pub metadata : Docs → Option Tree → List (List ℕ)
metadata docs root = flat_map (lines_of docs) (nodes_of root)
