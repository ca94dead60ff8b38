-- What the schemas that are kept, and an open table, tell of the lines of a node.
use Rattle.std.proofs.Common.{◌≡◌, ◌∙◌, ℕ, Option, Some, None, List, [], option_map, refl, sym, ap, slice_get, subst}
use Rattle.std.specs.Prelude.{⊤}
use Rattle.std.specs.Option.{option_and_then}
use Rattle.json_decimal.specs.JsonValue.{JsonValue}
use Rattle.doc_store.specs.Docs.{here, subtree_at}
use Rattle.doc_store.specs.States.{schema_at, subtree_of}
use Rattle.doc_store.specs.Store.{Stored, docs}
use Rattle.expanded_tree.specs.Tree.{Origin, Tree, name_of, tile, pending}
use Rattle.meta_schema.specs.Reading.{schema}
use Rattle.meta_schema.specs.Schemas.{SchemaParts}
use Rattle.meta_tables.specs.Reading.{table}
use Rattle.meta_tables.specs.Rows.{tile_table}
use Rattle.subtree_binary.specs.Subtrees.{SubtreeParts}
use Rattle.tree_nodes.specs.TablePlaces.{TellsPlace, origin_of}
use Rattle.tree_nodes.specs.declared.table_place.TablePlace.{TablePlace}
use Rattle.tile_metadata.specs.Kept.{AreHeld, IsHeld}
use Rattle.tile_metadata.specs.Metadata.{lines_of, numbered_lines, origin_lines, schema_lines, subtree_lines}
use Rattle.tile_metadata.specs.Shown.{IsTableIn, lines_at, opened_lines}
use Rattle.tile_metadata.specs.declared.held.Held.{Held}
use Rattle.tile_metadata.specs.declared.held.Held.TheVariants.{Unread, Without, Read, Refused}
use Rattle.tile_metadata.specs.declared.open_table.OpenTable.{OpenTable}

-- these are the lines of a tile of this index, by what is read of the schema
abbrev pub AreLines : List (List ℕ) → List ℕ → ℕ → SubtreeParts → Held → Type 0
AreLines lines name index parts Unread = ⊤
AreLines lines name index parts Without = lines ≡ []
AreLines lines name index parts (Read s) =
    lines ≡ numbered_lines s name index parts (tile_table parts)
AreLines lines name index parts (Refused cause) = lines ≡ []

same_parts : (x : Option SubtreeParts) (a b : SubtreeParts) → x ≡ Some a → x ≡ Some b → a ≡ b
same_parts x a b p q = cc

module _ (store : Stored) (name : List ℕ) (origin : Origin) (parts : SubtreeParts)
    (found : subtree_at (docs store) origin.subtree ≡ here parts) where
  by_schema : (json : Option JsonValue) (held : Held) → IsHeld json held
      → AreLines (schema_lines (docs store) name origin (option_map schema json)) name origin.index
      parts held
  by_schema json Unread h = tt
  by_schema json Without h =
      ap (λ j. schema_lines (docs store) name origin (option_map schema j)) h
  by_schema json (Read s) h =
      ap (schema_lines (docs store) name origin) h ∙ ap (subtree_lines s name origin.index) found
  by_schema json (Refused cause) h = ap (schema_lines (docs store) name origin) h

module _ (store : Stored) (place : TablePlace) (all : List Held) (kept : AreHeld store all)
    (held : Held) (at : slice_get all place.document ≡ Some held) (parts : SubtreeParts)
    (read : option_and_then subtree_of (slice_get store.loaded place.subtree) ≡ Some parts) where
  origin_told : (name : List ℕ) (o : Option Origin) → TellsPlace store o (Some place)
      → AreLines (origin_lines (docs store) name o) name place.index parts held
  origin_told name None told = absurd told
  origin_told name (Some origin) told =
      subst (λ i. AreLines (origin_lines (docs store) name (Some origin)) name i parts held)
      (sym told.index)
      (by_schema store name origin parts
      (told.subtree.found ∙ ap here (same_parts _ told.subtree.parts parts told.subtree.read read))
      (schema_at (docs store) origin.document) held
      (kept place.document held at origin.document told.document))

  node_told : (t : Tree) → TellsPlace store (origin_of t) (Some place)
      → AreLines (lines_of (docs store) t) (name_of t) place.index parts held
  node_told (tile own children) told = origin_told own.name own.origin told
  node_told (pending name facts key) told = absurd told

-- of a tree of the store
pub lines_told : (tree_store store : Stored) → tree_store ≡ store → (place : TablePlace)
    (all : List Held) → AreHeld store all → (held : Held)
    → slice_get all place.document ≡ Some held → (parts : SubtreeParts)
    → option_and_then subtree_of (slice_get store.loaded place.subtree) ≡ Some parts → (t : Tree)
    → TellsPlace tree_store (origin_of t) (Some place)
    → AreLines (lines_of (docs store) t) (name_of t) place.index parts held
lines_told tree_store store e place all kept held at parts read t told =
    node_told store place all kept held at parts read t
    (subst (λ s. TellsPlace s (origin_of t) (Some place)) e told)

numbered : (s : SchemaParts) (name : List ℕ) (index : ℕ) (parts : SubtreeParts) (n : Option ℕ)
    → numbered_lines s name index parts n
    ≡ opened_lines name index parts (option_map (table s parts) n)
numbered s name index parts None = refl
numbered s name index parts (Some n) = refl

pub lines_opened : (s : SchemaParts) (name : List ℕ) (index : ℕ) (parts : SubtreeParts)
    (held : Option OpenTable) → IsTableIn s parts held
    → lines_at name index parts held ≡ numbered_lines s name index parts (tile_table parts)
lines_opened s name index parts None h = absurd h
lines_opened s name index parts (Some o) h =
    sym (numbered s name index parts (tile_table parts) ∙ ap (opened_lines name index parts) h)
