-- What the schemas that are kept tell of a node.
use Rattle.std.proofs.Common.{◌≡◌, Option, Some, None, Err, List, ◌∷◌, option_map, ap, slice_get, subst}
use Rattle.std.specs.Prelude.{⊤}
use Rattle.std.specs.List.{cons_option, filter_map}
use Rattle.std.specs.Option.{option_and_then}
use Rattle.json_decimal.specs.JsonValue.{JsonValue}
use Rattle.doc_store.specs.Docs.{Docs}
use Rattle.doc_store.specs.States.{schema_at}
use Rattle.doc_store.specs.Store.{Stored, docs}
use Rattle.expanded_tree.specs.Tree.{Origin, Tree}
use Rattle.meta_schema.specs.Reading.{schema}
use Rattle.meta_schema.specs.declared.error.SchemaError.{SchemaError}
use Rattle.tree_nodes.specs.TablePlaces.{TellsPlace, origin_of}
use Rattle.tree_nodes.specs.declared.table_place.TablePlace.{TablePlace}
use Rattle.tile_metadata.specs.Kept.{AreHeld, IsHeld}
use Rattle.tile_metadata.specs.Metadata.{cause_of, first_cause, first_of, schema_cause, schema_of}
use Rattle.tile_metadata.specs.Read.{ChecksNode, RefusesSchemas}
use Rattle.tile_metadata.specs.declared.error.SchemasError.{SchemasError}
use Rattle.tile_metadata.specs.declared.error.SchemasError.TheVariants as error
use Rattle.tile_metadata.specs.declared.held.Held.{Held}
use Rattle.tile_metadata.specs.declared.held.Held.TheVariants.{Unread, Without, Read, Refused}

abbrev pub IsCause : Option SchemaError → Held → Type 0
IsCause cause Unread = ⊤
IsCause cause Without = cause ≡ None
IsCause cause (Read s) = cause ≡ None
IsCause cause (Refused e) = cause ≡ Some e

of_held : (json : Option JsonValue) (held : Held) → IsHeld json held
    → IsCause (cause_of (option_map schema json)) held
of_held json Unread h = tt
of_held json Without h = ap (λ j. cause_of (option_map schema j)) h
of_held json (Read s) h = ap cause_of h
of_held json (Refused e) h = ap cause_of h

abbrev causes_at : Docs → Option Origin → Option SchemaError
causes_at d o = option_and_then (λ origin. cause_of (schema_of d origin)) o

module _ (store : Stored) (place : TablePlace) (all : List Held) (kept : AreHeld store all) where
  origin_caused : (o : Option Origin) → TellsPlace store o (Some place) → (held : Held)
      → slice_get all place.document ≡ Some held → IsCause (causes_at (docs store) o) held
  origin_caused None told held at = absurd told
  origin_caused (Some origin) told held at =
      of_held (schema_at (docs store) origin.document) held
      (kept place.document held at origin.document told.document)

pub caused : (tree_store store : Stored) → tree_store ≡ store → (place : TablePlace)
    (all : List Held) → AreHeld store all → (t : Tree)
    → TellsPlace tree_store (origin_of t) (Some place) → (held : Held)
    → slice_get all place.document ≡ Some held → IsCause (schema_cause (docs store) t) held
caused tree_store store e place all kept t told held at =
    origin_caused store place all kept (origin_of t)
    (subst (λ s. TellsPlace s (origin_of t) (Some place)) e told) held at

pub cause_none : (d : Docs) (t : Tree) (ts : List Tree) → schema_cause d t ≡ None
    → first_cause d (t ∷ ts) ≡ first_cause d ts
cause_none d t ts e =
    ap (λ o. first_of (cons_option o (filter_map (schema_cause d) ts))) e

pub cause_some : (d : Docs) (t : Tree) (ts : List Tree) (e : SchemaError)
    → schema_cause d t ≡ Some e → first_cause d (t ∷ ts) ≡ Some e
cause_some d t ts e h =
    ap (λ o. first_of (cons_option o (filter_map (schema_cause d) ts))) h

pub first_refused : (d : Docs) (t : Tree) (ts : List Tree) (e : SchemasError)
    → ChecksNode (schema_cause d t) (Err e) → ChecksNode (first_cause d (t ∷ ts)) (Err e)
first_refused d t ts (error.Refused cause) h = cause_some d t ts cause h
first_refused d t ts error.OutOfMemory h = tt

pub refuses : (first : Option SchemaError) (e : SchemasError) → ChecksNode first (Err e)
    → RefusesSchemas first e
refuses None (error.Refused cause) h = cc
refuses (Some c) (error.Refused cause) h = cc
refuses None error.OutOfMemory h = tt
refuses (Some c) error.OutOfMemory h = tt
