-- How reading the schemas of documents ends.
use Rattle.std.specs.Prelude.{◌≡◌, ⊤, Option, Some, None, Result, Ok, Err, List}
use Rattle.doc_store.specs.Docs.{Docs}
use Rattle.expanded_tree.specs.Tree.{Tree}
use Rattle.meta_schema.specs.declared.error.SchemaError.{SchemaError}
use Rattle.tile_metadata.specs.Metadata.{first_cause}
use Rattle.tile_metadata.specs.declared.error.SchemasError.{SchemasError}
use Rattle.tile_metadata.specs.declared.error.SchemasError.TheVariants.{Refused, OutOfMemory}
use Rattle.tile_metadata.specs.declared.schemas.Schemas.{Schemas}

-- none of the schemas of the documents of these nodes is refused
pub record AreSchemasOf (docs : Docs) (trees : List Tree) (s : Schemas) : Type 0 where
  pub unrefused : first_cause docs trees ≡ None

-- by the first cause, if there is one; memory may be wanting
abbrev pub RefusesSchemas : Option SchemaError → SchemasError → Type 0
RefusesSchemas None (Refused cause) = ⊥
RefusesSchemas (Some first) (Refused cause) = cause ≡ first
RefusesSchemas first OutOfMemory = ⊤

-- whether there is this cause
abbrev pub ChecksNode : Option SchemaError → Result (Unit {0}) SchemasError → Type 0
ChecksNode cause (Ok u) = cause ≡ None
ChecksNode cause (Err (Refused e)) = cause ≡ Some e
ChecksNode cause (Err OutOfMemory) = ⊤
