-- What a subtree says of a property table (OGC 22-025r4, "Property tables").
use Rattle.std.specs.Prelude.{ℕ, Ok, List}
use Rattle.json_decimal.specs.Parts.{members_of}
use Rattle.subtree_binary.specs.Availability.{Storage, Members}
use Rattle.subtree_binary.specs.Reading as subtrees
use Rattle.subtree_binary.specs.Subtrees.{SubtreeParts}
use Rattle.meta_schema.specs.Schemas.{SchemaParts, ClassParts, class_named}
use Rattle.meta_tables.specs.Causes.{Read, ◌>>=◌, or_cause, each}
use Rattle.meta_tables.specs.Columns.{column, owned}
use Rattle.meta_tables.specs.Tables.{TableParts}
use Rattle.meta_tables.specs.Written.{WrittenTable, written_table}
use Rattle.meta_tables.specs.declared.error.TableError.TheVariants.{Shape, UnknownClass}
use Rattle.std.specs.Result.{result_ok}

-- the buffers and buffer views, which have their form in each subtree that was read
abbrev pub storage_in : List ℕ → Members → Read Storage
storage_in binary top = or_cause Shape (result_ok (subtrees.storage binary top))

-- the table with the columns of those properties of its class that it has
abbrev pub of_class : SchemaParts → Storage → WrittenTable → ClassParts → Read TableParts
of_class schema storage own class =
    each (column schema storage own.count) (owned own.properties class.properties) >>= λ columns.
    Ok (record { schema = schema; count = own.count; columns = columns })

abbrev pub of_written : SchemaParts → Storage → WrittenTable → Read TableParts
of_written schema storage own =
    or_cause UnknownClass (class_named own.class schema.classes)
    >>= of_class schema storage own

-- the table of this number in a subtree, or the first cause why there is none
unfoldable pub table : SchemaParts → SubtreeParts → ℕ → Read TableParts
table schema subtree index =
    or_cause Shape (members_of subtree.json) >>= λ top.
    or_cause Shape (written_table index top) >>= λ own.
    storage_in subtree.binary top >>= λ storage.
    of_written schema storage own
