-- The causes that a run ends with: their statuses and their lines.
use Rattle.std.specs.Prelude.{ℕ, Option, Some, None, List, [], ◌++◌, codes, decimal}
use Rattle.tileset_schema.specs.declared.field.Field.{Field}
use Rattle.tileset_schema.specs.declared.field.Field.TheVariants as field
use Rattle.tileset_schema.specs.declared.error.DocumentError.{DocumentError}
use Rattle.tileset_schema.specs.declared.error.DocumentError.TheVariants as error
use Rattle.meta_schema.specs.declared.error.SchemaError.{SchemaError}
use Rattle.meta_schema.specs.declared.error.SchemaError.TheVariants as schema
use Rattle.tile_metadata.specs.declared.error.SchemasError.{SchemasError}
use Rattle.tile_metadata.specs.declared.error.SchemasError.TheVariants as schemas
use Rattle.source_port.specs.declared.source.FetchError.{FetchError}
use Rattle.source_port.specs.declared.source.FetchError.TheVariants as fetch
use Rattle.cut_core.specs.declared.error.CutError.{CutError}
use Rattle.cut_core.specs.declared.error.CutError.TheVariants as cut
use Rattle.plain_tree.specs.declared.error.PlainError.{PlainError}
use Rattle.plain_tree.specs.declared.error.PlainError.TheVariants as plain
use Rattle.words_table.specs.declared.error.WordsError.{WordsError}
use Rattle.words_table.specs.declared.error.WordsError.TheVariants as words
use Rattle.stream_cli.specs.declared.cause.Cause.{Cause}
use Rattle.stream_cli.specs.declared.cause.Cause.TheVariants.{Done, Words, Document, Schema, Source, Out, Memory, RootAbsent, Tiles, Listing}
use Rattle.stream_cli.specs.declared.cause.NotHere.{NotHere}
use Rattle.stream_cli.specs.declared.cause.NotHere.TheVariants.{Missing, TooLong}

-- the status that a cause ends with
abbrev pub status_of : Cause → ℕ
status_of Done = 0
status_of Words = 1
status_of (Document error) = 2
status_of (Schema error) = 2
status_of (Source count) = 3
status_of (Out count) = 4
status_of Memory = 7
status_of (RootAbsent why) = 8
status_of Tiles = 9
status_of Listing = 9

-- ---- what a run ends with, by what a step refused

-- the words weren't read
abbrev pub words_cause : WordsError → Cause
words_cause words.NotACommand = Words
words_cause words.OutOfMemory = Memory

-- the root document wasn't fetched; the source counts so many faults
abbrev pub root_cause : FetchError → ℕ → Cause
root_cause fetch.Missing count = RootAbsent Missing
root_cause fetch.TooLong count = RootAbsent TooLong
root_cause fetch.Failed count = Source count
root_cause fetch.OutOfMemory count = Memory

-- a further document or a content wasn't fetched: nothing ends where it isn't there or is too long
abbrev pub load_cause : FetchError → ℕ → Option Cause
load_cause fetch.Missing count = None
load_cause fetch.TooLong count = None
load_cause fetch.Failed count = Some (Source count)
load_cause fetch.OutOfMemory count = Some Memory

-- the root document isn't read
abbrev pub document_cause : DocumentError → Cause
document_cause error.OutOfMemory = Memory
document_cause e = Document e

-- the schemas of documents aren't read
abbrev pub schemas_cause : SchemasError → Cause
schemas_cause (schemas.Refused error) = Schema error
schemas_cause schemas.OutOfMemory = Memory

-- a view wasn't walked
abbrev pub walk_cause : CutError → Cause
walk_cause cut.TooLarge = Tiles
walk_cause cut.OutOfMemory = Memory

-- a tree wasn't written out
abbrev pub tree_cause : PlainError → Cause
tree_cause plain.TooLarge = Listing
tree_cause plain.OutOfMemory = Memory

-- ---- what is printed of a document that isn't read: the cause, the part and the tile, or `-`

abbrev pub error_name : DocumentError → List ℕ
error_name error.NotJson = codes "NotJson"
error_name (error.Shape field tile) = codes "Shape"
error_name (error.MissingField field tile) = codes "MissingField"
error_name error.Version = codes "Version"
error_name error.ExtensionRequired = codes "ExtensionRequired"
error_name (error.RegionVolume tile) = codes "RegionVolume"
error_name (error.NoVolume tile) = codes "NoVolume"
error_name (error.OutOfRange field tile) = codes "OutOfRange"
error_name (error.NotAffine tile) = codes "NotAffine"
error_name (error.RefineWord tile) = codes "RefineWord"
error_name (error.BothContents tile) = codes "BothContents"
error_name error.TooManyTiles = codes "TooManyTiles"
error_name (error.BadAddress tile) = codes "BadAddress"
error_name (error.ImplicitLimits tile) = codes "ImplicitLimits"
error_name (error.ImplicitSphere tile) = codes "ImplicitSphere"
error_name (error.ImplicitChildren tile) = codes "ImplicitChildren"
error_name error.OutOfMemory = codes "OutOfMemory"

abbrev pub field_name : Field → List ℕ
field_name field.Top = codes "Top"
field_name field.Asset = codes "Asset"
field_name field.Version = codes "Version"
field_name field.ExtensionsRequired = codes "ExtensionsRequired"
field_name field.GeometricError = codes "GeometricError"
field_name field.Root = codes "Root"
field_name field.Tile = codes "Tile"
field_name field.BoundingVolume = codes "BoundingVolume"
field_name field.ViewerRequestVolume = codes "ViewerRequestVolume"
field_name field.Refine = codes "Refine"
field_name field.Transform = codes "Transform"
field_name field.Content = codes "Content"
field_name field.Uri = codes "Uri"
field_name field.ImplicitTiling = codes "ImplicitTiling"
field_name field.Scheme = codes "Scheme"
field_name field.SubtreeLevels = codes "SubtreeLevels"
field_name field.AvailableLevels = codes "AvailableLevels"
field_name field.Subtrees = codes "Subtrees"
field_name field.Children = codes "Children"

-- the part that a cause speaks of
abbrev pub field_of : DocumentError → Option Field
field_of (error.Shape field tile) = Some field
field_of (error.MissingField field tile) = Some field
field_of (error.OutOfRange field tile) = Some field
field_of e = None

-- the number of the tile that a cause speaks of
abbrev pub tile_of : DocumentError → Option ℕ
tile_of error.NotJson = None
tile_of (error.Shape field tile) = Some tile
tile_of (error.MissingField field tile) = Some tile
tile_of error.Version = None
tile_of error.ExtensionRequired = None
tile_of (error.RegionVolume tile) = Some tile
tile_of (error.NoVolume tile) = Some tile
tile_of (error.OutOfRange field tile) = Some tile
tile_of (error.NotAffine tile) = Some tile
tile_of (error.RefineWord tile) = Some tile
tile_of (error.BothContents tile) = Some tile
tile_of error.TooManyTiles = None
tile_of (error.BadAddress tile) = Some tile
tile_of (error.ImplicitLimits tile) = Some tile
tile_of (error.ImplicitSphere tile) = Some tile
tile_of (error.ImplicitChildren tile) = Some tile
tile_of error.OutOfMemory = None

abbrev pub or_dash : {A : Type 0} → (A → List ℕ) → Option A → List ℕ
or_dash print None = codes "-"
or_dash print (Some x) = print x

-- `CAUSE FIELD TILE`
abbrev pub error_text : DocumentError → List ℕ
error_text e =
    error_name e ++ codes " " ++ or_dash field_name (field_of e) ++ codes " "
    ++ or_dash decimal (tile_of e)

-- ---- what is printed of a schema that isn't read

abbrev pub schema_error_name : SchemaError → List ℕ
schema_error_name (schema.Shape field) = codes "Shape"
schema_error_name schema.UnknownEnum = codes "UnknownEnum"
schema_error_name schema.OutOfRange = codes "OutOfRange"
schema_error_name schema.OutOfMemory = codes "OutOfMemory"

-- ---- lines

abbrev pub absence_name : NotHere → List ℕ
absence_name Missing = codes "Missing"
absence_name TooLong = codes "TooLong"

-- the line on standard error, with its line feed; a run that is done has none
abbrev pub fault_line : Cause → List ℕ
fault_line Done = []
fault_line Words = codes "fault 1 words\n"
fault_line (Document error) = codes "fault 2 document " ++ error_text error ++ codes "\n"
fault_line (Schema error) = codes "fault 2 schema " ++ schema_error_name error ++ codes "\n"
fault_line (Source count) = codes "fault 3 source " ++ decimal count ++ codes "\n"
fault_line (Out count) = codes "fault 4 out " ++ decimal count ++ codes "\n"
fault_line Memory = codes "fault 7 memory\n"
fault_line (RootAbsent why) = codes "fault 8 root " ++ absence_name why ++ codes "\n"
fault_line Tiles = codes "fault 9 tiles\n"
fault_line Listing = codes "fault 9 listing\n"
