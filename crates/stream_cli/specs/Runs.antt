-- What a run ends with, and what it did to its source and its output.
use Rattle.std.specs.Prelude.{◌≡◌, ◌⊎◌, ℕ, ◌+◌, ◌≤◌, ◌<◌, List, [], length, Option, Some, None, All}
use Rattle.tile_types.specs.declared.key.Key.{Key}
use Rattle.source_port.specs.Library.{Library}
use Rattle.doc_store.specs.Docs.{Docs}
use Rattle.doc_store.specs.Store.{Stored, docs}
use Rattle.error_test.specs.Views.{ViewParts}
use Rattle.expanded_tree.specs.Tree.{Tree}
use Rattle.tree_expansion.specs.Seen.{LeaveNodes, culled_waits}
use Rattle.tree_expansion.specs.Whole.{IsWhole, document_of, full, whole_docs}
use Rattle.cut_core.specs.Cut.{ideal}
use Rattle.cut_core.specs.Laws.{IsLoaded}
use Rattle.cut_core.specs.Visits.{IsWithinLimit, VisitsTooMany}
use Rattle.meta_schema.specs.declared.error.SchemaError.{SchemaError}
use Rattle.plain_tree.specs.Preorder.{nodes_of}
use Rattle.tile_metadata.specs.Metadata.{first_cause, metadata}
use Rattle.tree_nodes.specs.Trees.{stored_tree, size_of}
use Rattle.plain_tree.specs.declared.limits.TheConstants.{NODE_LIMIT}
use Rattle.words_table.specs.Commands.{command_of}
use Rattle.words_table.specs.declared.command.Command.{Command}
use Rattle.words_table.specs.declared.command.Command.TheVariants.{Cut, Tiles, Meta}
use Rattle.stream_cli.specs.Listing.{listing}
use Rattle.stream_cli.specs.Contents.{AreFetched, Contents, FetchedContent, addresses_shown, bytes_in, contents_of, lacking}
use Rattle.stream_cli.specs.Loading.{Fetches, IsAbsent, IsFault, IsRefused, IsShort, Loads, asked_for, root_of}
use Rattle.stream_cli.specs.Printing.{GainsLines, GainsSome}
use Rattle.stream_cli.specs.Report.{cut_text}
use Rattle.stream_cli.specs.Sides.{OutRun, SourceRun, HasRisenTo, Stays}
use Rattle.stream_cli.specs.declared.cause.Cause.{Cause}
use Rattle.stream_cli.specs.declared.cause.Cause.TheVariants as cause

-- ---- what a command asks for

-- the lines that a command asks for of the tree of these documents with these contents: the ideal
-- cut for a view, all tiles, or the metadata of the implicit ones
abbrev pub lines_asked : Command → Contents → Docs → Option Tree → List (List ℕ)
lines_asked (Cut address view) contents docs root =
    cut_text contents (ideal view (lacking contents) root)
lines_asked (Tiles address) contents docs root = listing root
lines_asked (Meta address) contents docs root = metadata docs root

-- why a schema that the command reads isn't read, if one isn't: the first cause of the documents of
-- implicit tiles, in preorder
abbrev pub schema_refused : Command → Docs → Option Tree → Option SchemaError
schema_refused (Cut address view) docs root = None
schema_refused (Tiles address) docs root = None
schema_refused (Meta address) docs root = first_cause docs (nodes_of root)

-- the addresses of the contents that a command asks for: those of the ideal cut, each once, or none
abbrev pub contents_asked : Command → Option Tree → List (List ℕ)
contents_asked (Cut address view) root = addresses_shown view root
contents_asked (Tiles address) root = []
contents_asked (Meta address) root = []

-- no node that the view visits waits for a document, and they are no more than they may be
pub record IsSeen (view : ViewParts) (root : Option Tree) : Type 0 where
  pub few : IsWithinLimit view root
  pub loaded : IsLoaded view root

-- no node waits for a document, and they are no more than are listed
pub record IsListable (root : Option Tree) : Type 0 where
  pub few : size_of root ≤ NODE_LIMIT
  pub loaded : IsWhole root

-- nothing that the command asks for waits for a document
abbrev pub IsReady : Command → Option Tree → Type 0
IsReady (Cut address view) root = IsSeen view root
IsReady (Tiles address) root = IsListable root
IsReady (Meta address) root = IsListable root

-- the view visits too many nodes
abbrev pub HasTooManyVisits : Command → Option Tree → Type 0
HasTooManyVisits (Cut address view) root = VisitsTooMany view root
HasTooManyVisits (Tiles address) root = ⊥
HasTooManyVisits (Meta address) root = ⊥

-- there are too many nodes to list
abbrev pub HasTooManyNodes : Command → Option Tree → Type 0
HasTooManyNodes (Cut address view) root = ⊥
HasTooManyNodes (Tiles address) root = NODE_LIMIT < size_of root
HasTooManyNodes (Meta address) root = NODE_LIMIT < size_of root

-- ---- the tree of the library

-- the library has no document at the key, or one that is too long
abbrev pub HasNone : Library → Key → Type 0
HasNone library key = document_of library key ≡ None

-- there was room for every document: each absent key is one that the library has none for
abbrev pub HadRoom : Library → Stored → Type 0
HadRoom library store = All (HasNone library) store.gone

-- each subtree that a child of a visited tile waits for out of sight leaves a node in the library: a
-- view doesn't load it, and the child counts as one
abbrev pub LeavesChildren : Command → Library → Stored → Type 0
LeavesChildren (Cut address view) library store =
    LeaveNodes (whole_docs library) (culled_waits view (stored_tree store))
LeavesChildren (Tiles address) library store = Unit {0}
LeavesChildren (Meta address) library store = Unit {0}

-- where the library is told, there was room for every document and children out of sight leave
-- nodes, the lines are those of the tree of all that the library has, with the library's contents
abbrev pub AreTheLibrarys : Command → Option Library → Stored → Contents → Type 0
AreTheLibrarys command None store contents = Unit {0}
AreTheLibrarys command (Some library) store contents =
    HadRoom library store → LeavesChildren command library store
    → lines_asked command contents (docs store) (stored_tree store)
    ≡ lines_asked command (contents_of library) (whole_docs library)
    (full library (root_of command))

-- where the library is told and there was room for every document, a schema of the tree of all that
-- the library has is refused for this cause, the first one
abbrev pub IsTheLibrarysCause : Command → Option Library → Stored → SchemaError → Type 0
IsTheLibrarysCause command None store error = Unit {0}
IsTheLibrarysCause command (Some library) store error =
    HadRoom library store
    → schema_refused command (whole_docs library) (full library (root_of command)) ≡ Some error

-- ---- how a run ends

-- what a command asks for is loaded: documents and contents, each by one fetch, of which none failed
pub record IsLoadedFor (command : Command) (source : SourceRun) (store : Stored)
    (contents : List FetchedContent) : Type 0 where
  pub loads : Loads command source.library store
  pub ready : IsReady command (stored_tree store)
  pub schemas : schema_refused command (docs store) (stored_tree store) ≡ None
  pub fetched : AreFetched source.library (contents_asked command (stored_tree store)) contents
  pub fetches : Fetches source (asked_for store + length contents)
  pub unfailed : Stays source.faults
  pub librarys : AreTheLibrarys command source.library store (bytes_in contents)

-- the lines that the command asks for were put, each by one put, and nothing else
pub record Prints (command : Command) (source : SourceRun) (out : OutRun) : Type 0 where
  pub store : Stored
  pub contents : List FetchedContent
  pub loaded : IsLoadedFor command source store contents
  pub gained : GainsLines out
      (lines_asked command (bytes_in contents) (docs store) (stored_tree store))

-- a prefix of their text was put
pub record PrintsPrefix (command : Command) (source : SourceRun) (out : OutRun) : Type 0 where
  pub store : Stored
  pub contents : List FetchedContent
  pub loaded : IsLoadedFor command source store contents
  pub gained : GainsSome out
      (lines_asked command (bytes_in contents) (docs store) (stored_tree store))

-- no document is left to load, and a schema that the command reads isn't read, for this cause
pub record RefusesSchema (command : Command) (source : SourceRun) (error : SchemaError) : Type 0 where
  pub store : Stored
  pub loads : Loads command source.library store
  pub ready : IsReady command (stored_tree store)
  pub refused : schema_refused command (docs store) (stored_tree store) ≡ Some error
  pub librarys : IsTheLibrarysCause command source.library store error
  pub fetches : Fetches source (asked_for store)
  pub unfailed : Stays source.faults

-- the tree of what was loaded is too large
pub record IsTooLarge (command : Command) (source : SourceRun)
    (large : Option Tree → Type 0) : Type 0 where
  pub store : Stored
  pub loads : Loads command source.library store
  pub fetches : Fetches source (asked_for store)
  pub unfailed : Stays source.faults
  pub is_large : large (stored_tree store)

-- what holds of a run of this command that ends with this cause; `unprinted` says that the output
-- is as it was
abbrev pub Ends : Command → SourceRun → OutRun → Type 0 → Cause → Type 0
Ends command source out unprinted cause.Done = Prints command source out
Ends command source out unprinted cause.Words = ⊥
Ends command source out unprinted (cause.Document error) =
    IsRefused (root_of command) source error × unprinted
Ends command source out unprinted (cause.Schema error) =
    RefusesSchema command source error × unprinted
Ends command source out unprinted (cause.Source count) = IsFault source count × unprinted
Ends command source out unprinted (cause.Out count) =
    HasRisenTo out.faults count × PrintsPrefix command source out
Ends command source out unprinted cause.Memory =
    IsShort (root_of command) source
    × (unprinted ⊎ (Stays out.faults × PrintsPrefix command source out))
Ends command source out unprinted (cause.RootAbsent why) =
    IsAbsent why (root_of command) source × unprinted
Ends command source out unprinted cause.Tiles =
    IsTooLarge command source (HasTooManyVisits command) × unprinted
Ends command source out unprinted cause.Listing =
    IsTooLarge command source (HasTooManyNodes command) × unprinted

-- memory ran out before the words were read, and nothing was asked for
abbrev pub IsUnread : Cause → Type 0 → Type 0 → Type 0
IsUnread cause.Memory unfetched unprinted = unfetched × unprinted
IsUnread _ unfetched unprinted = ⊥

-- the words are a command, and its run ends so
pub record Runs (words : List (List ℕ)) (source : SourceRun) (out : OutRun)
    (unprinted : Type 0) (cause : Cause) : Type 0 where
  pub command : Command
  pub is_command : command_of words ≡ Some command
  pub ends : Ends command source out unprinted cause
