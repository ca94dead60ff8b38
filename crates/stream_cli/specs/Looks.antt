-- What a look at the tree of the loaded documents leaves.
use Rattle.std.specs.Prelude.{ℕ, ◌≡◌, ◌⊎◌, ◌+◌, ◌<◌, List, [], length, Option, Some, None, Result, Ok, Err}
use Rattle.std.specs.Global.{Vec}
use Rattle.tile_types.specs.declared.key.Key.{Key}
use Rattle.doc_store.specs.Docs.{Docs}
use Rattle.doc_store.specs.Store.{Stored, docs}
use Rattle.error_test.specs.Views.{ViewParts}
use Rattle.expanded_tree.specs.Tree.{Tree}
use Rattle.cut_core.specs.Cut.{ideal}
use Rattle.cut_core.specs.Visits.{VisitsTooMany}
use Rattle.meta_schema.specs.declared.error.SchemaError.{SchemaError}
use Rattle.plain_tree.specs.Preorder.{nodes_of}
use Rattle.tile_metadata.specs.Metadata.{first_cause, metadata}
use Rattle.tree_nodes.specs.Trees.{size_of, stored_tree}
use Rattle.plain_tree.specs.declared.limits.TheConstants.{NODE_LIMIT}
use Rattle.words_table.specs.declared.command.Command.{Command}
use Rattle.stream_cli.specs.Awaited.{awaited, awaited_anywhere, awaited_in_view}
use Rattle.stream_cli.specs.Contents.{AreFetched, Contents, FetchedContent, addresses_shown, bytes_in, lacking}
use Rattle.stream_cli.specs.Loading.{Fetches, IsFault}
use Rattle.stream_cli.specs.Listing.{listing}
use Rattle.stream_cli.specs.Printing.{GainsAtMost, GainsLines, GainsSome}
use Rattle.stream_cli.specs.Report.{cut_text}
use Rattle.stream_cli.specs.Runs.{HasTooManyNodes, HasTooManyVisits, IsListable, IsReady, IsSeen, contents_asked, lines_asked, schema_refused}
use Rattle.stream_cli.specs.Sides.{HasRisenTo, OutRun, SourceRun, Stays}
use Rattle.stream_cli.specs.declared.cause.Cause.{Cause}
use Rattle.stream_cli.specs.declared.cause.Cause.TheVariants as cause
use Rattle.stream_cli.specs.declared.look.Look.{Look}
use Rattle.stream_cli.specs.declared.look.Look.TheVariants.{Awaits, Ended}

-- what is asked for of a tree: whether it waits for no document, why a schema isn't read, whether the
-- view visits too many nodes or there are too many to list, the addresses of contents, the lines with
-- these, and the keys that it waits for
pub record Asked : Type 1 where
  pub ready : Type 0
  pub refused : Option SchemaError
  pub many_visits : Type 0
  pub many_nodes : Type 0
  pub contents : List (List ℕ)
  pub lines : Contents → List (List ℕ)
  pub awaited : List Key

-- what `cut` asks for
abbrev pub OfCut : ViewParts → Option Tree → Asked
OfCut view root = record {
  ready = IsSeen view root;
  refused = None;
  many_visits = VisitsTooMany view root;
  many_nodes = ⊥;
  contents = addresses_shown view root;
  lines = λ contents. cut_text contents (ideal view (lacking contents) root);
  awaited = awaited_in_view view root;
}

-- what `tiles` asks for
abbrev pub OfTiles : Option Tree → Asked
OfTiles root = record {
  ready = IsListable root;
  refused = None;
  many_visits = ⊥;
  many_nodes = NODE_LIMIT < size_of root;
  contents = [];
  lines = λ contents. listing root;
  awaited = awaited_anywhere root;
}

-- what `meta` asks for of the tree of these documents
abbrev pub OfMeta : Docs → Option Tree → Asked
OfMeta docs root = record {
  ready = IsListable root;
  refused = first_cause docs (nodes_of root);
  many_visits = ⊥;
  many_nodes = NODE_LIMIT < size_of root;
  contents = [];
  lines = λ contents. metadata docs root;
  awaited = awaited_anywhere root;
}

-- what a command asks for of what is loaded
abbrev pub OfCommand : Command → Stored → Asked
OfCommand command store =
    let root = stored_tree store in
    record {
      ready = IsReady command root;
      refused = schema_refused command (docs store) root;
      many_visits = HasTooManyVisits command root;
      many_nodes = HasTooManyNodes command root;
      contents = contents_asked command root;
      lines = λ contents. lines_asked command contents (docs store) root;
      awaited = awaited command root;
    }

-- nothing was asked for, behind so many documents
pub record IsIdle (source : SourceRun) (before : ℕ) : Type 0 where
  pub fetches : Fetches source before
  pub unfailed : Stays source.faults

-- each schema is read, the contents that are asked for were fetched, each by one fetch behind so many
-- documents, and this became of the lines
pub record Shows (asked : Asked) (source : SourceRun) (before : ℕ)
    (becomes : List (List ℕ) → Type 0) : Type 0 where
  pub ready : asked.ready
  pub schemas : asked.refused ≡ None
  pub contents : List FetchedContent
  pub fetched : AreFetched source.library asked.contents contents
  pub fetches : Fetches source (before + length contents)
  pub unfailed : Stays source.faults
  pub printed : becomes (asked.lines (bytes_in contents))

-- what a look ends with that prints, or finds that a schema isn't read or that there is too much,
-- where so many documents were fetched before; `unprinted` says that the output is as it was
abbrev pub EndsLook : Asked → SourceRun → ℕ → OutRun → Type 0 → Cause → Type 0
EndsLook asked source before out unprinted cause.Done = Shows asked source before (GainsLines out)
EndsLook asked source before out unprinted (cause.Schema error) =
    asked.ready × (asked.refused ≡ Some error) × IsIdle source before × unprinted
EndsLook asked source before out unprinted (cause.Source count) =
    IsFault source count × unprinted
EndsLook asked source before out unprinted (cause.Out count) =
    HasRisenTo out.faults count × Shows asked source before (GainsSome out)
EndsLook asked source before out unprinted cause.Memory =
    Stays source.faults × (unprinted ⊎ Shows asked source before (GainsAtMost out))
EndsLook asked source before out unprinted cause.Tiles =
    asked.many_visits × IsIdle source before × unprinted
EndsLook asked source before out unprinted cause.Listing =
    asked.many_nodes × IsIdle source before × unprinted
EndsLook asked source before out unprinted _ = ⊥

-- what was found: nothing was printed, since these keys are awaited; or how the look ends
abbrev pub Finds : Asked → SourceRun → OutRun → Type 0 → Result (Vec Key) Cause → Type 0
Finds asked source out unprinted (Ok keys) =
    IsIdle source 0 × unprinted × (keys.items ≡ asked.awaited)
Finds asked source out unprinted (Err cause) = EndsLook asked source 0 out unprinted cause

-- a look at the documents of this store, which it gives back where it waits
abbrev pub Looks : Asked → Stored → SourceRun → OutRun → Type 0 → Look → Type 0
Looks asked store source out unprinted (Awaits keys given_back) =
    Finds asked source out unprinted (Ok keys) × (given_back ≡ store)
Looks asked store source out unprinted (Ended cause) = Finds asked source out unprinted (Err cause)
