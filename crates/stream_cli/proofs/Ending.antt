-- What a run ends with, from its steps.
use Rattle.std.proofs.Common.{◌≡◌, ◌∙◌, ◌+◌, ℕ, None, List, [], ◌∷◌, All, ap, arith, inl, inr, length, subst, sym}
use Rattle.std.proofs.lemmas.List.Elements.{All-head, All-nil, All-same}
use Rattle.source_port.specs.Counts.{count_after}
use Rattle.doc_store.specs.Docs.{Loaded, tileset_key}
use Rattle.doc_store.specs.Store.{Stored}
use Rattle.words_table.specs.declared.command.Command.{Command}
use Rattle.stream_cli.specs.Awaited.{WasAwaited}
use Rattle.stream_cli.specs.Contents.{AreFetched, FetchedContent, WasGiven, bytes_in}
use Rattle.stream_cli.specs.Loading.{Fetches, IsReached, Loads, WasFetched, asked_for, root_of}
use Rattle.stream_cli.specs.Looks.{Asked, EndsLook, IsIdle, OfCommand, Shows}
use Rattle.stream_cli.specs.Printing.{GainsAtMost, GainsLines, GainsSome, IsPrintCause}
use Rattle.stream_cli.specs.Runs.{Ends, IsLoadedFor}
use Rattle.stream_cli.specs.Sides.{OutRun, SourceRun, Stays}
use Rattle.stream_cli.specs.Steps.{EndsRounds, IsLoadCause, IsOpenCause, AsksFor, LoadsOn, LooksBehind}
use Rattle.stream_cli.specs.declared.cause.Cause.{Cause}
use Rattle.stream_cli.specs.declared.cause.Cause.TheVariants as cause
use Rattle.stream_cli.proofs.Counting.{counts_behind}
use Rattle.stream_cli.proofs.Librarys.{librarys, refused_librarys}
use Rattle.stream_cli.proofs.Loads.{SourceSide, fault_behind, loads_behind, run_between, stops_behind}

-- ---- a look

-- what is asked for is ready, its schemas are read, and its contents were fetched
pub record IsShown (asked : Asked) (source : SourceRun) (before : ℕ)
    (contents : List FetchedContent) : Type 0 where
  pub ready : asked.ready
  pub schemas : asked.refused ≡ None
  pub fetched : AreFetched source.library asked.contents contents
  pub fetches : Fetches source (before + length contents)
  pub unfailed : Stays source.faults

abbrev shows : (asked : Asked) (source : SourceRun) (before : ℕ)
    (contents : List FetchedContent) (printed : List (List ℕ) → Type 0)
    → IsShown asked source before contents → printed (asked.lines (bytes_in contents))
    → Shows asked source before printed
shows asked source before contents printed shown h = record {
  ready = shown.ready;
  schemas = shown.schemas;
  contents = contents;
  fetched = shown.fetched;
  fetches = shown.fetches;
  unfailed = shown.unfailed;
  printed = h;
}

-- such a look ends as its printing does
pub prints_shown : (asked : Asked) (source : SourceRun) (before : ℕ)
    (contents : List FetchedContent) (out : OutRun) (U : Type 0) (cause : Cause)
    → IsShown asked source before contents
    → IsPrintCause out (asked.lines (bytes_in contents)) cause
    → EndsLook asked source before out U cause
prints_shown asked source before contents out U cause.Done shown printed =
    shows asked source before contents (GainsLines out) shown printed
prints_shown asked source before contents out U cause.Words shown printed = absurd printed
prints_shown asked source before contents out U (cause.Document error) shown printed =
    absurd printed
prints_shown asked source before contents out U (cause.Schema error) shown printed =
    absurd printed
prints_shown asked source before contents out U (cause.Source count) shown printed =
    absurd printed
prints_shown asked source before contents out U (cause.Out count) shown printed =
    (printed.0, shows asked source before contents (GainsSome out) shown printed.1)
prints_shown asked source before contents out U cause.Memory shown printed =
    (shown.unfailed, inr (shows asked source before contents (GainsAtMost out) shown printed))
prints_shown asked source before contents out U (cause.RootAbsent why) shown printed =
    absurd printed
prints_shown asked source before contents out U cause.Tiles shown printed = absurd printed
prints_shown asked source before contents out U cause.Listing shown printed = absurd printed

-- the fetches of contents failed, and nothing was printed
pub fetching_ends : (asked : Asked) (source : SourceRun) (before : ℕ) (out : OutRun) (U : Type 0)
    (cause : Cause) → U → IsLoadCause source cause → EndsLook asked source before out U cause
fetching_ends asked source before out U cause.Done same stops = absurd stops
fetching_ends asked source before out U cause.Words same stops = absurd stops
fetching_ends asked source before out U (cause.Document error) same stops = absurd stops
fetching_ends asked source before out U (cause.Schema error) same stops = absurd stops
fetching_ends asked source before out U (cause.Source count) same stops = (stops, same)
fetching_ends asked source before out U (cause.Out count) same stops = absurd stops
fetching_ends asked source before out U cause.Memory same stops = (stops, inl same)
fetching_ends asked source before out U (cause.RootAbsent why) same stops = absurd stops
fetching_ends asked source before out U cause.Tiles same stops = absurd stops
fetching_ends asked source before out U cause.Listing same stops = absurd stops

-- no content is asked for
pub shows_nothing : (asked : Asked) (source : SourceRun) → asked.ready → asked.refused ≡ None
    → asked.contents ≡ [] → IsIdle source 0 → IsShown asked source 0 []
shows_nothing asked source ready schemas none idle = record {
  ready = ready;
  schemas = schemas;
  fetched = record { each = sym none; given = All-nil (WasGiven source.library) };
  fetches = idle.fetches;
  unfailed = idle.unfailed;
}

-- ---- a look behind so many fetches, of which none failed

module _ (asked : Asked) (s t u : SourceSide) (before more : ℕ) (same : t.library ≡ s.library)
    (fetched : Fetches (run_between s t) before) (unfailed : Stays (run_between s t).faults) where
  fetches_behind : (calls : ℕ) → Fetches (run_between t u) (more + calls)
      → Fetches (run_between s u) (before + more + calls)
  fetches_behind calls then =
      let e : before + (more + calls) ≡ before + more + calls = omega arith in
      counts_behind before (more + calls) s.fetches t.fetches u.fetches fetched then
      ∙ ap (λ n. count_after n s.fetches) e

  shows_behind : (printed : List (List ℕ) → Type 0) → Shows asked (run_between t u) more printed
      → Shows asked (run_between s u) (before + more) printed
  shows_behind printed shown = record {
    ready = shown.ready;
    schemas = shown.schemas;
    contents = shown.contents;
    fetched =
        subst (λ library. AreFetched library asked.contents shown.contents) same shown.fetched;
    fetches = fetches_behind (length shown.contents) shown.fetches;
    unfailed = shown.unfailed ∙ unfailed;
    printed = shown.printed;
  }

  idle_behind : IsIdle (run_between t u) more → IsIdle (run_between s u) (before + more)
  idle_behind idle = record {
    fetches = counts_behind before more s.fetches t.fetches u.fetches fetched idle.fetches;
    unfailed = idle.unfailed ∙ unfailed;
  }

  look_behind : (out : OutRun) (U : Type 0) (cause : Cause)
      → EndsLook asked (run_between t u) more out U cause
      → EndsLook asked (run_between s u) (before + more) out U cause
  look_behind out U cause.Done ends = shows_behind (GainsLines out) ends
  look_behind out U cause.Words ends = absurd ends
  look_behind out U (cause.Document error) ends = absurd ends
  look_behind out U (cause.Schema error) ends =
      (ends.0, ends.1, idle_behind ends.2, ends.3)
  look_behind out U (cause.Source count) ends =
      (fault_behind s t u before count fetched unfailed ends.0, ends.1)
  look_behind out U (cause.Out count) ends = (ends.0, shows_behind (GainsSome out) ends.1)
  look_behind out U cause.Memory ends = (
    ends.0 ∙ unfailed,
    elim ends.1 [
      | inl same ↦ inl same
      | inr shown ↦ inr (shows_behind (GainsAtMost out) shown)
    ],
  )
  look_behind out U (cause.RootAbsent why) ends = absurd ends
  look_behind out U cause.Tiles ends = (ends.0, idle_behind ends.1, ends.2)
  look_behind out U cause.Listing ends = (ends.0, idle_behind ends.1, ends.2)

-- a look behind documents that were loaded
pub looks_behind : (command : Command) (s t u : SourceSide) (a b : Stored) (out : OutRun)
    (U : Type 0) (cause : Cause) → t.library ≡ s.library
    → LoadsOn (run_between s t) (WasAwaited command b) a b
    → EndsLook (OfCommand command b) (run_between t u) 0 out U cause
    → LooksBehind command (run_between s u) a out U cause
looks_behind command s t u a b out U cause same loads ends =
    let asked = OfCommand command b in
    let e : loads.more + 0 ≡ loads.more = omega arith in
    record {
      new = b;
      more = loads.more;
      asks = loads.asks;
      ends =
          subst (λ n. EndsLook asked (run_between s u) n out U cause) e
          (look_behind asked s t u loads.more 0 same loads.fetches loads.unfailed out U cause ends);
    }

-- ---- the root document

-- it gives no store, and nothing was printed
pub open_ends : (command : Command) (source : SourceRun) (out : OutRun) (U : Type 0)
    (cause : Cause) → U → IsOpenCause (root_of command) source cause
    → Ends command source out U cause
open_ends command source out U cause.Done u stops = absurd stops
open_ends command source out U cause.Words u stops = absurd stops
open_ends command source out U (cause.Document error) u stops = (stops, u)
open_ends command source out U (cause.Schema error) u stops = absurd stops
open_ends command source out U (cause.Source count) u stops = (stops, u)
open_ends command source out U (cause.Out count) u stops = absurd stops
open_ends command source out U cause.Memory u stops = (stops, inl u)
open_ends command source out U (cause.RootAbsent why) u stops = (stops, u)
open_ends command source out U cause.Tiles u stops = absurd stops
open_ends command source out U cause.Listing u stops = absurd stops

-- ---- the rounds behind the root document

-- the root document was fetched
reached : (command : Command) (source : SourceRun) (store : Stored)
    → Loads command source.library store → IsReached (root_of command) source
reached command source store loads =
    let l : Loaded = record { key = tileset_key (root_of command); bytes = loads.bytes } in
    let all : All (WasFetched source.library) (l ∷ loads.others) =
    All-same (WasFetched source.library) (l ∷ loads.others) store.loaded (sym loads.root_first)
    loads.from_library.loaded in
    record {
      bytes = loads.bytes;
      fetched = All-head (WasFetched source.library) l loads.others all;
    }

-- loading stopped
load_ends : (command : Command) (source : SourceRun) (store : Stored) (out : OutRun)
    (U : Type 0) (cause : Cause) → Loads command source.library store → U
    → IsLoadCause source cause → Ends command source out U cause
load_ends command source store out U cause.Done loads same stops = absurd stops
load_ends command source store out U cause.Words loads same stops = absurd stops
load_ends command source store out U (cause.Document error) loads same stops = absurd stops
load_ends command source store out U (cause.Schema error) loads same stops = absurd stops
load_ends command source store out U (cause.Source count) loads same stops = (stops, same)
load_ends command source store out U (cause.Out count) loads same stops = absurd stops
load_ends command source store out U cause.Memory loads same stops = (
  record { unfailed = stops; reached = inr (reached command source store loads) },
  inl same,
)
load_ends command source store out U (cause.RootAbsent why) loads same stops = absurd stops
load_ends command source store out U cause.Tiles loads same stops = absurd stops
load_ends command source store out U cause.Listing loads same stops = absurd stops

loaded_for : (command : Command) (source : SourceRun) (store : Stored)
    (printed : List (List ℕ) → Type 0) → Loads command source.library store
    → (shown : Shows (OfCommand command store) source (asked_for store) printed)
    → IsLoadedFor command source store shown.contents
loaded_for command source store printed loads shown = record {
  loads = loads;
  ready = shown.ready;
  schemas = shown.schemas;
  fetched = shown.fetched;
  fetches = shown.fetches;
  unfailed = shown.unfailed;
  librarys =
      librarys command source.library store shown.contents loads shown.ready shown.fetched;
}

-- a look at what was loaded ended so
look_ends : (command : Command) (source : SourceRun) (store : Stored) (out : OutRun)
    (U : Type 0) (cause : Cause) → Loads command source.library store
    → EndsLook (OfCommand command store) source (asked_for store) out U cause
    → Ends command source out U cause
look_ends command source store out U cause.Done loads ends = record {
  store = store;
  contents = ends.contents;
  loaded = loaded_for command source store (GainsLines out) loads ends;
  gained = ends.printed;
}
look_ends command source store out U cause.Words loads ends = absurd ends
look_ends command source store out U (cause.Document error) loads ends = absurd ends
look_ends command source store out U (cause.Schema error) loads ends = (
  record {
    store = store;
    loads = loads;
    ready = ends.0;
    refused = ends.1;
    librarys = refused_librarys command source.library store error loads ends.0 ends.1;
    fetches = ends.2.fetches;
    unfailed = ends.2.unfailed;
  },
  ends.3,
)
look_ends command source store out U (cause.Source count) loads ends = ends
look_ends command source store out U (cause.Out count) loads ends = (
  ends.0,
  record {
    store = store;
    contents = ends.1.contents;
    loaded = loaded_for command source store (GainsSome out) loads ends.1;
    gained = ends.1.printed;
  },
)
look_ends command source store out U cause.Memory loads ends = (
  record { unfailed = ends.0; reached = inr (reached command source store loads) },
  elim ends.1 [
    | inl same ↦ inl same
    | inr shown ↦ inr (
      shown.printed.0,
      record {
        store = store;
        contents = shown.contents;
        loaded = loaded_for command source store (GainsAtMost out) loads shown;
        gained = shown.printed.1;
      },
    )
  ],
)
look_ends command source store out U (cause.RootAbsent why) loads ends = absurd ends
look_ends command source store out U cause.Tiles loads ends = (
  record {
    store = store;
    loads = loads;
    fetches = ends.1.fetches;
    unfailed = ends.1.unfailed;
    is_large = ends.0;
  },
  ends.2,
)
look_ends command source store out U cause.Listing loads ends = (
  record {
    store = store;
    loads = loads;
    fetches = ends.1.fetches;
    unfailed = ends.1.unfailed;
    is_large = ends.0;
  },
  ends.2,
)

pub rounds_end : (command : Command) (s t u : SourceSide) (a : Stored) (out : OutRun)
    (U : Type 0) (cause : Cause) → t.library ≡ s.library → Loads command s.library a
    → Fetches (run_between s t) (asked_for a) → Stays (run_between s t).faults
    → EndsRounds command (run_between t u) a out U cause
    → Ends command (run_between s u) out U cause
rounds_end command s t u a out U cause same loads fetched unfailed ends = elim ends [
  | inl stopped ↦ load_ends command (run_between s u) a out U cause loads stopped.1
      (stops_behind s t u (asked_for a) cause fetched unfailed stopped.0)
  | inr looked ↦
      let b = looked.new in
      let asked = OfCommand command b in
      let asks = subst (λ library. AsksFor library (WasAwaited command b) a b looked.more) same
      looked.asks in
      look_ends command (run_between s u) b out U cause
      (loads_behind command s.library a b looked.more loads asks)
      (subst (λ n. EndsLook asked (run_between s u) n out U cause) (sym asks.asked)
      (look_behind asked s t u (asked_for a) looked.more same fetched unfailed out U cause
      looked.ends))
]
