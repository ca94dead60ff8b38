-- Documents that are loaded one behind another.
use Rattle.std.proofs.Common.{◌≡◌, ℕ, ◌+◌, Option, List, [], ◌∷◌, ◌++◌, length, All, Contains}
use Rattle.std.proofs.Common.{Result, Ok, Err, OnOk}
use Rattle.std.proofs.Common.{refl, sym, ap, ◌∙◌, inl, inr, arith, append_assoc, append-nil, length-append, subst}
use Rattle.std.proofs.lemmas.List.Elements.{All-append, All-weaker, All-push, All-same, All-nil, All-cons}
use Rattle.tile_types.specs.declared.key.Key.{Key}
use Rattle.source_port.specs.Counts.{count_after, next_count}
use Rattle.source_port.specs.Library.{Library}
use Rattle.doc_store.specs.Docs.{Loaded, tileset_key}
use Rattle.doc_store.specs.Store.{Stored, IsFull, total_bytes, with_document}
use Rattle.tree_nodes.specs.Trees.{stored_tree}
use Rattle.words_table.specs.declared.command.Command.{Command}
use Rattle.stream_cli.specs.Awaited.{IsEarlier, WasAwaited, awaited}
use Rattle.stream_cli.specs.Loading.{Fetches, IsFault, IsFetched, IsGone, Loads, Opens, WasFetched, asked_for, root_of}
use Rattle.stream_cli.specs.Looks.{IsIdle}
use Rattle.stream_cli.specs.Sides.{SourceRun, Stays}
use Rattle.stream_cli.specs.Steps.{AsksFor, IsLoadCause, LoadsOn}
use Rattle.stream_cli.specs.declared.cause.Cause.{Cause}
use Rattle.stream_cli.specs.declared.cause.Cause.TheVariants as cause
use Rattle.stream_cli.proofs.Counting.{counts_behind, later_risen}

-- what follows where there is no error
pub on_ok : {T E P Q : Type 0} (r : Result T E) → (P → Q) → OnOk r P → OnOk r Q
on_ok (Ok x) f p = f p
on_ok (Err e) f p = tt

-- ---- a store that grows

total-append : (xs ys : List Loaded) → total_bytes (xs ++ ys) ≡ total_bytes xs + total_bytes ys
total-append [] ys = omega arith
total-append (x ∷ xs) ys = let e = total-append xs ys in omega (arith, e)

-- what has no room in a store has none in a larger one
full_later : (old new : Stored) (added : List Loaded) (more : ℕ)
    → new.loaded ≡ old.loaded ++ added → IsFull old more → IsFull new more
full_later old new added more behind full =
    let longer = ap length behind ∙ length-append old.loaded added in
    let larger = ap total_bytes behind ∙ total-append old.loaded added in
    elim full [
      | inl documents ↦ inl (omega (arith, documents, longer))
      | inr bytes ↦ inr (omega (arith, bytes, larger))
    ]

gone_later : (library : Option Library) (old new : Stored) (added : List Loaded)
    → new.loaded ≡ old.loaded ++ added → (key : Key) → IsGone library old key
    → IsGone library new key
gone_later library old new added behind key gone = elim gone [
  | inl lacks ↦ inl lacks
  | inr (inl long) ↦ inr (inl long)
  | inr (inr h) ↦ inr (inr (record {
    bytes = h.bytes;
    fetched = h.fetched;
    full = full_later old new added (length h.bytes) behind h.full;
  }))
]

all_gone_later : (library : Option Library) (old new : Stored) (added : List Loaded)
    (keys : List Key)
    → new.loaded ≡ old.loaded ++ added → All (IsGone library old) keys
    → All (IsGone library new) keys
all_gone_later library old new added keys behind gone =
    All-weaker (IsGone library old) (IsGone library new)
    (gone_later library old new added behind) keys gone

-- ---- what came earlier

abbrev earlier_then : (a b c : Stored) → IsEarlier a b → IsEarlier b c → IsEarlier a c
earlier_then a b c first then = record {
  added = first.added ++ then.added;
  marked = first.marked ++ then.marked;
  loaded =
      then.loaded ∙ ap (λ ls. ls ++ then.added) first.loaded
      ∙ append_assoc a.loaded first.added then.added;
  gone =
      then.gone ∙ ap (λ ks. ks ++ then.marked) first.gone
      ∙ append_assoc a.gone first.marked then.marked;
}

pub awaited_later : (command : Command) (a b : Stored) → IsEarlier a b → (key : Key)
    → WasAwaited command a key → WasAwaited command b key
awaited_later command a b before key was = record {
  earlier = was.earlier;
  before = earlier_then was.earlier a b was.before before;
  awaited = was.awaited;
}

-- ---- one step

-- nothing was asked for
pub asks_nothing : (library : Option Library) (wanted : Key → Type 0) (old new : Stored)
    → new.loaded ≡ old.loaded → new.gone ≡ old.gone → AsksFor library wanted old new 0
asks_nothing library wanted old new loaded gone =
    let behind : new.loaded ≡ old.loaded ++ [] = loaded ∙ sym (append-nil old.loaded) in
    record {
      before = record {
        added = [];
        marked = [];
        loaded = behind;
        gone = gone ∙ sym (append-nil old.gone);
      };
      documents = All-nil (λ l. wanted l.key);
      keys = All-nil wanted;
      from_library = λ h. record {
        loaded = All-same (WasFetched library) new.loaded old.loaded loaded h.loaded;
        gone =
            All-same (IsGone library new) new.gone old.gone gone
            (all_gone_later library old new [] old.gone behind h.gone);
      };
      asked = omega (arith, ap length loaded, ap length gone);
    }

-- a document that was fetched was added
pub asks_document : (library : Option Library) (wanted : Key → Type 0) (store : Stored)
    (key : Key) (bytes : List ℕ) → wanted key → IsFetched library key.address bytes
    → AsksFor library wanted store (with_document store key bytes) 1
asks_document library wanted store key bytes want fetched =
    let new = with_document store key bytes in
    let l : Loaded = record { key = key; bytes = bytes } in
    record {
      before = record {
        added = l ∷ [];
        marked = [];
        loaded = refl;
        gone = sym (append-nil store.gone);
      };
      documents = All-cons (λ l. wanted l.key) l [] want (All-nil (λ l. wanted l.key));
      keys = All-nil wanted;
      from_library = λ h. record {
        loaded = All-push (WasFetched library) store.loaded l h.loaded fetched;
        gone = all_gone_later library store new (l ∷ []) store.gone refl h.gone;
      };
      asked = omega (arith, length-append store.loaded (l ∷ []));
    }

-- a key was marked as absent
pub asks_absent : (library : Option Library) (wanted : Key → Type 0) (old new : Stored)
    (key : Key) → wanted key → new.loaded ≡ old.loaded → new.gone ≡ old.gone ++ key ∷ []
    → IsGone library old key → AsksFor library wanted old new 1
asks_absent library wanted old new key want loaded gone why =
    let behind : new.loaded ≡ old.loaded ++ [] = loaded ∙ sym (append-nil old.loaded) in
    record {
      before = record { added = []; marked = key ∷ []; loaded = behind; gone = gone };
      documents = All-nil (λ l. wanted l.key);
      keys = All-cons wanted key [] want (All-nil wanted);
      from_library = λ h. record {
        loaded = All-same (WasFetched library) new.loaded old.loaded loaded h.loaded;
        gone =
            All-same (IsGone library new) new.gone (old.gone ++ key ∷ []) gone
            (All-push (IsGone library new) old.gone key
            (all_gone_later library old new [] old.gone behind h.gone)
            (gone_later library old new [] behind key why));
      };
      asked =
          omega (arith, ap length loaded, ap length gone, length-append old.gone (key ∷ []));
    }

-- the same documents, which are also of other keys
pub asks_weaker : (P Q : Key → Type 0) (library : Option Library) (a b : Stored) (more : ℕ)
    → ((key : Key) → P key → Q key) → AsksFor library P a b more → AsksFor library Q a b more
asks_weaker P Q library a b more weaker asks = record {
  before = asks.before;
  documents =
      All-weaker (λ l. P l.key) (λ l. Q l.key) (λ l. weaker l.key) asks.before.added
      asks.documents;
  keys = All-weaker P Q weaker asks.before.marked asks.keys;
  from_library = asks.from_library;
  asked = asks.asked;
}

-- ---- one step behind another

asks_then : (library : Option Library) (wanted : Key → Type 0) (a b c : Stored) (m n : ℕ)
    → AsksFor library wanted a b m → AsksFor library wanted b c n
    → AsksFor library wanted a c (m + n)
asks_then library wanted a b c m n first then = record {
  before = earlier_then a b c first.before then.before;
  documents =
      All-append (λ l. wanted l.key) first.before.added then.before.added first.documents
      then.documents;
  keys = All-append wanted first.before.marked then.before.marked first.keys then.keys;
  from_library = λ h. then.from_library (first.from_library h);
  asked = omega (arith, first.asked, then.asked);
}

-- a source at one time, as far as it tells
pub record SourceSide : Type 0 where
  pub library : Option Library
  pub faults : ℕ
  pub fetches : ℕ

abbrev pub side_of : {S : Type 0} → (S → Option Library) → (S → ℕ) → (S → ℕ) → S → SourceSide
side_of library faults fetches source = record {
  library = library source;
  faults = faults source;
  fetches = fetches source;
}

abbrev pub run_between : SourceSide → SourceSide → SourceRun
run_between old new = record {
  library = old.library;
  faults = record { before = old.faults; after = new.faults };
  fetches = record { before = old.fetches; after = new.fetches };
}

-- nothing was loaded
pub loads_nothing : (wanted : Key → Type 0) (s : SourceSide) (a : Stored)
    → LoadsOn (run_between s s) wanted a a
loads_nothing wanted s a = record {
  more = 0;
  asks = asks_nothing s.library wanted a a refl refl;
  fetches = refl;
  unfailed = refl;
}

-- one document was asked for, behind a step that changed none
pub loads_one : (wanted : Key → Type 0) (s t : SourceSide) (a b c : Stored)
    → b.loaded ≡ a.loaded → b.gone ≡ a.gone → t.faults ≡ s.faults
    → t.fetches ≡ next_count s.fetches → AsksFor s.library wanted b c 1
    → LoadsOn (run_between s t) wanted a c
loads_one wanted s t a b c loaded gone before one asks = record {
  more = 1;
  asks =
      asks_then s.library wanted a b c 0 1 (asks_nothing s.library wanted a b loaded gone) asks;
  fetches = one;
  unfailed = before;
}

pub loads_then : (wanted : Key → Type 0) (s t u : SourceSide) (a b c : Stored)
    → t.library ≡ s.library → LoadsOn (run_between s t) wanted a b
    → LoadsOn (run_between t u) wanted b c → LoadsOn (run_between s u) wanted a c
loads_then wanted s t u a b c same first then = record {
  more = first.more + then.more;
  asks =
      asks_then s.library wanted a b c first.more then.more first.asks
      (subst (λ l. AsksFor l wanted b c then.more) same then.asks);
  fetches =
      counts_behind first.more then.more s.fetches t.fetches u.fetches first.fetches then.fetches;
  unfailed = then.unfailed ∙ first.unfailed;
}

-- documents that were loaded, and then nothing
pub loads_idle : (wanted : Key → Type 0) (s t u : SourceSide) (a b : Stored)
    → LoadsOn (run_between s t) wanted a b → IsIdle (run_between t u) 0
    → LoadsOn (run_between s u) wanted a b
loads_idle wanted s t u a b first idle = record {
  more = first.more;
  asks = first.asks;
  fetches = idle.fetches ∙ first.fetches;
  unfailed = idle.unfailed ∙ first.unfailed;
}

-- the same documents, which are also of other keys
pub loads_weaker : (P Q : Key → Type 0) (source : SourceRun) (a b : Stored)
    → ((key : Key) → P key → Q key) → LoadsOn source P a b → LoadsOn source Q a b
loads_weaker P Q source a b weaker loads = record {
  more = loads.more;
  asks = asks_weaker P Q source.library a b loads.more weaker loads.asks;
  fetches = loads.fetches;
  unfailed = loads.unfailed;
}

-- a round: the documents that the tree of what was loaded waited for
pub round_then : (command : Command) (keys : List Key) (s t u : SourceSide) (a b c : Stored)
    → t.library ≡ s.library → keys ≡ awaited command (stored_tree b)
    → LoadsOn (run_between s t) (WasAwaited command b) a b
    → LoadsOn (run_between t u) (Contains keys) b c
    → LoadsOn (run_between s u) (WasAwaited command c) a c
round_then command keys s t u a b c same are first then =
    let before = then.asks.before in
    loads_then (WasAwaited command c) s t u a b c same
    (loads_weaker (WasAwaited command b) (WasAwaited command c) (run_between s t) a b
    (awaited_later command b c before) first)
    (loads_weaker (Contains keys) (WasAwaited command c) (run_between t u) b c
    (λ key among. record {
      earlier = b;
      before = before;
      awaited = subst (λ ks. Contains ks key) are among;
    }) then)

-- a fault behind so many fetches, of which none failed
pub fault_behind : (s t u : SourceSide) (before count : ℕ) → Fetches (run_between s t) before
    → Stays (run_between s t).faults → IsFault (run_between t u) count
    → IsFault (run_between s u) count
fault_behind s t u before count fetched unfailed fault = record {
  asked = before + fault.asked;
  fetches =
      (let e : before + (fault.asked + 1) ≡ before + fault.asked + 1 = omega arith in
      counts_behind before (fault.asked + 1) s.fetches t.fetches u.fetches fetched fault.fetches
      ∙ ap (λ n. count_after n s.fetches) e);
  risen = record {
    counted = fault.risen.counted;
    risen = later_risen s.faults t.faults u.faults unfailed fault.risen.risen;
  };
}

-- ---- behind the root document

-- the root document alone
pub loads_root : (command : Command) (source : SourceRun) (store : Stored)
    → Opens (root_of command) source store → Loads command source.library store
loads_root command source store opens =
    let l : Loaded = record { key = tileset_key (root_of command); bytes = opens.bytes } in
    record {
      bytes = opens.bytes;
      others = [];
      root_first = opens.alone.loaded;
      awaited = record {
        documents = All-nil (λ l. WasAwaited command store l.key);
        keys =
            All-same (WasAwaited command store) store.gone [] opens.alone.gone
            (All-nil (WasAwaited command store));
      };
      from_library = record {
        loaded =
            All-same (WasFetched source.library) store.loaded (l ∷ []) opens.alone.loaded
            (All-cons (WasFetched source.library) l [] opens.fetched
            (All-nil (WasFetched source.library)));
        gone =
            All-same (IsGone source.library store) store.gone [] opens.alone.gone
            (All-nil (IsGone source.library store));
      };
    }

-- one fetch, and one document is there
pub opens_one : (root : List ℕ) (source : SourceRun) (store : Stored) → Opens root source store
    → Fetches source (asked_for store)
opens_one root source store opens =
    let e : 1 ≡ length store.loaded + length store.gone =
    omega (arith, ap length opens.alone.loaded, ap length opens.alone.gone) in
    opens.fetches ∙ ap (λ n. count_after n source.fetches.before) e

pub loads_behind : (command : Command) (library : Option Library) (a b : Stored) (more : ℕ)
    → Loads command library a → AsksFor library (WasAwaited command b) a b more
    → Loads command library b
loads_behind command library a b more first asks =
    let before = asks.before in
    record {
      bytes = first.bytes;
      others = first.others ++ before.added;
      root_first = before.loaded ∙ ap (λ ls. ls ++ before.added) first.root_first;
      awaited = record {
        documents =
            All-append (λ l. WasAwaited command b l.key) first.others before.added
            (All-weaker (λ l. WasAwaited command a l.key) (λ l. WasAwaited command b l.key)
            (λ l. awaited_later command a b before l.key) first.others first.awaited.documents)
            asks.documents;
        keys =
            All-same (WasAwaited command b) b.gone (a.gone ++ before.marked) before.gone
            (All-append (WasAwaited command b) a.gone before.marked
            (All-weaker (WasAwaited command a) (WasAwaited command b)
            (awaited_later command a b before) a.gone first.awaited.keys)
            asks.keys);
      };
      from_library = asks.from_library first.from_library;
    }

-- loading stops behind so many fetches, of which none failed
pub stops_behind : (s t u : SourceSide) (before : ℕ) (cause : Cause)
    → Fetches (run_between s t) before → Stays (run_between s t).faults
    → IsLoadCause (run_between t u) cause → IsLoadCause (run_between s u) cause
stops_behind s t u before cause.Done fetched unfailed stops = absurd stops
stops_behind s t u before cause.Words fetched unfailed stops = absurd stops
stops_behind s t u before (cause.Document error) fetched unfailed stops = absurd stops
stops_behind s t u before (cause.Schema error) fetched unfailed stops = absurd stops
stops_behind s t u before (cause.Source count) fetched unfailed stops =
    fault_behind s t u before count fetched unfailed stops
stops_behind s t u before (cause.Out count) fetched unfailed stops = absurd stops
stops_behind s t u before cause.Memory fetched unfailed stops = stops ∙ unfailed
stops_behind s t u before (cause.RootAbsent why) fetched unfailed stops = absurd stops
stops_behind s t u before cause.Tiles fetched unfailed stops = absurd stops
stops_behind s t u before cause.Listing fetched unfailed stops = absurd stops
