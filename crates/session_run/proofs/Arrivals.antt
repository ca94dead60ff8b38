-- What comes of a key arrives at a desk.
use Rattle.std.specs.Prelude.{OnErr, OnOk, if◌then◌else◌}
use Rattle.std.proofs.Common.{ℕ, ◌≡◌, ◌==◌, ◌≤◌, ◌<◌, ◌+◌, ◌&&◌, ◌||◌, Bool, true, false, Option, Some, None, Result, Ok, Err, option_map, List, [], ◌∷◌, ◌++◌, IsTrue, length, length-append, refl, sym, ◌∙◌, ap, subst, arith, eq-eqb}
use Rattle.std.specs.List.{list_any}
use Rattle.tile_types.specs.declared.job.Job.{Job}
use Rattle.tile_types.specs.declared.key.Key.{Key}
use Rattle.tile_types.specs.declared.key.Kind.{Kind}
use Rattle.tile_types.specs.declared.key.Kind.TheVariants.{Content, Subtree, Tileset}
use Rattle.tile_types.specs.Keys.{same_key, same_kind}
use Rattle.tile_types.proofs.Keys.{key_refl}
use Rattle.source_port.specs.Library.{Library, HasBytes, PassesLimit, bytes_at}
use Rattle.content_digest.specs.declared.limits.TheConstants.{CONTENT_LIMIT}
use Rattle.content_digest.specs.Facts.{facts_of}
use Rattle.doc_store.specs.declared.limits.TheConstants.{DOCUMENT_LIMIT}
use Rattle.doc_store.specs.Docs.{is_content}
use Rattle.cut_core.specs.Visits.{content_key}
use Rattle.loader_gate.specs.declared.outcome.Outcome.{Outcome}
use Rattle.loader_gate.specs.declared.outcome.Outcome.TheVariants.{Failed, Got, Missing, Starved, TooLong}
use Rattle.loader_gate.specs.Outcomes.{IsTrueOf, IsWithin, latest_count}
use Rattle.engine_state.specs.declared.entry.Entry.{Entry}
use Rattle.engine_state.specs.declared.entry.Entry.TheVariants as entry
use Rattle.engine_state.specs.declared.fault_count.FaultCount.{FaultCount}
use Rattle.engine_state.specs.declared.flight.Flight.{Flight}
use Rattle.engine_state.specs.declared.gone.Gone.TheVariants as gone
use Rattle.engine_state.specs.State.{State}
use Rattle.engine_state.specs.Loading.{flies, is_flight_of}
use Rattle.engine_state.specs.Room.{evicted, fits, has_room}
use Rattle.engine_state.specs.After.{after, with_count, without_first}
use Rattle.engine_state.specs.Agreement.{AgreesAt, HasFacts, HasLength, HasNoRoom, limit_of}
use Rattle.engine_state.specs.Allowed.{last_count}
use Rattle.engine_state.specs.Journal.{replay}
use Rattle.engine_core.specs.Arriving.{content_entry, document_entry, entry_of}
use Rattle.engine_core.specs.Engine.{Engine}
use Rattle.session_run.specs.declared.stop.Stop.{Stop}
use Rattle.session_run.specs.Desks.{IsDesk, IsOneAtMost, job_of}
use Rattle.session_run.specs.Loading.{count_in, counts_in, is_of_loads}
use Rattle.session_run.proofs.Journals.{replay_more}
use Rattle.session_run.proofs.Loads.{loaded_more, stopped_later}
use Rattle.session_run.proofs.Served.{counts_none, served_on}

-- ---- the job that is out

-- what is being fetched is its key
pub record IsOut (job : Job) (fs : List Flight) : Type 0 where
  pub alone : fs ≡ record { key = job.key; pass = 0 } ∷ []
  pub limit : job.limit ≡ limit_of job.key

pub out_alone : (job : Job) (fs : List Flight) → job_of fs ≡ Some job → IsOneAtMost fs
    → IsOut job fs
out_alone job [] e one = cc
out_alone job (f ∷ []) e one =
    let same : record { key = f.key; limit = limit_of f.key; pass = f.pass } ≡ job = cc in
    record {
      alone = ap (λ key. record { key = key; pass = f.pass } ∷ []) (ap (λ j. j.key) same)
          ∙ ap (λ pass. record { key = job.key; pass = pass } ∷ []) one;
      limit = sym (ap (λ j. j.limit) same) ∙ ap (λ j. limit_of j.key) same;
    }
out_alone job (f ∷ g ∷ fs) e one = absurd one

-- it flies
pub out_flies : (s : State) (job : Job) → IsOut job s.flying → flies s 0 job.key ≡ true
out_flies s job o =
    ap (λ fs. list_any (is_flight_of 0 job.key) fs) o.alone
    ∙ ap (λ b. b && (0 == 0) || false) (key_refl job.key)

-- and nothing does once it has ended
none_left : (job : Job) (fs : List Flight) → IsOut job fs
    → without_first (is_flight_of 0 job.key) fs ≡ []
none_left job fs o =
    ap (without_first (is_flight_of 0 job.key)) o.alone
    ∙ ap (λ b. if b && (0 == 0) then [] else record { key = job.key; pass = 0 } ∷ [])
    (key_refl job.key)

-- ---- counts of faults

last_of_with : (fs : List FaultCount) (count : ℕ) → last_count (with_count 0 count fs) 0 ≡ count
last_of_with [] count = refl
last_of_with (f ∷ fs) count =
    elim (f.pass == 0) as (λ b. (f.pass == 0) ≡ b
    → last_count (if b then record { pass = 0; count = count } ∷ fs
    else f ∷ with_count 0 count fs) 0 ≡ count) [
      | true ↦ λ e. refl
      | false ↦ λ e.
          ap (λ b. if b then f.count else last_count (with_count 0 count fs) 0) e
          ∙ last_of_with fs count
    ] refl

latest_last : (counts : List ℕ) (count : ℕ) → latest_count (counts ++ count ∷ []) ≡ count
latest_last [] count = refl
latest_last (x ∷ []) count = refl
latest_last (x ∷ y ∷ counts) count = latest_last (y ∷ counts) count

-- ---- libraries

content_is : (key : Key) → is_content key ≡ true → content_key key.address ≡ key
content_is key h =
    elim key.kind as (λ kind. same_kind kind Content ≡ true
    → content_key key.address ≡ record { kind = kind; address = key.address }) [
      | Content ↦ λ h. refl
      | Tileset ↦ λ h. cc
      | Subtree octree levels contents ↦ λ h. cc
    ] h

has_facts : (library : Option Library) (address bytes : List ℕ) → HasBytes library address bytes
    → HasFacts library address (facts_of bytes)
has_facts None address bytes h = tt
has_facts (Some library) address bytes h = ap (option_map facts_of) h

has_length : (library : Option Library) (address bytes : List ℕ) → HasBytes library address bytes
    → HasLength library address (length bytes)
has_length None address bytes h = tt
has_length (Some library) address bytes h = ap (option_map length) h

has_no_room : (library : Option Library) (s : State) (address bytes : List ℕ)
    → HasBytes library address bytes → has_room s.loaded (length bytes) ≡ false
    → HasNoRoom library s address
has_no_room None s address bytes h full = tt
has_no_room (Some library) s address bytes h full = (bytes, h, full)

-- ---- ends

-- what an end of the key is
pub record IsEnd (library : Option Library) (old : List Entry) (key : Key) (e : Entry) : Type 0 where
  pub is_opened : (after (replay old) e).opened ≡ (replay old).opened
  pub is_open : (after (replay old) e).closed ≡ (replay old).closed
  pub flying : (after (replay old) e).flying ≡ without_first (is_flight_of 0 key) (replay old).flying
  pub is_load : is_of_loads e ≡ true
  pub agrees : AgreesAt library (replay old) e
  pub latest : last_count (replay old).faults 0 ≡ latest_count (counts_in old)
      → last_count (after (replay old) e).faults 0 ≡ latest_count (counts_in old ++ count_in e)

module _ (library : Option Library) (old : List Entry) (key : Key) (bytes : List ℕ) where
  abbrev s : State
  s = replay old

  no_count : last_count s.faults 0 ≡ latest_count (counts_in old)
      → last_count s.faults 0 ≡ latest_count (counts_in old ++ [])
  no_count h = h ∙ ap latest_count (sym (counts_none old))

  content_end : HasBytes library key.address bytes → length bytes ≤ CONTENT_LIMIT
      → is_content key ≡ true → IsEnd library old key (content_entry s 0 key bytes)
  content_end there within content =
      let same : without_first (is_flight_of 0 (content_key key.address)) s.flying
      ≡ without_first (is_flight_of 0 key) s.flying =
      ap (λ k. without_first (is_flight_of 0 k) s.flying) (content_is key content) in
      elim (fits s (length bytes)) as (λ b. IsEnd library old key
      (if b then entry.ContentArrived 0 key.address (length bytes) (facts_of bytes).digest
      (evicted s (length bytes))
      else entry.Squeezed 0 key.address (length bytes))) [
        | true ↦ record {
          is_opened = refl;
          is_open = refl;
          flying = same;
          is_load = refl;
          agrees = (has_facts library key.address bytes there, within);
          latest = no_count;
        }
        | false ↦ record {
          is_opened = refl;
          is_open = refl;
          flying = same;
          is_load = refl;
          agrees = (has_length library key.address bytes there, within);
          latest = no_count;
        }
      ]

  document_end : HasBytes library key.address bytes → length bytes ≤ DOCUMENT_LIMIT
      → IsEnd library old key (document_entry s 0 key bytes)
  document_end there within =
      elim (has_room s.loaded (length bytes)) as (λ b. has_room s.loaded (length bytes) ≡ b
      → IsEnd library old key
      (if b then entry.DocumentArrived 0 key bytes else entry.Absent 0 key gone.StoreFull)) [
        | true ↦ λ e. record {
          is_opened = refl;
          is_open = refl;
          flying = refl;
          is_load = refl;
          agrees = (there, within);
          latest = no_count;
        }
        | false ↦ λ e. record {
          is_opened = refl;
          is_open = refl;
          flying = refl;
          is_load = refl;
          agrees = has_no_room library s key.address bytes there e;
          latest = no_count;
        }
      ] refl

-- what a job ends with is an end of its key
pub end_of : (library : Option Library) (old : List Entry) (job : Job) (outcome : Outcome)
    → job.limit ≡ limit_of job.key → IsWithin job.limit outcome → IsTrueOf library job outcome
    → IsEnd library old job.key (entry_of (replay old) 0 job.key outcome)
end_of library old job (Got bytes) limit within there =
    elim (is_content job.key) as (λ b. is_content job.key ≡ b
    → job.limit ≡ (if b then CONTENT_LIMIT else DOCUMENT_LIMIT)
    → IsEnd library old job.key (if b then content_entry (replay old) 0 job.key bytes
    else document_entry (replay old) 0 job.key bytes)) [
      | true ↦ λ e most. content_end library old job.key bytes there (omega (arith, within)) e
      | false ↦ λ e most. document_end library old job.key bytes there (omega (arith, within))
    ] refl limit
end_of library old job Missing limit within there = record {
  is_opened = refl;
  is_open = refl;
  flying = refl;
  is_load = refl;
  agrees = there;
  latest = λ h. h ∙ ap latest_count (sym (counts_none old));
}
end_of library old job TooLong limit within there = record {
  is_opened = refl;
  is_open = refl;
  flying = refl;
  is_load = refl;
  agrees = subst (PassesLimit library job.key.address) limit there;
  latest = λ h. h ∙ ap latest_count (sym (counts_none old));
}
end_of library old job (Failed count) limit within there = record {
  is_opened = refl;
  is_open = refl;
  flying = refl;
  is_load = refl;
  agrees = tt;
  latest = λ h. last_of_with (replay old).faults count ∙ sym (latest_last (counts_in old) count);
}
end_of library old job Starved limit within there = record {
  is_opened = refl;
  is_open = refl;
  flying = refl;
  is_load = refl;
  agrees = tt;
  latest = λ h. h ∙ ap latest_count (sym (counts_none old));
}

-- ---- the desk behind it

pub ended_desk : (library : Option Library) (old new : Engine) (job : Job) (e : Entry)
    (begun jobs idle ended : ℕ) (stop : Option Stop)
    → IsDesk (record {
      engine = old;
      library = library;
      begun = begun;
      jobs = jobs;
      idle = idle;
      ended = ended;
      stop = stop;
    })
    → IsOut job (replay old.journal).flying → IsEnd library old.journal job.key e
    → new.journal ≡ old.journal ++ e ∷ [] → new.room ≡ old.room
    → IsDesk (record {
      engine = new;
      library = library;
      begun = begun;
      jobs = jobs;
      idle = idle;
      ended = ended;
      stop = stop;
    })
ended_desk library old new job e begun jobs idle ended stop d o n is room =
    let v = d.served in
    let long : length new.journal ≡ length old.journal + 1 =
    ap length is ∙ length-append old.journal (e ∷ []) in
    record {
      served = served_on library old new e v is (record {
        is_opened = n.is_opened ∙ v.is_opened;
        is_open = n.is_open ∙ v.is_open;
        flights = subst IsOneAtMost (sym (n.flying ∙ none_left job _ o)) tt;
        agrees = n.agrees;
        latest = n.latest v.latest;
      });
      loaded = λ h. loaded_more begun old.journal new.journal e (d.loaded h) is n.is_load;
      few_jobs = omega (arith, d.few_jobs);
      settled = λ h.
          let none = d.settled h in
          let both : [] ≡ record { key = job.key; pass = 0 } ∷ [] = sym none.none_flies ∙ o.alone in
          cc;
      stopped = d.stopped;
      truly = stopped_later old new e stop room is d.truly;
    }

-- nothing is out any more
pub ended_none : (library : Option Library) (old new : List Entry) (job : Job) (e : Entry)
    → IsOut job (replay old).flying → IsEnd library old job.key e → new ≡ old ++ e ∷ []
    → job_of (replay new).flying ≡ None
ended_none library old new job e o n is =
    ap (λ j. job_of (replay j).flying) is
    ∙ ap (λ s. job_of s.flying) (replay_more old e)
    ∙ ap job_of (n.flying ∙ none_left job _ o)

-- ---- whether it arrived or was refused

pub delivered_desk : {A B : Type 0} (result : Result A B) (library : Option Library)
    (old new : Engine) (job : Job) (outcome : Outcome) (begun jobs idle ended : ℕ)
    (stop : Option Stop)
    → IsDesk (record {
      engine = old;
      library = library;
      begun = begun;
      jobs = jobs;
      idle = idle;
      ended = ended;
      stop = stop;
    })
    → IsOut job (replay old.journal).flying → IsWithin job.limit outcome
    → IsTrueOf library job outcome
    → OnOk result (new.journal ≡ old.journal
    ++ entry_of (replay old.journal) 0 job.key outcome ∷ [])
    → OnErr result (new ≡ old) → new.room ≡ old.room
    → IsDesk (record {
      engine = new;
      library = library;
      begun = begun;
      jobs = jobs;
      idle = idle;
      ended = ended;
      stop = stop;
    })
delivered_desk (Ok done) library old new job outcome begun jobs idle ended stop d o within there is
    same room =
    ended_desk library old new job _ begun jobs idle ended stop d o
    (end_of library old.journal job outcome o.limit within there) is room
delivered_desk (Err e) library old new job outcome begun jobs idle ended stop d o within there is
    same room =
    subst (λ engine. IsDesk (record {
      engine = engine;
      library = library;
      begun = begun;
      jobs = jobs;
      idle = idle;
      ended = ended;
      stop = stop;
    })) (sym same) d

pub delivered_none : {A B : Type 0} (result : Result A B) (library : Option Library)
    (old new : List Entry) (job : Job) (outcome : Outcome)
    → IsOut job (replay old).flying → IsWithin job.limit outcome → IsTrueOf library job outcome
    → OnOk result (new ≡ old ++ entry_of (replay old) 0 job.key outcome ∷ [])
    → OnOk result (job_of (replay new).flying ≡ None)
delivered_none (Ok done) library old new job outcome o within there is =
    ended_none library old new job _ o (end_of library old job outcome o.limit within there) is
delivered_none (Err e) library old new job outcome o within there is = tt
