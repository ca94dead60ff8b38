-- A desk takes a key, and what comes of it arrives.
use Rattle.std.proofs.Common.{ℕ, ◌≡◌, ◌≤◌, ◌+◌, ◌&&◌, Bool, true, false, Option, Some, None, List, [], ◌∷◌, ◌++◌, drop, length, length-append, refl, sym, ◌∙◌, ap, subst, arith}
use Rattle.std.specs.List.{list_all}
use Rattle.std.proofs.lemmas.List.{drop-append-le}
use Rattle.tile_types.specs.declared.job.Job.{Job}
use Rattle.source_port.specs.Library.{Library}
use Rattle.loader_gate.specs.Outcomes.{latest_count}
use Rattle.engine_state.specs.declared.entry.Entry.{Entry}
use Rattle.engine_state.specs.declared.entry.Entry.TheVariants.{Taken}
use Rattle.engine_state.specs.declared.flight.Flight.{Flight}
use Rattle.engine_state.specs.Journal.{fullness, replay}
use Rattle.engine_state.specs.Loading.{best_want, is_key_of}
use Rattle.load_queue.specs.Best.{best}
use Rattle.engine_state.proofs.Steps.{fullness_rises}
use Rattle.engine_core.specs.Engine.{Engine}
use Rattle.engine_core.specs.Taking.{IsBestJob}
use Rattle.session_run.specs.declared.stop.Stop.{Stop}
use Rattle.session_run.specs.declared.stop.Stop.TheVariants.{JournalFull, OutOfMemory}
use Rattle.session_run.specs.Desks.{HasLoaded, HasStopped, IsDesk, IsIdle, IsOneAtMost, job_of}
use Rattle.session_run.specs.Loading.{is_of_loads}
use Rattle.session_run.proofs.Journals.{replay_more}
use Rattle.session_run.proofs.Served.{counts_none, served_on}

-- ---- lists

both : (a b : Bool) → a ≡ true → b ≡ true → (a && b) ≡ true
both a b p q = ap (λ x. x && b) p ∙ q

all_last : (j : List Entry) (e : Entry) → list_all is_of_loads j ≡ true → is_of_loads e ≡ true
    → list_all is_of_loads (j ++ e ∷ []) ≡ true
all_last [] e a h = both (is_of_loads e) true h refl
all_last (x ∷ j) e a h =
    elim (is_of_loads x) as (λ b. (b && list_all is_of_loads j) ≡ true
    → (b && list_all is_of_loads (j ++ e ∷ [])) ≡ true) [
      | true ↦ λ rest. all_last j e rest h
      | false ↦ λ rest. cc
    ] a

drop_last : (n : ℕ) (j : List Entry) (e : Entry) → n ≤ length j
    → drop n (j ++ e ∷ []) ≡ drop n j ++ e ∷ []
drop_last n j e h = drop-append-le n j (e ∷ []) h

-- one load more
pub loaded_more : (begun : ℕ) (old new : List Entry) (e : Entry) → HasLoaded begun old
    → new ≡ old ++ e ∷ [] → is_of_loads e ≡ true → HasLoaded begun new
loaded_more begun old new e l is h =
    let long : length new ≡ length old + 1 = ap length is ∙ length-append old (e ∷ []) in
    record {
      within = omega (arith, l.within);
      are_loads =
          ap (λ j. list_all is_of_loads (drop begun j)) is
          ∙ ap (list_all is_of_loads) (drop_last begun old e l.within)
          ∙ all_last (drop begun old) e l.are_loads h;
    }

-- a journal that is full stays full
pub stopped_later : (old new : Engine) (e : Entry) (stop : Option Stop) → new.room ≡ old.room
    → new.journal ≡ old.journal ++ e ∷ [] → HasStopped old stop → HasStopped new stop
stopped_later old new e None room is h = tt
stopped_later old new e (Some JournalFull) room is h =
    let more : fullness old.journal ≤ fullness new.journal =
    subst (λ j. fullness old.journal ≤ fullness j) (sym is) (fullness_rises old.journal (e ∷ [])) in
    omega (arith, h)
stopped_later old new e (Some OutOfMemory) room is h = tt

-- ---- a key is taken

-- where no job is out, nothing is being fetched
pub none_flies : (fs : List Flight) → job_of fs ≡ None → fs ≡ []
none_flies [] e = refl
none_flies (f ∷ fs) e = cc

-- where nothing may be taken, no key is the best
not_idle : (journal : List Entry) (job : Job) → IsBestJob journal 0 job → IsIdle journal → ⊥
not_idle journal job b i =
    let none : is_key_of job.key (best_want (replay journal)) ≡ false =
    ap (λ ws. is_key_of job.key (best (replay journal).order ws)) i.none_left in
    cc

pub taken_desk : (library : Option Library) (old new : Engine) (job : Job)
    (begun jobs idle ended : ℕ) (stop : Option Stop)
    → IsDesk (record {
      engine = old;
      library = library;
      begun = begun;
      jobs = jobs;
      idle = idle;
      ended = ended;
      stop = stop;
    })
    → (replay old.journal).flying ≡ [] → IsBestJob old.journal 0 job
    → new.journal ≡ old.journal ++ Taken 0 job.key ∷ [] → new.room ≡ old.room
    → IsDesk (record {
      engine = new;
      library = library;
      begun = begun;
      jobs = jobs + 1;
      idle = idle;
      ended = ended;
      stop = stop;
    })
taken_desk library old new job begun jobs idle ended stop d none b is room =
    let e = Taken 0 job.key in
    let v = d.served in
    let long : length new.journal ≡ length old.journal + 1 =
    ap length is ∙ length-append old.journal (e ∷ []) in
    record {
      served = served_on library old new e v is (record {
        is_opened = v.is_opened;
        is_open = v.is_open;
        flights = subst (λ fs. IsOneAtMost (fs ++ record { key = job.key; pass = 0 } ∷ []))
            (sym none) refl;
        agrees = tt;
        latest = v.latest ∙ ap latest_count (sym (counts_none old.journal));
      });
      loaded = λ h. loaded_more begun old.journal new.journal e (d.loaded h) is refl;
      few_jobs = omega (arith, d.few_jobs);
      settled = λ h. absurd (not_idle old.journal job b (d.settled h));
      stopped = d.stopped;
      truly = stopped_later old new e stop room is d.truly;
    }

-- the job that is out from then on
pub taken_is_out : (old new : Engine) (job : Job) → (replay old.journal).flying ≡ []
    → IsBestJob old.journal 0 job → new.journal ≡ old.journal ++ Taken 0 job.key ∷ []
    → job_of (replay new.journal).flying ≡ Some job
taken_is_out old new job none b is =
    ap (λ j. job_of (replay j).flying) is
    ∙ ap (λ s. job_of s.flying) (replay_more old.journal (Taken 0 job.key))
    ∙ ap (λ fs. job_of (fs ++ record { key = job.key; pass = 0 } ∷ [])) none
    ∙ ap (λ limit. Some (record { key = job.key; limit = limit; pass = 0 })) (sym b.limit)
    ∙ ap (λ pass. Some (record { key = job.key; limit = job.limit; pass = pass })) (sym b.own_pass)
