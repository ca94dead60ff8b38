-- An engine stays served, whatever pass 0 calls but for loads.
use Rattle.std.specs.Prelude.{IfErr, IfOk, OnErr, OnOk, if◌then◌else◌}
use Rattle.std.proofs.Common.{ℕ, ◌≡◌, ◌+◌, Bool, true, false, Option, None, Result, Ok, Err, List, [], ◌∷◌, ◌++◌, sym, ◌∙◌, ap, subst, arith}
use Rattle.std.proofs.lemmas.List.{append-nil}
use Rattle.source_port.specs.Library.{Library}
use Rattle.error_test.specs.Views.{ViewParts}
use Rattle.frame_pins.specs.Frames.{FrameParts}
use Rattle.frame_pins.specs.declared.why.Why.{Why}
use Rattle.loader_gate.specs.Outcomes.{latest_count}
use Rattle.engine_state.specs.declared.entry.Entry.{Entry}
use Rattle.engine_state.specs.declared.entry.Entry.TheVariants.{Closed, Looked, LookRefused, Returned, Retried}
use Rattle.engine_state.specs.After.{after}
use Rattle.engine_state.specs.Agreement.{Agrees, AgreesAt}
use Rattle.engine_state.specs.Allowed.{last_count}
use Rattle.engine_state.specs.Journal.{replay}
use Rattle.engine_core.specs.declared.error.LookError.{LookError}
use Rattle.engine_core.specs.declared.error.LookError.TheVariants as look
use Rattle.engine_core.specs.Engine.{Engine}
use Rattle.engine_core.specs.Looking.{RefusesLook, RefusesSettled, looked}
use Rattle.session_run.specs.Desks.{HasStopped, IsDesk, IsOneAtMost, IsServed}
use Rattle.session_run.specs.declared.stop.Stop.{Stop}
use Rattle.session_run.specs.Loading.{count_in, counts_in}
use Rattle.session_run.proofs.Journals.{agrees_more, counts_more, replay_more}

-- what an entry has to leave
pub record Serves (library : Option Library) (old : List Entry) (e : Entry) : Type 0 where
  pub is_opened : (after (replay old) e).opened ≡ true
  pub is_open : (after (replay old) e).closed ≡ false
  pub flights : IsOneAtMost (after (replay old) e).flying
  pub agrees : AgreesAt library (replay old) e
  pub latest : last_count (after (replay old) e).faults 0 ≡ latest_count (counts_in old ++ count_in e)

pub served_on : (library : Option Library) (old new : Engine) (e : Entry)
    → IsServed library old → new.journal ≡ old.journal ++ e ∷ [] → Serves library old.journal e
    → IsServed library new
served_on library old new e v is s =
    let state : replay new.journal ≡ after (replay old.journal) e =
    ap replay is ∙ replay_more old.journal e in
    record {
      is_opened = ap (λ s. s.opened) state ∙ s.is_opened;
      is_open = ap (λ s. s.closed) state ∙ s.is_open;
      flights = subst IsOneAtMost (sym (ap (λ s. s.flying) state)) s.flights;
      agrees = subst (Agrees library) (sym is) (agrees_more library old.journal e v.agrees s.agrees);
      latest = ap (λ s. last_count s.faults 0) state ∙ s.latest
          ∙ ap latest_count (sym (counts_more old.journal e)) ∙ ap (λ j. latest_count (counts_in j)) (sym is);
    }

pub counts_none : (old : List Entry) → counts_in old ++ [] ≡ counts_in old
counts_none old = append-nil (counts_in old)

-- a journal that stays
pub served_still : (library : Option Library) (old new : Engine) → IsServed library old
    → new.journal ≡ old.journal → IsServed library new
served_still library old new v is =
    let state : replay new.journal ≡ replay old.journal = ap replay is in
    record {
      is_opened = ap (λ s. s.opened) state ∙ v.is_opened;
      is_open = ap (λ s. s.closed) state ∙ v.is_open;
      flights = subst IsOneAtMost (sym (ap (λ s. s.flying) state)) v.flights;
      agrees = subst (Agrees library) (sym is) v.agrees;
      latest = ap (λ s. last_count s.faults 0) state ∙ v.latest
          ∙ ap (λ j. latest_count (counts_in j)) (sym is);
    }

module _ (library : Option Library) (old new : Engine) (v : IsServed library old) where
  looked_serves : (pass id viewer : ℕ) (view : ViewParts) (settled : Bool)
      → new.journal ≡ old.journal ++ Looked pass id viewer view settled ∷ [] → IsServed library new
  looked_serves pass id viewer view settled is =
      served_on library old new (Looked pass id viewer view settled) v is
      (record {
        is_opened = v.is_opened;
        is_open = v.is_open;
        flights = v.flights;
        agrees = tt;
        latest = v.latest ∙ ap latest_count (sym (counts_none old.journal));
      })

  refused_serves : (pass viewer : ℕ) (view : ViewParts) (settled : Bool) (why : Why)
      → new.journal ≡ old.journal ++ LookRefused pass viewer view settled why ∷ []
      → IsServed library new
  refused_serves pass viewer view settled why is =
      served_on library old new (LookRefused pass viewer view settled why) v is
      (record {
        is_opened = v.is_opened;
        is_open = v.is_open;
        flights = v.flights;
        agrees = tt;
        latest = v.latest ∙ ap latest_count (sym (counts_none old.journal));
      })

  pub returned_serves : (pass id : ℕ) → new.journal ≡ old.journal ++ Returned pass id ∷ []
      → IsServed library new
  returned_serves pass id is =
      served_on library old new (Returned pass id) v is
      (record {
        is_opened = v.is_opened;
        is_open = v.is_open;
        flights = v.flights;
        agrees = tt;
        latest = v.latest ∙ ap latest_count (sym (counts_none old.journal));
      })

  pub retried_serves : {A B : Type 0} (result : Result A B) (pass : ℕ)
      → OnOk result (new.journal ≡ old.journal ++ Retried pass ∷ [])
      → OnErr result (new ≡ old) → IsServed library new
  retried_serves (Ok done) pass is same =
      served_on library old new (Retried pass) v is
      (record {
        is_opened = v.is_opened;
        is_open = v.is_open;
        flights = v.flights;
        agrees = tt;
        latest = v.latest ∙ ap latest_count (sym (counts_none old.journal));
      })
  retried_serves (Err e) pass is same = subst (IsServed library) (sym same) v

  pub look_serves : (result : Result FrameParts LookError) (pass viewer : ℕ) (view : ViewParts)
      → OnOk result (new.journal ≡ old.journal
      ++ looked old.journal pass viewer view false ∷ [])
      → IfErr result (RefusesLook old.journal new.journal old.room pass viewer view)
      → IsServed library new
  look_serves (Ok frame) pass viewer view is r =
      looked_serves pass ((replay old.journal).looks + 1) viewer view false is
  look_serves (Err look.Closed) pass viewer view is r = served_still library old new v r.1
  look_serves (Err (look.JournalFull entries)) pass viewer view is r =
      served_still library old new v r.1
  look_serves (Err (look.Refused why)) pass viewer view is r =
      refused_serves pass viewer view false why r.2
  look_serves (Err look.OutOfMemory) pass viewer view is r = served_still library old new v r.1
  look_serves (Err (look.NoView entries)) pass viewer view is r = absurd r
  look_serves (Err (look.NotSettled entries flying left)) pass viewer view is r = absurd r

  pub look_again_serves : (result : Result FrameParts LookError) (pass viewer : ℕ)
      → IfOk result (λ frame. new.journal ≡ old.journal
      ++ looked old.journal pass viewer frame.view true ∷ [])
      → IfErr result (RefusesSettled old.journal new.journal old.room pass viewer)
      → IsServed library new
  look_again_serves (Ok frame) pass viewer is r =
      looked_serves pass ((replay old.journal).looks + 1) viewer frame.view true is
  look_again_serves (Err look.Closed) pass viewer is r = served_still library old new v r.1
  look_again_serves (Err (look.JournalFull entries)) pass viewer is r =
      served_still library old new v r.1
  look_again_serves (Err (look.Refused why)) pass viewer is r =
      refused_serves pass viewer r.view true why r.noted
  look_again_serves (Err look.OutOfMemory) pass viewer is r = served_still library old new v r.1
  look_again_serves (Err (look.NoView entries)) pass viewer is r = served_still library old new v r.3
  look_again_serves (Err (look.NotSettled entries flying left)) pass viewer is r =
      served_still library old new v r.1

-- ---- desks

-- a desk without loads stands for whatever engine is served
pub paused_desk : (library : Option Library) (engine : Engine) (begun jobs idle ended : ℕ)
    (stop : Option Stop) → begun ≡ 0 → jobs ≡ 0 → idle ≡ 0 → ended ≡ 0 → stop ≡ None
    → IsServed library engine
    → IsDesk (record {
      engine = engine;
      library = library;
      begun = begun;
      jobs = jobs;
      idle = idle;
      ended = ended;
      stop = stop;
    })
paused_desk library engine begun jobs idle ended stop b j i e s v = record {
  served = v;
  loaded = λ h. absurd (omega (arith, h, b));
  few_jobs = omega (arith, j);
  settled = λ h. absurd (omega (arith, h, i));
  stopped = λ h. absurd (omega (arith, h, e));
  truly = subst (HasStopped engine) (sym s) tt;
}

-- a journal that was closed agrees with the library too
pub closed_agrees : (library : Option Library) (old : Engine) (new : List Entry) (pass : ℕ)
    → IsServed library old
    → new ≡ (if (replay old.journal).closed then old.journal else old.journal ++ Closed pass ∷ [])
    → Agrees library new
closed_agrees library old new pass v is =
    subst (Agrees library)
    (sym (is ∙ ap (λ b. if b then old.journal else old.journal ++ Closed pass ∷ []) v.is_open))
    (agrees_more library old.journal (Closed pass) v.agrees tt)
