-- What is true of an outcome that a fetch is delivered as.
use Rattle.std.specs.Prelude.{if◌then◌else◌, Ok, Err}
use Rattle.std.proofs.Common.{ℕ, ◌≡◌, ◌∙◌, ◌≤◌, Bool, true, false, nat_lt, inl, inr, List, [], ◌∷◌, Option, refl, sym, subst, ap, arith, ltb-true}
use Rattle.tile_types.specs.declared.job.Job.{Job}
use Rattle.source_port.specs.declared.source.FetchError.TheVariants as fetch
use Rattle.source_port.specs.Counts.{Counts}
use Rattle.source_port.specs.Fetches.{Answers, CountsFetch, Fetched, RisesAtFailure}
use Rattle.source_port.specs.Library.{Library}
use Rattle.loader_gate.specs.declared.outcome.Outcome.{Outcome}
use Rattle.loader_gate.specs.declared.outcome.Outcome.TheVariants.{Failed, Starved}
use Rattle.loader_gate.specs.Loads.{FetchesOnce}
use Rattle.loader_gate.specs.Outcomes.{IsAbove, IsDeliveredAs, IsLoaded, IsTrueOf, IsWithin, counts_of, risen_count}

-- ---- the bytes, and what the library has

failure_within : (limit : ℕ) (b : Bool) (count : ℕ)
    → IsWithin limit (if b then Failed count else Starved)
failure_within limit true count = tt
failure_within limit false count = tt

failure_true : (library : Option Library) (job : Job) (b : Bool) (count : ℕ)
    → IsTrueOf library job (if b then Failed count else Starved)
failure_true library job true count = tt
failure_true library job false count = tt

by_answer : (library : Option Library) (job : Job) (answer : Fetched) (bytes : List ℕ)
    (old new : ℕ) (outcome : Outcome)
    → Answers answer library job.key.address job.limit bytes
    → IsDeliveredAs answer bytes old new outcome
    → IsWithin job.limit outcome × IsTrueOf library job outcome
by_answer library job (Ok done) bytes old new outcome a (inl is) =
    subst (λ (o : Outcome). IsWithin job.limit o × IsTrueOf library job o) (sym is) (a.1, a.0)
by_answer library job (Ok done) bytes old new outcome a (inr is) =
    subst (λ (o : Outcome). IsWithin job.limit o × IsTrueOf library job o) (sym is.1) (tt, tt)
by_answer library job (Err fetch.Missing) bytes old new outcome a is =
    subst (λ (o : Outcome). IsWithin job.limit o × IsTrueOf library job o) (sym is) (tt, a)
by_answer library job (Err fetch.TooLong) bytes old new outcome a is =
    subst (λ (o : Outcome). IsWithin job.limit o × IsTrueOf library job o) (sym is) (tt, a)
by_answer library job (Err fetch.Failed) bytes old new outcome a is =
    subst (λ (o : Outcome). IsWithin job.limit o × IsTrueOf library job o) (sym is)
    (failure_within job.limit (nat_lt old new) new, failure_true library job (nat_lt old new) new)
by_answer library job (Err fetch.OutOfMemory) bytes old new outcome a is =
    subst (λ (o : Outcome). IsWithin job.limit o × IsTrueOf library job o) (sym is) (tt, tt)

pub loaded_within : (library : Option Library) (job : Job) (old new : Counts) (outcome : Outcome)
    → IsLoaded library job old new outcome → IsWithin job.limit outcome
loaded_within library job old new outcome l =
    (by_answer library job l.answer l.bytes old.faults new.faults outcome l.answers l.delivered).0

pub loaded_true : (library : Option Library) (job : Job) (old new : Counts) (outcome : Outcome)
    → IsLoaded library job old new outcome → IsTrueOf library job outcome
loaded_true library job old new outcome l =
    (by_answer library job l.answer l.bytes old.faults new.faults outcome l.answers l.delivered).1

-- ---- counts

none_risen : (old new : ℕ) → new ≡ old → risen_count old new ≡ []
none_risen old new e = grind arith

failure_told : (old new : ℕ) (b : Bool) → counts_of (if b then Failed new else Starved)
    ≡ (if b then new ∷ [] else [])
failure_told old new true = refl
failure_told old new false = refl

failure_above : (latest old new : ℕ) → latest ≤ old → (b : Bool) → nat_lt old new ≡ b
    → IsAbove latest (if b then Failed new else Starved)
failure_above latest old new h true e = let below = ltb-true old new e in omega arith
failure_above latest old new h false e = tt

same_count : (old new : ℕ) (outcome : Outcome) → new ≡ old → counts_of outcome ≡ []
    → counts_of outcome ≡ risen_count old new
same_count old new outcome e none = none ∙ sym (none_risen old new e)

told_by : (answer : Fetched) (bytes : List ℕ) (old new : ℕ) (outcome : Outcome)
    → RisesAtFailure answer old new → IsDeliveredAs answer bytes old new outcome
    → counts_of outcome ≡ risen_count old new
told_by (Ok done) bytes old new outcome r (inl is) = same_count old new outcome r (ap counts_of is)
told_by (Ok done) bytes old new outcome r (inr is) = same_count old new outcome r (ap counts_of is.1)
told_by (Err fetch.Missing) bytes old new outcome r is = same_count old new outcome r (ap counts_of is)
told_by (Err fetch.TooLong) bytes old new outcome r is = same_count old new outcome r (ap counts_of is)
told_by (Err fetch.Failed) bytes old new outcome r is =
    ap counts_of is ∙ failure_told old new (nat_lt old new)
told_by (Err fetch.OutOfMemory) bytes old new outcome r is =
    same_count old new outcome r (ap counts_of is)

-- a count is told exactly where the source's rose
pub loaded_told : (library : Option Library) (job : Job) (old new : Counts) (outcome : Outcome)
    → IsLoaded library job old new outcome
    → counts_of outcome ≡ risen_count old.faults new.faults
loaded_told library job old new outcome l =
    told_by l.answer l.bytes old.faults new.faults outcome l.faults l.delivered

above_by : (answer : Fetched) (bytes : List ℕ) (latest old new : ℕ) (outcome : Outcome)
    → latest ≤ old → IsDeliveredAs answer bytes old new outcome → IsAbove latest outcome
above_by (Ok done) bytes latest old new outcome h (inl is) = subst (IsAbove latest) (sym is) tt
above_by (Ok done) bytes latest old new outcome h (inr is) = subst (IsAbove latest) (sym is.1) tt
above_by (Err fetch.Missing) bytes latest old new outcome h is = subst (IsAbove latest) (sym is) tt
above_by (Err fetch.TooLong) bytes latest old new outcome h is = subst (IsAbove latest) (sym is) tt
above_by (Err fetch.Failed) bytes latest old new outcome h is =
    subst (IsAbove latest) (sym is) (failure_above latest old new h (nat_lt old new) refl)
above_by (Err fetch.OutOfMemory) bytes latest old new outcome h is =
    subst (IsAbove latest) (sym is) tt

pub loaded_above : (library : Option Library) (job : Job) (old new : Counts) (outcome : Outcome)
    (latest : ℕ) → latest ≤ old.faults → IsLoaded library job old new outcome
    → IsAbove latest outcome
loaded_above library job old new outcome latest h l =
    above_by l.answer l.bytes latest old.faults new.faults outcome h l.delivered

rises_by : (answer : Fetched) (old new : ℕ) → RisesAtFailure answer old new → old ≤ new
rises_by (Ok done) old new r = omega arith
rises_by (Err fetch.Missing) old new r = omega arith
rises_by (Err fetch.TooLong) old new r = omega arith
rises_by (Err fetch.Failed) old new r = r.1
rises_by (Err fetch.OutOfMemory) old new r = omega arith

pub loaded_rises : (library : Option Library) (job : Job) (old new : Counts) (outcome : Outcome)
    → IsLoaded library job old new outcome → old.faults ≤ new.faults
loaded_rises library job old new outcome l = rises_by l.answer old.faults new.faults l.faults

once_by : (answer : Fetched) (old new : ℕ) → CountsFetch answer old new → FetchesOnce old new
once_by (Ok done) old new r = inr r
once_by (Err fetch.Missing) old new r = inr r
once_by (Err fetch.TooLong) old new r = inr r
once_by (Err fetch.Failed) old new r = inr r
once_by (Err fetch.OutOfMemory) old new r = inl r

pub loaded_once : (library : Option Library) (job : Job) (old new : Counts) (outcome : Outcome)
    → IsLoaded library job old new outcome → FetchesOnce old.calls new.calls
loaded_once library job old new outcome l = once_by l.answer old.calls new.calls l.calls
