-- Documents and contents that a source refuses.
use Rattle.std.proofs.Common.{◌≡◌, ℕ, Some, None, Result, Ok, Err, IfErr, IfOk, IfSome, List, inl, inr, subst, sym}
use Rattle.tile_types.specs.declared.key.Key.{Key}
use Rattle.source_port.specs.Counts.{next_count}
use Rattle.source_port.specs.Fetches.{Answers, CountsFetch, RisesAtFailure}
use Rattle.source_port.specs.declared.source.FetchError.{FetchError}
use Rattle.source_port.specs.declared.source.FetchError.TheVariants.{Missing, TooLong, Failed, OutOfMemory}
use Rattle.doc_store.specs.Store.{IsOpened, Stored}
use Rattle.doc_store.specs.declared.limits.TheConstants.{DOCUMENT_LIMIT}
use Rattle.content_digest.specs.declared.limits.TheConstants.{CONTENT_LIMIT}
use Rattle.stream_cli.specs.Causes.{load_cause, root_cause}
use Rattle.stream_cli.specs.Contents.{GivesContent}
use Rattle.stream_cli.specs.Loading.{IsFetched, IsGone, Opens}
use Rattle.stream_cli.specs.Steps.{IsLoadCause, IsOpenCause, IsReadCause}
use Rattle.stream_cli.specs.declared.cause.Cause.{Cause}
use Rattle.stream_cli.specs.declared.cause.Cause.TheVariants as cause
use Rattle.stream_cli.proofs.Loads.{SourceSide, run_between}

-- ---- what is absent

-- a further document that isn't fetched, and that is absent
pub record IsAbsence (s t : SourceSide) (store : Stored) (key : Key) : Type 0 where
  pub why : IsGone s.library store key
  pub faults : t.faults ≡ s.faults
  pub fetches : t.fetches ≡ next_count s.fetches

pub load_absent : (error : FetchError) (s t : SourceSide) (store : Stored) (key : Key)
    (bytes : List ℕ) (count : ℕ)
    → Answers (Err error) s.library key.address DOCUMENT_LIMIT bytes
    → RisesAtFailure (Err error) s.faults t.faults → CountsFetch (Err error) s.fetches t.fetches
    → load_cause error count ≡ None → IsAbsence s t store key
load_absent Missing s t store key bytes count answer rises counts e =
    record { why = inl answer; faults = rises; fetches = counts }
load_absent TooLong s t store key bytes count answer rises counts e =
    record { why = inr (inl answer); faults = rises; fetches = counts }
load_absent Failed s t store key bytes count answer rises counts e = cc
load_absent OutOfMemory s t store key bytes count answer rises counts e = cc

-- a content that isn't fetched, and that is absent
pub record IsNoContent (s t : SourceSide) (address : List ℕ) : Type 0 where
  pub given : GivesContent s.library address None
  pub faults : t.faults ≡ s.faults
  pub fetches : t.fetches ≡ next_count s.fetches

pub content_absent : (error : FetchError) (s t : SourceSide) (address bytes : List ℕ) (count : ℕ)
    → Answers (Err error) s.library address CONTENT_LIMIT bytes
    → RisesAtFailure (Err error) s.faults t.faults → CountsFetch (Err error) s.fetches t.fetches
    → load_cause error count ≡ None → IsNoContent s t address
content_absent Missing s t address bytes count answer rises counts e =
    record { given = inl answer; faults = rises; fetches = counts }
content_absent TooLong s t address bytes count answer rises counts e =
    record { given = inr answer; faults = rises; fetches = counts }
content_absent Failed s t address bytes count answer rises counts e = cc
content_absent OutOfMemory s t address bytes count answer rises counts e = cc

-- ---- what ends a run

-- why the fetch of a further document or of a content ends it
stops : (error : FetchError) (s t : SourceSide) (count : ℕ)
    → RisesAtFailure (Err error) s.faults t.faults → CountsFetch (Err error) s.fetches t.fetches
    → count ≡ t.faults → IfSome (load_cause error count) (IsLoadCause (run_between s t))
stops Missing s t count rises counts counted = tt
stops TooLong s t count rises counts counted = tt
stops Failed s t count rises counts counted = record {
  asked = 0;
  fetches = counts;
  risen = record { counted = counted; risen = rises.0 };
}
stops OutOfMemory s t count rises counts counted = rises

pub load_stops : (error : FetchError) (s t : SourceSide) (count : ℕ) (why : Cause)
    → RisesAtFailure (Err error) s.faults t.faults → CountsFetch (Err error) s.fetches t.fetches
    → count ≡ t.faults → load_cause error count ≡ Some why → IsLoadCause (run_between s t) why
load_stops error s t count why rises counts counted e =
    subst (λ it. IfSome it (IsLoadCause (run_between s t))) e
    (stops error s t count rises counts counted)

-- only want of memory ends it behind a fetch
pub memory_stops : {T : Type 0} (result : Result T Cause) (s t : SourceSide)
    → IfErr result (λ why. why ≡ cause.Memory) → t.faults ≡ s.faults
    → IfErr result (IsLoadCause (run_between s t))
memory_stops (Ok x) s t memory unfailed = tt
memory_stops (Err why) s t memory unfailed =
    subst (IsLoadCause (run_between s t)) (sym memory) unfailed

-- why the fetch of the root document ends it
pub root_stops : (error : FetchError) (s t : SourceSide) (root bytes : List ℕ) (count : ℕ)
    → Answers (Err error) s.library root DOCUMENT_LIMIT bytes
    → RisesAtFailure (Err error) s.faults t.faults → CountsFetch (Err error) s.fetches t.fetches
    → count ≡ t.faults → IsOpenCause root (run_between s t) (root_cause error count)
root_stops Missing s t root bytes count answer rises counts counted =
    record { lacks = answer; fetches = counts; unfailed = rises }
root_stops TooLong s t root bytes count answer rises counts counted =
    record { lacks = answer; fetches = counts; unfailed = rises }
root_stops Failed s t root bytes count answer rises counts counted = record {
  asked = 0;
  fetches = counts;
  risen = record { counted = counted; risen = rises.0 };
}
root_stops OutOfMemory s t root bytes count answer rises counts counted =
    record { unfailed = rises; reached = inl counts }

-- why a root document that was fetched gives no store
read_stop : (root bytes : List ℕ) (s t : SourceSide) → IsFetched s.library root bytes
    → t.fetches ≡ next_count s.fetches → t.faults ≡ s.faults → (why : Cause)
    → IsReadCause root bytes why → IsOpenCause root (run_between s t) why
read_stop root bytes s t fetched counts unfailed cause.Done read = absurd read
read_stop root bytes s t fetched counts unfailed cause.Words read = absurd read
read_stop root bytes s t fetched counts unfailed (cause.Document error) read = record {
  bytes = bytes;
  fetched = fetched;
  refused = read;
  fetches = counts;
  unfailed = unfailed;
}
read_stop root bytes s t fetched counts unfailed (cause.Schema error) read = absurd read
read_stop root bytes s t fetched counts unfailed (cause.Source count) read = absurd read
read_stop root bytes s t fetched counts unfailed (cause.Out count) read = absurd read
read_stop root bytes s t fetched counts unfailed cause.Memory read =
    record { unfailed = unfailed; reached = inr (record { bytes = bytes; fetched = fetched }) }
read_stop root bytes s t fetched counts unfailed (cause.RootAbsent why) read = absurd read
read_stop root bytes s t fetched counts unfailed cause.Tiles read = absurd read
read_stop root bytes s t fetched counts unfailed cause.Listing read = absurd read

pub read_stops : {T : Type 0} (result : Result T Cause) (root bytes : List ℕ) (s t : SourceSide)
    → IsFetched s.library root bytes → t.fetches ≡ next_count s.fetches → t.faults ≡ s.faults
    → IfErr result (λ why. IsReadCause root bytes why)
    → IfErr result (IsOpenCause root (run_between s t))
read_stops (Ok x) root bytes s t fetched counts unfailed read = tt
read_stops (Err why) root bytes s t fetched counts unfailed read =
    read_stop root bytes s t fetched counts unfailed why read

-- where a root document that was fetched gives a store
pub read_opens : (result : Result Stored Cause) (root bytes : List ℕ) (s t : SourceSide)
    → IsFetched s.library root bytes → t.fetches ≡ next_count s.fetches → t.faults ≡ s.faults
    → IfOk result (λ store. IsOpened store root bytes)
    → IfOk result (Opens root (run_between s t))
read_opens (Ok store) root bytes s t fetched counts unfailed opened = record {
  bytes = bytes;
  alone = opened.alone;
  fetched = fetched;
  fetches = counts;
  unfailed = unfailed;
}
read_opens (Err why) root bytes s t fetched counts unfailed opened = tt
