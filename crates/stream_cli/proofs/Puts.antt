-- Lines that are put one by one.
use Rattle.std.proofs.Common.{◌≡◌, ℕ, zero, suc, ◌+◌, ◌<◌, ◌≤◌, List, [], ◌∷◌, ◌++◌, length, map, take, drop}
use Rattle.std.proofs.Common.{Option, Some, None, Ok, Err, refl, sym, ap, ◌∙◌, add-one, append-nil, append_assoc, get_or}
use Rattle.std.proofs.Common.{arith, length-append, subst}
use Rattle.std.proofs.lemmas.List.{length-map, take_all}
use Rattle.std.proofs.lemmas.Option.{get_or_from_slice_get, slice_get-get_or}
use Rattle.std.specs.List.{flat_map}
use Rattle.std.specs.Io.KnownBytes.{Appends, Keeps}
use Rattle.source_port.specs.Counts.{count_after, next_count}
use Rattle.source_port.specs.Puts.{AppendsPrefix, Put, RisesAtFailure, Writes}
use Rattle.source_port.specs.declared.sink.PutError.{PutError}
use Rattle.source_port.specs.declared.sink.PutError.TheVariants.{SinkFailed, OutOfMemory}
use Rattle.stream_cli.specs.Printing.{GainsLines, IsPrintCause, IsPrinted, PutsLines}
use Rattle.stream_cli.specs.Report.{joined}
use Rattle.stream_cli.specs.Sides.{OutRun}
use Rattle.stream_cli.specs.declared.cause.Cause.{Cause}
use Rattle.cut_core.proofs.Lists.{flat_taken}
use Rattle.stream_cli.proofs.Counting.{counts_behind, later_risen}
use Rattle.stream_cli.proofs.Prefixes.{appends_both, appends_nothing, flat_map_at, stopped_before, stopped_within, front_of_more, front_behind}

pub joined_map : {A : Type 0} (f : A → List ℕ) (xs : List A) → joined (map f xs) ≡ flat_map f xs
joined_map f [] = refl
joined_map f (x ∷ xs) = ap (λ (text : List ℕ). f x ++ text) (joined_map f xs)

-- one call more
pub counts_on : (calls count : ℕ)
    → next_count (count_after calls count) ≡ count_after (calls + 1) count
counts_on calls count = ap (λ n. count_after n count) (sym (add-one calls))

-- a call, and then the others
pub counts_first : (calls count : ℕ)
    → count_after calls (next_count count) ≡ count_after (suc calls) count
counts_first zero count = refl
counts_first (suc calls) count = ap next_count (counts_first calls count)

-- ---- what was put where the putting of lines stops

-- an output at one time, as far as it tells
pub record OutSide : Type 0 where
  pub held : Option (List ℕ)
  pub faults : ℕ
  pub puts : ℕ

abbrev pub side_at : {W : Type 0} → (W → Option (List ℕ)) → (W → ℕ) → (W → ℕ) → W → OutSide
side_at written faults puts out = record {
  held = written out;
  faults = faults out;
  puts = puts out;
}

abbrev pub between : OutSide → OutSide → OutRun
between old new = record {
  held = old.held;
  holds = new.held;
  faults = record { before = old.faults; after = new.faults };
  puts = record { before = old.puts; after = new.puts };
}

-- an output that is as it was gained a prefix of anything
kept : (a b : Option (List ℕ)) (text : List ℕ) → Keeps a b → AppendsPrefix a b text
kept None b text h = record { front = []; rest = text; parts = refl; appended = tt }
kept (Some xs) None text h = absurd h
kept (Some xs) (Some ys) text h =
    record { front = []; rest = text; parts = refl; appended = h ∙ sym (append-nil xs) }

module _ {A : Type 0} (f : A → List ℕ) (xs : List A) where
  -- before a line
  pub stops_before : (i : ℕ) (a b : Option (List ℕ)) → Appends a b (flat_map f (take i xs))
      → AppendsPrefix a b (joined (map f xs))
  stops_before i a b h = rw (joined_map f xs) (stopped_before f xs i a b h)

  -- behind the last line
  pub puts_all : (i : ℕ) (a b : Option (List ℕ)) (before after : ℕ) → length xs ≤ i → i ≤ length xs
      → Appends a b (flat_map f (take i xs)) → after ≡ count_after i before
      → Appends a b (joined (map f xs)) × (after ≡ count_after (length (map f xs)) before)
  puts_all i a b before after most least put counted =
      let all : take i xs ≡ xs = take_all i xs most in
      let same : length (map f xs) ≡ i = length-map xs f ∙ omega (arith, most, least) in
      (rw (joined_map f xs, ← all) put, rw same counted)

  -- within a line, where a prefix of it was put
  stops_within : (i : ℕ) (x : A) (a b c : Option (List ℕ)) → i < length xs → x ≡ get_or xs i x
      → Appends a b (flat_map f (take i xs)) → AppendsPrefix b c (f x)
      → AppendsPrefix a c (joined (map f xs))
  stops_within i x a b c h e put front =
      rw (joined_map f xs) (stopped_within f xs i x a b c h e put front)

  -- at a put that fails
  pub stops_at : (cause : PutError) (i : ℕ) (x : A) (start now new : OutSide) → i < length xs
      → x ≡ get_or xs i x
      → Appends start.held now.held (flat_map f (take i xs)) → now.faults ≡ start.faults
      → Writes (Err cause) now.held new.held (f x)
      → RisesAtFailure (Err cause) now.faults new.faults
      → PutsLines (Err cause) (between start new) (map f xs)
  stops_at SinkFailed i x start now new h e put before wrote rises = (
    later_risen start.faults now.faults new.faults before rises.0,
    stops_within i x start.held now.held new.held h e put wrote,
  )
  stops_at OutOfMemory i x start now new h e put before wrote rises = (
    rises ∙ before,
    stops_within i x start.held now.held new.held h e put (kept now.held new.held (f x) wrote),
  )

-- ---- a line, and then the others

-- where the first put fails
pub stops_first : (cause : PutError) (line : List ℕ) (lines : List (List ℕ)) (old new : OutSide)
    → Writes (Err cause) old.held new.held line → RisesAtFailure (Err cause) old.faults new.faults
    → PutsLines (Err cause) (between old new) (line ∷ lines)
stops_first SinkFailed line lines old new wrote rises =
    (rises.0, front_of_more old.held new.held line (joined lines) wrote)
stops_first OutOfMemory line lines old new wrote rises =
    (rises, kept old.held new.held (line ++ joined lines) wrote)

-- where the first was put
pub then_others : (result : Put) (line : List ℕ) (lines : List (List ℕ)) (old now new : OutSide)
    → Appends old.held now.held line → now.faults ≡ old.faults → now.puts ≡ next_count old.puts
    → PutsLines result (between now new) lines → PutsLines result (between old new) (line ∷ lines)
then_others (Ok done) line lines old now new put before counted rest = record {
  gained = appends_both old.held now.held new.held line (joined lines) put rest.gained;
  puts =
      rest.puts ∙ ap (count_after (length lines)) counted ∙ counts_first (length lines) old.puts;
  unfailed = rest.unfailed ∙ before;
}
then_others (Err SinkFailed) line lines old now new put before counted rest = (
  later_risen old.faults now.faults new.faults before rest.0,
  front_behind old.held now.held new.held line (joined lines) put rest.1,
)
then_others (Err OutOfMemory) line lines old now new put before counted rest = (
  rest.0 ∙ before,
  front_behind old.held now.held new.held line (joined lines) put rest.1,
)

-- ---- some lines, and then others

pub joined-append : (xs ys : List (List ℕ)) → joined (xs ++ ys) ≡ joined xs ++ joined ys
joined-append [] ys = refl
joined-append (x ∷ xs) ys =
    ap (λ text. x ++ text) (joined-append xs ys) ∙ sym (append_assoc x (joined xs) (joined ys))

pub puts_nothing : (side : OutSide) → GainsLines (between side side) []
puts_nothing side = record { gained = appends_nothing side.held; puts = refl; unfailed = refl }

-- one line
pub one_put : (line : List ℕ) (old now : OutSide) → Appends old.held now.held line
    → now.faults ≡ old.faults → now.puts ≡ next_count old.puts
    → GainsLines (between old now) (line ∷ [])
one_put line old now put unfailed counted =
    then_others (Ok tt) line [] old now now put unfailed counted (puts_nothing now)

pub puts_then : (result : Put) (xs ys : List (List ℕ)) (old now new : OutSide)
    → GainsLines (between old now) xs
    → PutsLines result (between now new) ys → PutsLines result (between old new) (xs ++ ys)
puts_then (Ok done) xs ys old now new first rest = record {
  gained =
      rw (joined-append xs ys)
      (appends_both old.held now.held new.held (joined xs) (joined ys) first.gained rest.gained);
  puts =
      counts_behind (length xs) (length ys) old.puts now.puts new.puts first.puts rest.puts
      ∙ ap (λ n. count_after n old.puts) (sym (length-append xs ys));
  unfailed = rest.unfailed ∙ first.unfailed;
}
puts_then (Err SinkFailed) xs ys old now new first rest = (
  later_risen old.faults now.faults new.faults first.unfailed rest.0,
  rw (joined-append xs ys)
      (front_behind old.held now.held new.held (joined xs) (joined ys) first.gained rest.1),
)
puts_then (Err OutOfMemory) xs ys old now new first rest = (
  rest.0 ∙ first.unfailed,
  rw (joined-append xs ys)
      (front_behind old.held now.held new.held (joined xs) (joined ys) first.gained rest.1),
)

-- where putting some lines stops, others aren't put
pub stops_early : (cause : PutError) (xs ys : List (List ℕ)) (out : OutRun)
    → PutsLines (Err cause) out xs → PutsLines (Err cause) out (xs ++ ys)
stops_early SinkFailed xs ys out stops = (
  stops.0,
  rw (joined-append xs ys) (front_of_more out.held out.holds (joined xs) (joined ys) stops.1),
)
stops_early OutOfMemory xs ys out stops = (
  stops.0,
  rw (joined-append xs ys) (front_of_more out.held out.holds (joined xs) (joined ys) stops.1),
)

-- ---- the lines of each of a list

flat_map_next : {A B : Type 0} (f : A → List B) (xs : List A) (i : ℕ) (x : A) → i < length xs
    → x ≡ get_or xs i x → flat_map f (take (i + 1) xs) ≡ flat_map f (take i xs) ++ f x
flat_map_next f xs i x h e =
    flat_taken f xs i x (slice_get-get_or xs i x h ∙ ap Some (sym e))

module _ {A : Type 0} (f : A → List (List ℕ)) (xs : List A) where
  -- those of one more
  pub gains_more : (i : ℕ) (x : A) (old now new : OutSide) → i < length xs → x ≡ get_or xs i x
      → GainsLines (between old now) (flat_map f (take i xs)) → GainsLines (between now new) (f x)
      → GainsLines (between old new) (flat_map f (take (i + 1) xs))
  gains_more i x old now new h e first more =
      rw (flat_map_next f xs i x h e)
      (puts_then (Ok tt) (flat_map f (take i xs)) (f x) old now new first more)

  -- where those of one aren't put whole
  pub stops_at_one : (cause : PutError) (i : ℕ) (x : A) (old now new : OutSide) → i < length xs
      → x ≡ get_or xs i x → GainsLines (between old now) (flat_map f (take i xs))
      → PutsLines (Err cause) (between now new) (f x)
      → PutsLines (Err cause) (between old new) (flat_map f xs)
  stops_at_one cause i x old now new h e first stops =
      rw (flat_map_at f xs i x h e)
      (puts_then (Err cause) (flat_map f (take i xs)) (f x ++ flat_map f (drop (i + 1) xs)) old
      now new first
      (stops_early cause (f x) (flat_map f (drop (i + 1) xs)) (between now new) stops))

  -- those of all
  pub gains_all : (i : ℕ) (out : OutRun) → length xs ≤ i
      → GainsLines out (flat_map f (take i xs)) → GainsLines out (flat_map f xs)
  gains_all i out most first = rw (ap (flat_map f) (sym (take_all i xs most))) first

pub flat_of_map : {A B C : Type 0} (f : B → List C) (h : A → B) (xs : List A)
    → flat_map (λ x. f (h x)) xs ≡ flat_map f (map h xs)
flat_of_map f h [] = refl
flat_of_map f h (x ∷ xs) = ap (λ lines. f (h x) ++ lines) (flat_of_map f h xs)

-- ---- the lines of a list, one by one

each_alone : (lines : List (List ℕ)) → flat_map (λ line. line ∷ []) lines ≡ lines
each_alone [] = refl
each_alone (line ∷ lines) = ap (λ ls. line ∷ ls) (each_alone lines)

-- a line at a place, whatever stands for one behind the last
line_at : (lines : List (List ℕ)) (i : ℕ) (line : List ℕ) → i < length lines
    → line ≡ get_or lines i [] → line ≡ get_or lines i line
line_at lines i line h e =
    e ∙ sym (get_or_from_slice_get lines i (get_or lines i []) line (slice_get-get_or lines i [] h))

-- one more
pub line_more : (lines : List (List ℕ)) (i : ℕ) (line : List ℕ) (old now new : OutSide)
    → i < length lines → line ≡ get_or lines i [] → GainsLines (between old now) (take i lines)
    → GainsLines (between now new) (line ∷ [])
    → GainsLines (between old new) (take (i + 1) lines)
line_more lines i line old now new h e first more =
    subst (GainsLines (between old new)) (each_alone (take (i + 1) lines))
    (gains_more (λ l. l ∷ []) lines i line old now new h (line_at lines i line h e)
    (subst (GainsLines (between old now)) (sym (each_alone (take i lines))) first) more)

-- where one isn't put
pub line_stops : (lines : List (List ℕ)) (cause : PutError) (i : ℕ) (line : List ℕ)
    (old now new : OutSide) → i < length lines → line ≡ get_or lines i []
    → GainsLines (between old now) (take i lines)
    → PutsLines (Err cause) (between now new) (line ∷ [])
    → PutsLines (Err cause) (between old new) lines
line_stops lines cause i line old now new h e first stops =
    subst (PutsLines (Err cause) (between old new)) (each_alone lines)
    (stops_at_one (λ l. l ∷ []) lines cause i line old now new h (line_at lines i line h e)
    (subst (GainsLines (between old now)) (sym (each_alone (take i lines))) first) stops)

keeps_itself : (held : Option (List ℕ)) → Keeps held held
keeps_itself None = tt
keeps_itself (Some text) = refl

-- where memory ran out before any was put
pub nothing_put : (lines : List (List ℕ)) (side : OutSide)
    → PutsLines (Err OutOfMemory) (between side side) lines
nothing_put lines side = (refl, kept side.held side.held (joined lines) (keeps_itself side.held))

-- ---- what a run ends with that prints

pub print_cause : (result : Put) (count : ℕ) (cause : Cause) (out : OutRun)
    (lines : List (List ℕ)) → count ≡ out.faults.after → IsPrinted result count cause
    → PutsLines result out lines → IsPrintCause out lines cause
print_cause (Ok done) count cause out lines counted is puts =
    rw is puts
print_cause (Err SinkFailed) count cause out lines counted is puts =
    rw is (record { counted = counted; risen = puts.0 }, puts.1)
print_cause (Err OutOfMemory) count cause out lines counted is puts = rw is puts
