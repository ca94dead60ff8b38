-- The lines of the held frames stay resident.
use Rattle.std.specs.Prelude.{if◌then◌else◌}
use Rattle.std.proofs.Common.{ℕ, ◌≡◌, ◌==◌, Bool, true, false, not, ◌&&◌, ◌||◌, cond, Some, None, option_map, List, [], ◌∷◌, ◌++◌, filter, find, filter_map, reverse, nat_le, nat_lt, refl, sym, ◌∙◌, ap, eq-eqb, eqb-true, ◌-◌, Contains, inl, inr, subst, lt-ltb, arith, ◌+◌}
use Rattle.std.specs.List.{list_all, list_any, cons_option, AllByRecursion}
use Rattle.std.proofs.lemmas.List.Folds.{list_any-append}
use Rattle.std.proofs.lemmas.List.Elements.{All-from_recursion}
use Rattle.tile_cache.specs.Residents.{same_text}
use Rattle.tile_cache.specs.Pins.{times}
use Rattle.tile_cache.proofs.Texts.{or_left, or_right, text_is, text_refl}
use Rattle.cut_core.specs.declared.line.CutLine.{CutLine}
use Rattle.cut_core.specs.Cut.{cut}
use Rattle.cut_core.specs.Visits.{content_key}
use Rattle.cut_core.proofs.Bools.{and_left, and_right}
use Rattle.cut_core.proofs.Places.{Contains-first, Contains-cons}
use Rattle.engine_state.specs.declared.entry.Entry.{Entry}
use Rattle.engine_state.specs.declared.entry.Entry.TheVariants.{Opened, Looked, LookRefused, Returned, Taken, DocumentArrived, ContentArrived, Squeezed, Absent, Failed, Starved, Retried, Closed}
use Rattle.engine_state.specs.declared.frame_line.FrameLine.{FrameLine}
use Rattle.engine_state.specs.declared.held_frame.HeldFrame.{HeldFrame}
use Rattle.engine_state.specs.declared.resident.Resident.{Resident}
use Rattle.engine_state.specs.State.{State}
use Rattle.engine_state.specs.Frames.{addresses_of, frame_lines, holdings, line_from, line_with, pinned, tree}
use Rattle.engine_state.specs.Loading.{flies}
use Rattle.engine_state.specs.Room.{all_moved_up, evicted, fits, in_use, moved_up, until_within, without}
use Rattle.engine_state.specs.Allowed.{allowed}
use Rattle.engine_state.specs.After.{after}
use Rattle.engine_state.specs.Laws.{AreResident, ShownIsResident, resident_of}
use Rattle.engine_state.proofs.Lists.{and_both, or_cases, all_both, all_same, all_passed, all_without_first, any_parts, any_kept, not_among, texts_are}

-- the line names the resident
abbrev pub names : FrameLine → Resident → Bool
names l r = same_text r.address l.address
    && ((r.facts.length == l.facts.length) && same_text r.facts.digest l.facts.digest)

-- each line of each held frame names a resident
abbrev pub all_pinned : State → Bool
all_pinned s =
    list_all (λ f. list_all (λ l. list_any (names l) s.residents) f.lines) s.frames

-- ---- moving up

pub moved_any : (p : Resident → Bool) (addresses : List (List ℕ)) (rs : List Resident)
    → list_any p (all_moved_up addresses rs) ≡ list_any p rs
moved_any p [] rs = refl
moved_any p (a ∷ rest) rs =
    moved_any p rest (moved_up rs a)
    ∙ list_any-append p (filter (λ r. same_text r.address a) rs)
    (filter (λ r. not (same_text r.address a)) rs)
    ∙ any_parts p (λ r. same_text r.address a) rs

-- ---- the lines of a new frame

facts_named : (r : Resident)
    → ((r.facts.length == r.facts.length) && same_text r.facts.digest r.facts.digest) ≡ true
facts_named r =
    and_both _ _ (eq-eqb r.facts.length r.facts.length refl) (text_refl r.facts.digest)

found_named : (rs : List Resident) (c : CutLine) (l : FrameLine) → line_from rs c ≡ Some l
    → list_any (names l) rs ≡ true
found_named [] c l e = cc
found_named (r ∷ rs) c l e =
    elim (same_text r.address c.address) as (λ b. same_text r.address c.address ≡ b
    → option_map (line_with c)
    (cond b (Some r) (find (λ x. same_text x.address c.address) rs)) ≡ Some l
    → list_any (names l) (r ∷ rs) ≡ true) [
      | true ↦ λ s h.
          let is : line_with c r ≡ l = cc in
          or_left (names l r) _
          (ap (λ x. names x r) (sym is)
          ∙ and_both (same_text r.address c.address) _ s (facts_named r))
      | false ↦ λ s h. or_right (names l r) _ (found_named rs c l h)
    ] refl e

lines_named : (rs : List Resident) (cs : List CutLine)
    → list_all (λ l. list_any (names l) rs) (filter_map (line_from rs) cs) ≡ true
lines_named rs [] = refl
lines_named rs (c ∷ cs) =
    elim (line_from rs c) as (λ o. line_from rs c ≡ o
    → list_all (λ l. list_any (names l) rs) (cons_option o (filter_map (line_from rs) cs))
    ≡ true) [
      | None ↦ λ e. lines_named rs cs
      | Some l ↦ λ e. and_both (list_any (names l) rs) _ (found_named rs c l e) (lines_named rs cs)
    ] refl

-- ---- eviction

all_within : (p : List ℕ → Bool) (budget bytes : ℕ) (rs : List Resident)
    → list_all (λ r. p r.address) rs ≡ true → list_all p (until_within budget bytes rs) ≡ true
all_within p budget bytes [] e = refl
all_within p budget bytes (r ∷ rs) e =
    elim (nat_le bytes budget) as (λ b.
    list_all p (if b then [] else r.address ∷ until_within budget (bytes - r.facts.length) rs)
    ≡ true) [
      | true ↦ refl
      | false ↦ and_both (p r.address) _ (and_left _ _ e)
          (all_within p budget (bytes - r.facts.length) rs (and_right (p r.address) _ e))
    ]

evicted_unused : (s : State) (size : ℕ)
    → list_all (λ a. not (in_use s a)) (evicted s size) ≡ true
evicted_unused s size =
    all_within (λ a. not (in_use s a)) _ _ _
    (all_passed (λ r. not (in_use s r.address)) (reverse s.residents))

-- what is none of these addresses stays
line_stays : (out : List (List ℕ)) (new : Resident) (rs : List Resident) (l : FrameLine)
    → list_any (same_text l.address) out ≡ false
    → list_any (names l) rs ≡ true → list_any (names l) (new ∷ without out rs) ≡ true
line_stays out new rs l free e =
    or_right (names l new) _
    (any_kept (names l) (λ r. not (list_any (same_text r.address) out))
    (λ r n. ap (λ a. not (list_any (same_text a) out))
    (text_is r.address l.address (and_left _ _ n)) ∙ ap not free) rs e)

lines_stay : (out : List (List ℕ)) (new : Resident) (rs : List Resident) (ls : List FrameLine)
    → ((a : List ℕ) → list_any (λ l. same_text l.address a) ls ≡ true
    → list_any (same_text a) out ≡ false)
    → list_all (λ l. list_any (names l) rs) ls ≡ true
    → list_all (λ l. list_any (names l) (new ∷ without out rs)) ls ≡ true
lines_stay out new rs [] free e = refl
lines_stay out new rs (l ∷ ls) free e =
    and_both (list_any (names l) (new ∷ without out rs)) _
    (line_stays out new rs l (free l.address (or_left _ _ (text_refl l.address)))
    (and_left _ _ e))
    (lines_stay out new rs ls (λ a h. free a (or_right (same_text l.address a) _ h))
    (and_right (list_any (names l) rs) _ e))

frames_stay : (out : List (List ℕ)) (new : Resident) (rs : List Resident) (fs : List HeldFrame)
    → ((a : List ℕ) → list_any (λ f. list_any (λ l. same_text l.address a) f.lines) fs ≡ true
    → list_any (same_text a) out ≡ false)
    → list_all (λ f. list_all (λ l. list_any (names l) rs) f.lines) fs ≡ true
    → list_all (λ f. list_all (λ l. list_any (names l) (new ∷ without out rs)) f.lines) fs ≡ true
frames_stay out new rs [] free e = refl
frames_stay out new rs (f ∷ fs) free e =
    and_both (list_all (λ l. list_any (names l) (new ∷ without out rs)) f.lines) _
    (lines_stay out new rs f.lines (λ a h. free a (or_left _ _ h)) (and_left _ _ e))
    (frames_stay out new rs fs
    (λ a h. free a (or_right (list_any (λ l. same_text l.address a) f.lines) _ h))
    (and_right (list_all (λ l. list_any (names l) rs) f.lines) _ e))

-- ---- a line of a held frame is pinned

times_later : (a : List ℕ) (xs ys : List (List ℕ)) → nat_lt 0 (times a ys) ≡ true
    → nat_lt 0 (times a (xs ++ ys)) ≡ true
times_later a [] ys e = e
times_later a (x ∷ xs) ys e =
    elim (same_text x a) as (λ b.
    nat_lt 0 (if b then times a (xs ++ ys) + 1 else times a (xs ++ ys)) ≡ true) [
      | true ↦ lt-ltb 0 (times a (xs ++ ys) + 1) (omega arith)
      | false ↦ times_later a xs ys e
    ]

times_here : (a : List ℕ) (ls : List FrameLine) (ys : List (List ℕ))
    → list_any (λ l. same_text l.address a) ls ≡ true
    → nat_lt 0 (times a (addresses_of ls ++ ys)) ≡ true
times_here a [] ys e = cc
times_here a (l ∷ ls) ys e =
    elim (same_text l.address a) as (λ b. (b || list_any (λ x. same_text x.address a) ls) ≡ true
    → nat_lt 0 (if b then times a (addresses_of ls ++ ys) + 1 else times a (addresses_of ls ++ ys))
    ≡ true) [
      | true ↦ λ h. lt-ltb 0 (times a (addresses_of ls ++ ys) + 1) (omega arith)
      | false ↦ λ h. times_here a ls ys h
    ] e

pinned_times : (a : List ℕ) (fs : List HeldFrame)
    → list_any (λ f. list_any (λ l. same_text l.address a) f.lines) fs ≡ true
    → nat_lt 0 (times a (pinned fs)) ≡ true
pinned_times a [] e = cc
pinned_times a (f ∷ fs) e = elim (or_cases (list_any (λ l. same_text l.address a) f.lines) _ e) [
  | inl here ↦ times_here a f.lines (pinned fs) here
  | inr later ↦ times_later a (addresses_of f.lines) (pinned fs) (pinned_times a fs later)
]

-- ---- each entry

pub pinned_step : (s : State) (e : Entry) → allowed s e ≡ true → all_pinned s ≡ true
    → all_pinned (after s e) ≡ true
pinned_step s (Opened root bytes budget order) a p = p
pinned_step s (Looked pass id viewer view settled) a p =
    let lines = frame_lines s view in
    let addresses = addresses_of lines in
    let now : HeldFrame → Bool = λ f.
    list_all (λ l. list_any (names l) (all_moved_up addresses s.residents)) f.lines in
    let before : HeldFrame → Bool = λ f. list_all (λ l. list_any (names l) s.residents) f.lines in
    let same : (f : HeldFrame) → now f ≡ before f = λ f.
    all_same _ _ (λ l. moved_any (names l) addresses s.residents) f.lines in
    let frame : HeldFrame = record { id = id; viewer = viewer; lines = lines } in
    all_both now s.frames (frame ∷ []) (all_same now before same s.frames ∙ p)
    (and_both (now frame) true
    (same frame ∙ lines_named s.residents (cut view (holdings s) (tree s))) refl)
pinned_step s (LookRefused pass viewer view settled why) a p = p
pinned_step s (Returned pass id) a p = all_without_first _ (λ f. f.id == id) s.frames p
pinned_step s (Taken pass key) a p = p
pinned_step s (DocumentArrived pass key bytes) a p = p
pinned_step s (ContentArrived pass address size digest out) a p =
    let rest = and_right (flies s pass (content_key address)) _ (and_right s.opened _ a) in
    let is = texts_are out (evicted s size) (and_right (fits s size) _ rest) in
    let free : (x : List ℕ)
    → list_any (λ f. list_any (λ l. same_text l.address x) f.lines) s.frames ≡ true
    → list_any (same_text x) out ≡ false = λ x h.
    ap (list_any (same_text x)) is
    ∙ not_among (in_use s) x (evicted s size)
    (or_left (nat_lt 0 (times x (pinned s.frames))) _ (pinned_times x s.frames h))
    (evicted_unused s size) in
    frames_stay out
    (record { address = address; facts = record { length = size; digest = digest } })
    s.residents s.frames free p
pinned_step s (Squeezed pass address size) a p = p
pinned_step s (Absent pass key why) a p = p
pinned_step s (Failed pass key count) a p = p
pinned_step s (Starved pass key) a p = p
pinned_step s (Retried pass) a p = p
pinned_step s (Closed pass) a p = p

-- ---- as the law says it

resident_by : (address : List ℕ) (size : ℕ) (digest : List ℕ) (r : Resident)
    → address ≡ r.address → size ≡ r.facts.length → digest ≡ r.facts.digest
    → record { address = address; facts = record { length = size; digest = digest } } ≡ r
resident_by address size digest r a n d = rw (a, n, d) refl

named_is : (l : FrameLine) (r : Resident) → names l r ≡ true → r ≡ resident_of l
named_is l r e =
    let rest : ((r.facts.length == l.facts.length) && same_text r.facts.digest l.facts.digest)
    ≡ true = and_right (same_text r.address l.address) _ e in
    resident_by r.address r.facts.length r.facts.digest (resident_of l)
    (text_is r.address l.address (and_left _ _ e))
    (eqb-true r.facts.length l.facts.length (and_left _ _ rest))
    (text_is r.facts.digest l.facts.digest
    (and_right (r.facts.length == l.facts.length) _ rest))

line_there : (l : FrameLine) (rs : List Resident) → list_any (names l) rs ≡ true
    → Contains rs (resident_of l)
line_there l [] e = cc
line_there l (r ∷ rs) e = elim (or_cases (names l r) _ e) [
  | inl here ↦ subst (λ x. Contains (x ∷ rs) (resident_of l)) (sym (named_is l r here))
      (Contains-first (resident_of l) rs)
  | inr later ↦ Contains-cons r (resident_of l) rs (line_there l rs later)
]

lines_there : (rs : List Resident) (ls : List FrameLine)
    → list_all (λ l. list_any (names l) rs) ls ≡ true
    → AllByRecursion (λ l. Contains rs (resident_of l)) ls
lines_there rs [] e = tt
lines_there rs (l ∷ ls) e =
    (line_there l rs (and_left _ _ e), lines_there rs ls (and_right (list_any (names l) rs) _ e))

frames_there : (rs : List Resident) (fs : List HeldFrame)
    → list_all (λ f. list_all (λ l. list_any (names l) rs) f.lines) fs ≡ true
    → AllByRecursion (AreResident rs) fs
frames_there rs [] e = tt
frames_there rs (f ∷ fs) e = (
  All-from_recursion (λ l. Contains rs (resident_of l)) f.lines
      (lines_there rs f.lines (and_left _ _ e)),
  frames_there rs fs (and_right (list_all (λ l. list_any (names l) rs) f.lines) _ e),
)

pub shown_there : (s : State) → all_pinned s ≡ true → ShownIsResident s
shown_there s e =
    All-from_recursion (AreResident s.residents) s.frames (frames_there s.residents s.frames e)
