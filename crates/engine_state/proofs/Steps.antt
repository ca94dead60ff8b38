-- Steps along a journal.
use Rattle.std.specs.Prelude.{if◌then◌else◌}
use Rattle.std.proofs.Common.{ℕ, ◌+◌, ◌≤◌, ◌≡◌, Bool, true, false, not, ◌&&◌, Some, is_none, List, [], ◌∷◌, ◌++◌, length, map, length-append, append_assoc, refl, sym, ◌∙◌, ap, arith}
use Rattle.std.specs.List.{flat_map}
use Rattle.std.proofs.lemmas.Grind.{flat_map-append}
use Rattle.std.proofs.lemmas.List.{length-map}
use Rattle.tile_types.specs.declared.order.Order.{Order}
use Rattle.cut_core.specs.Cut.{is_empty}
use Rattle.frame_pins.specs.Frames.{FrameParts}
use Rattle.frame_pins.specs.declared.shown.Shown.{Shown}
use Rattle.frame_text.specs.Lines.{frame_line, line_of, lines_of}
use Rattle.cut_core.proofs.Bools.{and_left, and_right, and_true}
use Rattle.engine_state.specs.declared.entry.Entry.{Entry}
use Rattle.engine_state.specs.declared.entry.Entry.TheVariants.{Opened, Looked, LookRefused, Returned, Taken, DocumentArrived, ContentArrived, Squeezed, Absent, Failed, Starved, Retried, Closed}
use Rattle.engine_state.specs.State.{State, unopened}
use Rattle.engine_state.specs.Allowed.{allowed}
use Rattle.engine_state.specs.After.{after}
use Rattle.engine_state.specs.Journal.{after_all, all_allowed, ends_to_come, first_illegal_from, fullness, legal, replay}
use Rattle.engine_state.specs.Frames.{frame_lines}
use Rattle.engine_state.specs.Report.{frame_texts, line_of_shown, reported, reported_from, report_lines, report, text_of}
use Rattle.engine_state.specs.Laws.{IsWithinBudget}
use Rattle.engine_state.proofs.Lists.{and_both}
use Rattle.engine_state.proofs.Pinning.{all_pinned, pinned_step}
use Rattle.engine_state.proofs.Budgets.{IsSound, sound_step}
use Rattle.engine_state.proofs.Fullness.{ends_all}
use Rattle.engine_state.proofs.Numbers.{HasNumbers, numbers_step, rises}
use Rattle.engine_state.proofs.Viewers.{viewers_of, viewers_step}
use Rattle.engine_state.proofs.Wanted.{NodesWait, NodesAreDocuments}
use Rattle.engine_state.proofs.Flying.{IsApart, apart_step}

pub after_all-append : (s : State) (xs ys : List Entry)
    → after_all s (xs ++ ys) ≡ after_all (after_all s xs) ys
after_all-append s [] ys = refl
after_all-append s (x ∷ xs) ys = after_all-append (after s x) xs ys

pub allowed_before : (s : State) (xs ys : List Entry) → all_allowed s (xs ++ ys) ≡ true
    → all_allowed s xs ≡ true
allowed_before s [] ys e = refl
allowed_before s (x ∷ xs) ys e =
    and_both (allowed s x) _ (and_left _ _ e)
    (allowed_before (after s x) xs ys (and_right (allowed s x) _ e))

pub allowed-append : (s : State) (xs ys : List Entry)
    → all_allowed s (xs ++ ys) ≡ (all_allowed s xs && all_allowed (after_all s xs) ys)
allowed-append s [] ys = refl
allowed-append s (x ∷ xs) ys =
    ap (λ b. allowed s x && b) (allowed-append (after s x) xs ys) ∙ assoc (allowed s x) _ _
  where
    assoc : (a b c : Bool) → (a && (b && c)) ≡ ((a && b) && c)
    assoc true b c = refl
    assoc false b c = refl

pub allowed_one : (s : State) (xs : List Entry) (e : Entry)
    → all_allowed s (xs ++ e ∷ []) ≡ (all_allowed s xs && allowed (after_all s xs) e)
allowed_one s xs e =
    allowed-append s xs (e ∷ [])
    ∙ ap (λ b. all_allowed s xs && b) (and_true (allowed (after_all s xs) e))

pub report-append : (s : State) (xs ys : List Entry)
    → reported_from s (xs ++ ys) ≡ reported_from s xs ++ reported_from (after_all s xs) ys
report-append s [] ys = refl
report-append s (x ∷ xs) ys =
    ap (λ t. reported s x ++ t) (report-append (after s x) xs ys)
    ∙ sym (append_assoc (reported s x) (reported_from (after s x) xs)
    (reported_from (after_all (after s x) xs) ys))

pub report_text-append : (xs ys : List Entry)
    → report (xs ++ ys) ≡ report xs ++ flat_map (λ line. line) (reported_from (replay xs) ys)
report_text-append xs ys =
    ap (flat_map (λ line. line)) (report-append unopened xs ys)
    ∙ flat_map-append (λ line. line) (report_lines xs) (reported_from (replay xs) ys)

pub none_illegal : (n : ℕ) (s : State) (es : List Entry)
    → all_allowed s es ≡ is_none (first_illegal_from n s es)
none_illegal n s [] = refl
none_illegal n s (e ∷ es) =
    elim (allowed s e) as (λ b. (b && all_allowed (after s e) es)
    ≡ is_none (if b then first_illegal_from (n + 1) (after s e) es else Some n)) [
      | true ↦ none_illegal (n + 1) (after s e) es
      | false ↦ refl
    ]

-- ---- what each allowed entry keeps, a legal journal keeps

pub kept_along : (I : State → Type 0)
    → ((s : State) (e : Entry) → allowed s e ≡ true → I s → I (after s e))
    → (s : State) (es : List Entry) → all_allowed s es ≡ true → I s → I (after_all s es)
kept_along I step s [] a i = i
kept_along I step s (e ∷ es) a i =
    kept_along I step (after s e) es (and_right (allowed s e) _ a) (step s e (and_left _ _ a) i)

pub pinned_along : (xs ys : List Entry) → legal (xs ++ ys) ≡ true
    → all_pinned (replay xs) ≡ true
pinned_along xs ys e =
    kept_along (λ s. all_pinned s ≡ true) pinned_step unopened xs
    (allowed_before unopened xs ys e) refl

pub within_along : (xs ys : List Entry) → legal (xs ++ ys) ≡ true → IsWithinBudget (replay xs)
within_along xs ys e =
    (kept_along IsSound sound_step unopened xs (allowed_before unopened xs ys e)
    (record { within = omega arith; fresh = λ h. refl })).within

pub fullness_rises : (xs ys : List Entry) → fullness xs ≤ fullness (xs ++ ys)
fullness_rises xs ys =
    let rise = ends_all (replay xs) ys in
    let same = ap ends_to_come (after_all-append unopened xs ys) in
    let long = length-append xs ys in
    omega arith

pub numbers_along : (xs ys : List Entry) → legal (xs ++ ys) ≡ true → HasNumbers (replay xs)
numbers_along xs ys e =
    kept_along HasNumbers numbers_step unopened xs (allowed_before unopened xs ys e)
    (record { rise = refl; given = refl; few = omega arith })

pub viewers_along : (xs ys : List Entry) → legal (xs ++ ys) ≡ true
    → rises (viewers_of (replay xs).views) ≡ true
viewers_along xs ys e =
    kept_along (λ s. rises (viewers_of s.views) ≡ true) viewers_step unopened xs
    (allowed_before unopened xs ys e) refl

pub apart_along : NodesWait → NodesAreDocuments → (xs ys : List Entry)
    → legal (xs ++ ys) ≡ true → IsApart (replay xs)
apart_along wait are xs ys e =
    kept_along IsApart (apart_step wait are) unopened xs (allowed_before unopened xs ys e)
    (record { flights = refl; to_load = refl; residents = refl; present = refl; fresh = λ h. refl })

-- ---- the engine is opened by the first entry

stays_opened : (s : State) (e : Entry) → s.opened ≡ true → (after s e).opened ≡ true
stays_opened s (Opened root bytes budget order) o = refl
stays_opened s (Looked pass id viewer view settled) o = o
stays_opened s (LookRefused pass viewer view settled why) o = o
stays_opened s (Returned pass id) o = o
stays_opened s (Taken pass key) o = o
stays_opened s (DocumentArrived pass key bytes) o = o
stays_opened s (ContentArrived pass address size digest out) o = o
stays_opened s (Squeezed pass address size) o = o
stays_opened s (Absent pass key why) o = o
stays_opened s (Failed pass key count) o = o
stays_opened s (Starved pass key) o = o
stays_opened s (Retried pass) o = o
stays_opened s (Closed pass) o = o

all_opened : (s : State) (es : List Entry) → s.opened ≡ true → (after_all s es).opened ≡ true
all_opened s [] o = o
all_opened s (e ∷ es) o = all_opened (after s e) es (stays_opened s e o)

-- an entry that isn't Opened is allowed only where the engine is opened
not_opened_entry : (s : State) (e : Entry) → allowed s e ≡ true → (after s e).opened ≡ true
not_opened_entry s (Opened root bytes budget order) a = refl
not_opened_entry s (Looked pass id viewer view settled) a =
    and_left _ _ (and_left (s.opened && not s.closed) _ a)
not_opened_entry s (LookRefused pass viewer view settled why) a =
    and_left _ _ (and_left (s.opened && not s.closed) _ a)
not_opened_entry s (Returned pass id) a = and_left _ _ a
not_opened_entry s (Taken pass key) a = and_left _ _ (and_left (s.opened && not s.closed) _ a)
not_opened_entry s (DocumentArrived pass key bytes) a = and_left _ _ a
not_opened_entry s (ContentArrived pass address size digest out) a = and_left _ _ a
not_opened_entry s (Squeezed pass address size) a = and_left _ _ a
not_opened_entry s (Absent pass key why) a = and_left _ _ a
not_opened_entry s (Failed pass key count) a = and_left _ _ a
not_opened_entry s (Starved pass key) a = and_left _ _ a
not_opened_entry s (Retried pass) a = and_left _ _ a
not_opened_entry s (Closed pass) a = and_left _ _ a

opened_from : (es : List Entry) → legal es ≡ true → (replay es).opened ≡ not (is_empty es)
opened_from [] a = refl
opened_from (e ∷ es) a = all_opened (after unopened e) es (not_opened_entry unopened e (and_left _ _ a))

pub opened_first : (before rest : List Entry) → legal (before ++ rest) ≡ true
    → (replay before).opened ≡ not (is_empty before)
opened_first before rest a = opened_from before (allowed_before unopened before rest a)

pub opened_once : (before : List Entry) (root bytes : List ℕ) (budget : ℕ) (order : Order)
    → legal (before ++ Opened root bytes budget order ∷ []) ≡ true → is_empty before ≡ true
opened_once before root bytes budget order a =
    let parts : (legal before && allowed (replay before) (Opened root bytes budget order)) ≡ true =
    sym (allowed_one unopened before (Opened root bytes budget order)) ∙ a in
    let closed : not (replay before).opened ≡ true =
    and_left _ _ (and_right (legal before) _ parts) in
    empty_by (is_empty before)
    (ap not (opened_from before (and_left _ _ parts)) ∙ refl) closed
  where
    empty_by : (b : Bool) → not (replay before).opened ≡ not (not b)
        → not (replay before).opened ≡ true → b ≡ true
    empty_by true h k = refl
    empty_by false h k = cc

-- ---- what a frame is printed as

printed : (xs : List Shown) → map line_of xs ≡ map text_of (map line_of_shown xs)
printed [] = refl
printed (x ∷ xs) = ap (λ ts. line_of x ∷ ts) (printed xs)

pub printed_as_reported : (s : State) (frame : FrameParts) (pass : ℕ) (settled : Bool)
    → map line_of_shown frame.shown ≡ frame_lines s frame.view
    → lines_of frame ≡ reported s (Looked pass frame.id frame.viewer frame.view settled)
printed_as_reported s frame pass settled e =
    ap (λ n. frame_line frame.id frame.viewer n ∷ map line_of frame.shown)
    (sym (length-map frame.shown line_of_shown))
    ∙ ap (λ ts. frame_line frame.id frame.viewer (length (map line_of_shown frame.shown)) ∷ ts)
    (printed frame.shown)
    ∙ ap (frame_texts frame.id frame.viewer) e
