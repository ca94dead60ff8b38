-- What lines leave to each viewer, and one more line.
use Rattle.std.proofs.Common.{◌≡◌, ◌≢◌, ◌∙◌, ℕ, ◌+◌, ◌-◌, ◌<◌, ◌==◌, ◌||◌, List, [], ◌∷◌, ◌++◌, length, get_or, set, Bool, false, true, Some, ap, sym, arith, refl, cond, ltb}
use Rattle.std.proofs.lemmas.Bool.{eq-eqb, eqb-true, ltb-true}
use Rattle.std.proofs.lemmas.Grind.{get_or-set_at}
use Rattle.std.proofs.lemmas.List.{get_or-set_other, length-append, length-set}
use Rattle.std.proofs.lemmas.List.Folds.{list_all-append, list_any-append}
use Rattle.std.proofs.lemmas.List.Sums.{count_by-le-length, sum_by_push}
use Rattle.std.proofs.lemmas.Option.{slice_get-get_or, slice_get_within}
use Rattle.std.specs.List.{count_by, list_all, list_any}
use Rattle.std.specs.Prelude.{slice_get}
use Rattle.error_test.specs.Views.{ViewParts}
use Rattle.session_script.specs.Endings.{ends_once, has_viewer, is_the_end}
use Rattle.session_script.specs.ScriptLines.{viewers}
use Rattle.session_script.specs.Scripts.{asks_frame_for, is_look_of, is_return_of}
use Rattle.session_script.specs.declared.script_line.ScriptLine.{ScriptLine}
use Rattle.session_script.specs.declared.script_line.ScriptLine.TheVariants.{End, Look, Retry, Return, Settle}

or_none : (b : Bool) → (b || false) ≡ b
or_none true = refl
or_none false = refl

or_some : (b : Bool) → (b || true) ≡ true
or_some true = refl
or_some false = refl

differs : (a b : ℕ) → (a == b) ≡ false → a ≡ b → ⊥
differs a b e same = let yes = eq-eqb a b same in absurd (cc)

-- one more line at which a test fails
any_kept : (test : ScriptLine → Bool) (lines : List ScriptLine) (line : ScriptLine)
    → test line ≡ false → list_any test (lines ++ line ∷ []) ≡ list_any test lines
any_kept test lines line fails =
    list_any-append test lines (line ∷ []) ∙ rw fails (or_none (list_any test lines))

-- one more at which it holds
any_found : (test : ScriptLine → Bool) (lines : List ScriptLine) (line : ScriptLine)
    → test line ≡ true → list_any test (lines ++ line ∷ []) ≡ true
any_found test lines line holds =
    list_any-append test lines (line ∷ []) ∙ rw holds (or_some (list_any test lines))

pub unended_pushed : (lines : List ScriptLine) (line : ScriptLine) → list_any is_the_end lines ≡ false
    → is_the_end line ≡ false → list_any is_the_end (lines ++ line ∷ []) ≡ false
unended_pushed lines line before at = any_kept is_the_end lines line at ∙ before

pub within_pushed : (lines : List ScriptLine) (line : ScriptLine)
    → list_all has_viewer lines ≡ true → has_viewer line ≡ true
    → list_all has_viewer (lines ++ line ∷ []) ≡ true
within_pushed lines line before at =
    list_all-append has_viewer lines (line ∷ []) ∙ rw (before, at) refl

-- the end behind lines of which none is one
pub ended : (lines : List ScriptLine) → list_any is_the_end lines ≡ false
    → ends_once (lines ++ End ∷ []) ≡ true
ended [] none = refl
ended (Look viewer view ∷ lines) none = ended lines none
ended (Settle viewer ∷ lines) none = ended lines none
ended (Return viewer ∷ lines) none = ended lines none
ended (Retry ∷ lines) none = ended lines none
ended (End ∷ lines) none = absurd (cc)

-- ---- which viewers looked

abbrev pub LookedIs : List Bool → List ScriptLine → Type 0
LookedIs looked lines =
    (viewer : ℕ) → viewer < viewers → slice_get looked viewer ≡ Some (list_any (is_look_of viewer) lines)

pub looked_kept : (looked : List Bool) (lines : List ScriptLine) (line : ScriptLine)
    → ((viewer : ℕ) → is_look_of viewer line ≡ false) → LookedIs looked lines
    → LookedIs looked (lines ++ line ∷ [])
looked_kept looked lines line other is viewer below =
    is viewer below ∙ ap Some (sym (any_kept (is_look_of viewer) lines line (other viewer)))

pub looked_at : (looked : List Bool) (lines : List ScriptLine) (at : ℕ) (view : ViewParts)
    → at < viewers → LookedIs looked lines
    → LookedIs (set looked at true) (lines ++ Look at view ∷ [])
looked_at looked lines at view low is viewer below = go (at == viewer) refl
  where
    long : at < length looked
    long = slice_get_within looked at (list_any (is_look_of at) lines) (is at low)

    there : viewer < length (set looked at true)
    there = rw (length-set looked at true)
        (slice_get_within looked viewer (list_any (is_look_of viewer) lines) (is viewer below))

    within : viewer < length looked
    within = slice_get_within looked viewer (list_any (is_look_of viewer) lines) (is viewer below)

    go : (b : Bool) → (at == viewer) ≡ b → slice_get (set looked at true) viewer
        ≡ Some (list_any (is_look_of viewer) (lines ++ Look at view ∷ []))
    go true e =
        slice_get-get_or (set looked at true) viewer false there
        ∙ ap Some (get_or-set_at looked at viewer true false (sym (eqb-true at viewer e)) long
        ∙ sym (any_found (is_look_of viewer) lines (Look at view) e))
    go false e =
        let other : viewer ≢ at = λ same. absurd (differs at viewer e (sym same)) in
        slice_get-get_or (set looked at true) viewer false there
        ∙ (ap Some (get_or-set_other looked at viewer true false other)
        ∙ (sym (slice_get-get_or looked viewer false within)
        ∙ (is viewer below
        ∙ ap Some (sym (any_kept (is_look_of viewer) lines (Look at view) e)))))

-- ---- how many frames each asked for and didn't return

abbrev pub HeldIs : List ℕ → List ScriptLine → Type 0
HeldIs held lines = (viewer : ℕ) → viewer < viewers
    → get_or held viewer 0 + count_by (is_return_of viewer) lines
    ≡ count_by (asks_frame_for viewer) lines

count_pushed : (test : ScriptLine → Bool) (lines : List ScriptLine) (line : ScriptLine)
    → count_by test (lines ++ line ∷ []) ≡ count_by test lines + cond (test line) 1 0
count_pushed test lines line = sum_by_push (λ l. cond (test l) 1 0) lines line

counted_no : (test : ScriptLine → Bool) (lines : List ScriptLine) (line : ScriptLine)
    → test line ≡ false → count_by test (lines ++ line ∷ []) ≡ count_by test lines
counted_no test lines line e =
    count_pushed test lines line ∙ rw e (omega arith)

counted_yes : (test : ScriptLine → Bool) (lines : List ScriptLine) (line : ScriptLine)
    → test line ≡ true → count_by test (lines ++ line ∷ []) ≡ count_by test lines + 1
counted_yes test lines line e = count_pushed test lines line ∙ rw e refl

-- no more than the lines
pub held_below : (held : List ℕ) (lines : List ScriptLine) (line : ScriptLine) (at : ℕ)
    → at < viewers → HeldIs held lines → get_or held at 0 < length (lines ++ line ∷ [])
held_below held lines line at low is =
    let all = count_by-le-length (asks_frame_for at) lines in
    rw (length-append lines (line ∷ [])) (omega (arith, is at low, all))

pub held_more : (held : List ℕ) (lines : List ScriptLine) (line : ScriptLine) (at : ℕ)
    → at < length held
    → ((viewer : ℕ) → asks_frame_for viewer line ≡ (at == viewer))
    → ((viewer : ℕ) → is_return_of viewer line ≡ false) → HeldIs held lines
    → HeldIs (set held at (get_or held at 0 + 1)) (lines ++ line ∷ [])
held_more held lines line at long asks returns is viewer below = go (at == viewer) refl
  where
    no : count_by (is_return_of viewer) (lines ++ line ∷ []) ≡ count_by (is_return_of viewer) lines
    no = counted_no (is_return_of viewer) lines line (returns viewer)

    go : (b : Bool) → (at == viewer) ≡ b
        → get_or (set held at (get_or held at 0 + 1)) viewer 0
        + count_by (is_return_of viewer) (lines ++ line ∷ [])
        ≡ count_by (asks_frame_for viewer) (lines ++ line ∷ [])
    go true e =
        let same : viewer ≡ at = sym (eqb-true at viewer e) in
        let here = get_or-set_at held at viewer (get_or held at 0 + 1) 0 same long in
        let at_it : get_or held viewer 0 ≡ get_or held at 0 = ap (λ v. get_or held v 0) same in
        let yes = counted_yes (asks_frame_for viewer) lines line (asks viewer ∙ e) in
        omega (arith, is viewer below, here, at_it, yes, no)
    go false e =
        let other : viewer ≢ at = λ same. absurd (differs at viewer e (sym same)) in
        let kept = get_or-set_other held at viewer (get_or held at 0 + 1) 0 other in
        let none = counted_no (asks_frame_for viewer) lines line (asks viewer ∙ e) in
        omega (arith, is viewer below, kept, none, no)

pub held_less : (held : List ℕ) (lines : List ScriptLine) (at : ℕ) → at < length held
    → at < viewers
    → ltb (count_by (is_return_of at) lines) (count_by (asks_frame_for at) lines) ≡ true
    → HeldIs held lines → HeldIs (set held at (get_or held at 0 - 1)) (lines ++ Return at ∷ [])
held_less held lines at long low fewer is viewer below = go (at == viewer) refl
  where
    no : count_by (asks_frame_for viewer) (lines ++ Return at ∷ [])
        ≡ count_by (asks_frame_for viewer) lines
    no = counted_no (asks_frame_for viewer) lines (Return at) refl

    go : (b : Bool) → (at == viewer) ≡ b
        → get_or (set held at (get_or held at 0 - 1)) viewer 0
        + count_by (is_return_of viewer) (lines ++ Return at ∷ [])
        ≡ count_by (asks_frame_for viewer) (lines ++ Return at ∷ [])
    go true e =
        let same : viewer ≡ at = sym (eqb-true at viewer e) in
        let here = get_or-set_at held at viewer (get_or held at 0 - 1) 0 same long in
        let yes = counted_yes (is_return_of viewer) lines (Return at) e in
        let returned : count_by (is_return_of viewer) lines ≡ count_by (is_return_of at) lines =
        ap (λ v. count_by (is_return_of v) lines) same in
        let asked : count_by (asks_frame_for viewer) lines ≡ count_by (asks_frame_for at) lines =
        ap (λ v. count_by (asks_frame_for v) lines) same in
        let less = ltb-true (count_by (is_return_of at) lines) (count_by (asks_frame_for at) lines) fewer in
        omega (arith, is at low, here, yes, no, returned, asked, less)
    go false e =
        let other : viewer ≢ at = λ same. absurd (differs at viewer e (sym same)) in
        let kept = get_or-set_other held at viewer (get_or held at 0 - 1) 0 other in
        let none = counted_no (is_return_of viewer) lines (Return at) e in
        omega (arith, is viewer below, kept, none, no)
