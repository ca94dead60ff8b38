-- The script behind lines that were read, one more text down.
use Rattle.std.proofs.Common.{◌≡◌, ◌∙◌, ℕ, ◌+◌, ◌==◌, ◌&&◌, ◌||◌, suc, List, [], ◌∷◌, ◌++◌, length, Option, None, Some, Bool, false, true, not, ap, sym, arith, refl, ltb, cond, append_assoc, ◌≤◌, subst}
use Rattle.std.proofs.lemmas.Bool.{ne_eqb}
use Rattle.std.proofs.lemmas.Bool.Decides.{nat_tests}
use Rattle.std.proofs.lemmas.List.Sums.{take_while-cons}
use Rattle.std.specs.List.{cons_option}
use Rattle.std.specs.Option.{option_map_or}
use Rattle.std.specs.Prelude.{Err, Ok, Result}
use Rattle.session_script.specs.Reading.{Answers, Found, later, script_behind}
use Rattle.session_script.specs.ScriptLines.{is_passed_over, line_of}
use Rattle.session_script.specs.Scripts.{before_end, count_in_order, is_end, is_in_order, lines_of}
use Rattle.session_script.specs.Scripts.{may_follow, script_of_lines}
use Rattle.session_script.specs.declared.script.Script.{Script}
use Rattle.session_script.specs.declared.script.ScriptError.{ScriptError}
use Rattle.session_script.specs.declared.script_line.ScriptLine.{ScriptLine}
use Rattle.session_script.specs.declared.script_line.ScriptLine.TheVariants.{End}
use Rattle.session_script.proofs.NoLines.{passed_is_no_end, passed_is_no_line}

-- what is found of a front in which so many texts are in order, of so many texts
abbrev judged : List ScriptLine → List (List ℕ) → ℕ → ℕ → Found
judged earlier front good size =
    cond ((good == length front) && ltb good size) (Ok (earlier ++ lines_of front ++ End ∷ []))
    (Err (good + 1))

-- ---- tests of numbers

same_below : (a b : ℕ) → ltb (1 + a) (suc b) ≡ ltb a b
same_below a b = grind (arith, nat_tests)

same_equal : (a b : ℕ) → (1 + a == suc b) ≡ (a == b)
same_equal a b = grind (arith, nat_tests)

no_number : (a : ℕ) → (0 == suc a) ≡ false
no_number a = ne_eqb 0 (suc a) (λ e. omega (arith, e))

some_number : (a : ℕ) → ltb 0 (suc a) ≡ true
some_number a = grind (arith, nat_tests)

append_none : (lines : List ScriptLine) → lines ++ [] ≡ lines
append_none [] = refl
append_none (line ∷ lines) = ap (λ ls. line ∷ ls) (append_none lines)

-- ---- the front

front_at_end : (text : List ℕ) (texts : List (List ℕ)) → is_end text ≡ true
    → before_end (text ∷ texts) ≡ []
front_at_end text texts e =
    take_while-cons (λ t. not (is_end t)) text texts
    ∙ ap (λ b. cond (not b) (text ∷ before_end texts) []) e

front_before : (text : List ℕ) (texts : List (List ℕ)) → is_end text ≡ false
    → before_end (text ∷ texts) ≡ text ∷ before_end texts
front_before text texts e =
    take_while-cons (λ t. not (is_end t)) text texts
    ∙ ap (λ b. cond (not b) (text ∷ before_end texts) []) e

-- ---- the steps

-- the end
pub behind_end : (earlier : List ScriptLine) (text : List ℕ) (texts : List (List ℕ))
    → is_end text ≡ true → script_behind earlier (text ∷ texts) ≡ Ok (earlier ++ End ∷ [])
behind_end earlier text texts e =
    ap (λ front. judged earlier front (count_in_order earlier front) (length (text ∷ texts)))
    (front_at_end text texts e)
    ∙ (ap (λ b. cond b (Ok (earlier ++ [] ++ End ∷ [])) (Err 1)) (some_number (length texts))
    ∙ ap (λ lines. Ok (lines ++ End ∷ [])) (append_none earlier))

-- a text that isn't in order
pub behind_bad : (earlier : List ScriptLine) (text : List ℕ) (texts : List (List ℕ))
    → is_end text ≡ false → is_in_order earlier text ≡ false
    → script_behind earlier (text ∷ texts) ≡ Err 1
behind_bad earlier text texts e bad =
    let front = before_end texts in
    ap (λ f. judged earlier f (count_in_order earlier f) (length (text ∷ texts)))
    (front_before text texts e)
    ∙ (ap (λ b. judged earlier (text ∷ front)
    (cond b (1 + count_in_order (earlier ++ lines_of (text ∷ [])) front) 0)
    (length (text ∷ texts))) bad
    ∙ ap (λ b. cond (b && ltb 0 (suc (length texts)))
    (Ok (earlier ++ lines_of (text ∷ front) ++ End ∷ [])) (Err 1)) (no_number (length front)))

-- a line that may be there, put behind others
put : (earlier : List ScriptLine) (line : Option ScriptLine) (lines : List ScriptLine)
    → (earlier ++ cons_option line []) ++ lines ≡ earlier ++ cons_option line lines
put earlier None lines = ap (λ ls. ls ++ lines) (append_none earlier)
put earlier (Some line) lines = append_assoc earlier (line ∷ []) lines

one_further : (earlier : List ScriptLine) (text : List ℕ) (front : List (List ℕ)) (good size : ℕ)
    → judged earlier (text ∷ front) (1 + good) (suc size)
    ≡ later 1 (judged (earlier ++ lines_of (text ∷ [])) front good size)
one_further earlier text front good size =
    ap (λ b. cond (b && ltb (1 + good) (suc size)) whole (Err ((1 + good) + 1)))
    (same_equal good (length front))
    ∙ (ap (λ b. cond ((good == length front) && b) whole (Err ((1 + good) + 1)))
    (same_below good size)
    ∙ go ((good == length front) && ltb good size))
  where
    whole : Found
    whole = Ok (earlier ++ lines_of (text ∷ front) ++ End ∷ [])

    go : (b : Bool) → cond b whole (Err ((1 + good) + 1))
        ≡ later 1 (cond b (Ok (earlier ++ lines_of (text ∷ []) ++ lines_of front ++ End ∷ []))
        (Err (good + 1)))
    go true = ap (λ lines. Ok (lines ++ End ∷ [])) (sym (put earlier (line_of text) (lines_of front)))
    go false = ap Err (omega arith)

-- a text that is in order
pub behind_good : (earlier : List ScriptLine) (text : List ℕ) (texts : List (List ℕ))
    → is_end text ≡ false → is_in_order earlier text ≡ true
    → script_behind earlier (text ∷ texts)
    ≡ later 1 (script_behind (earlier ++ lines_of (text ∷ [])) texts)
behind_good earlier text texts e good =
    let front = before_end texts in
    let next = earlier ++ lines_of (text ∷ []) in
    ap (λ f. judged earlier f (count_in_order earlier f) (length (text ∷ texts)))
    (front_before text texts e)
    ∙ (ap (λ b. judged earlier (text ∷ front) (cond b (1 + count_in_order next front) 0)
    (length (text ∷ texts))) good
    ∙ one_further earlier text front (count_in_order next front) (length texts))

-- ---- in the words of the code

-- a text that is passed over
pub behind_passed : (earlier : List ScriptLine) (text : List ℕ) (texts : List (List ℕ))
    → is_passed_over text ≡ true
    → script_behind earlier (text ∷ texts) ≡ later 1 (script_behind earlier texts)
behind_passed earlier text texts passed =
    let none = passed_is_no_line text passed in
    let same : earlier ++ lines_of (text ∷ []) ≡ earlier =
    ap (λ line. earlier ++ cons_option line []) none ∙ append_none earlier in
    behind_good earlier text texts (passed_is_no_end text passed)
    (ap (λ b. b || option_map_or (may_follow earlier) (line_of text) false) passed)
    ∙ ap (λ lines. later 1 (script_behind lines texts)) same

-- a text that is no line
pub behind_no_line : (earlier : List ScriptLine) (text : List ℕ) (texts : List (List ℕ))
    → is_end text ≡ false → is_passed_over text ≡ false → line_of text ≡ None
    → script_behind earlier (text ∷ texts) ≡ Err 1
behind_no_line earlier text texts e passed none =
    behind_bad earlier text texts e (rw (passed, none) refl)

-- a line that may not follow
pub behind_stray : (earlier : List ScriptLine) (text : List ℕ) (texts : List (List ℕ))
    (line : ScriptLine) → is_end text ≡ false → is_passed_over text ≡ false
    → line_of text ≡ Some line → may_follow earlier line ≡ false
    → script_behind earlier (text ∷ texts) ≡ Err 1
behind_stray earlier text texts line e passed is stray =
    behind_bad earlier text texts e (rw (passed, is) stray)

-- a line that may
pub behind_line : (earlier : List ScriptLine) (text : List ℕ) (texts : List (List ℕ))
    (line : ScriptLine) → is_end text ≡ false → is_passed_over text ≡ false
    → line_of text ≡ Some line → may_follow earlier line ≡ true
    → script_behind earlier (text ∷ texts) ≡ later 1 (script_behind (earlier ++ line ∷ []) texts)
behind_line earlier text texts line e passed is follows =
    behind_good earlier text texts e (rw (passed, is) follows)
    ∙ ap (λ l. later 1 (script_behind (earlier ++ cons_option l []) texts)) is

-- ---- counts of lines

pub later_none : (found : Found) → later 0 found ≡ found
later_none (Ok script) = refl
later_none (Err number) = ap Err (omega arith)

pub later_twice : (count : ℕ) (found : Found) → later count (later 1 found) ≡ later (count + 1) found
later_twice count (Ok script) = refl
later_twice count (Err number) = ap Err (omega arith)

pub behind_nothing : (texts : List (List ℕ)) → script_of_lines texts ≡ script_behind [] texts
behind_nothing texts = refl

-- no text
pub nothing : (bytes : List ℕ) → length bytes ≤ 0 → bytes ≡ []
nothing [] none = refl
nothing (byte ∷ bytes) none = absurd (omega arith)

pub answers_same : (result : Result Script ScriptError) (found other : Found) → found ≡ other
    → Answers result other → Answers result found
answers_same result found other same answers = subst (Answers result) (sym same) answers
