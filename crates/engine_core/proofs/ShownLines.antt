-- The lines that a frame shows of a cut.
use Rattle.std.proofs.Common.{ℕ, ◌≡◌, Bool, true, false, cond, Some, None, option_map, List, [], ◌∷◌, ◌++◌, find, map, refl, sym, ◌∙◌, ap, append-nil}
use Rattle.std.specs.List.{cons_option}
use Rattle.std.proofs.lemmas.List.{map-append}
use Rattle.content_digest.specs.Facts.{facts_of}
use Rattle.cut_core.specs.declared.line.CutLine.{CutLine}
use Rattle.frame_pins.specs.declared.shown.Shown.{Shown}
use Rattle.tile_cache.specs.Residents.{Resident, content_at, same_text}
use Rattle.engine_state.specs.declared.frame_line.FrameLine.{FrameLine}
use Rattle.engine_state.specs.Frames.{addresses_of, line_from, line_with}
use Rattle.engine_state.specs.Laws.{known}
use Rattle.engine_state.specs.Report.{line_of_shown}
use Rattle.engine_core.specs.Holding.{lines_with}

-- a line with its content
abbrev pub shown_as : CutLine → List ℕ → FrameLine
shown_as line content =
    record { tile = line.tile; address = line.address; facts = facts_of content }

line_there : (rs : List Resident) (line : CutLine)
    → line_from (map known rs) line ≡ option_map (shown_as line) (content_at rs line.address)
line_there [] line = refl
line_there (r ∷ rs) line = by (same_text r.address line.address) (line_there rs line)
  where
    by : (b : Bool)
        → line_from (map known rs) line ≡ option_map (shown_as line) (content_at rs line.address)
        → option_map (line_with line)
        (cond b (Some (known r)) (find (λ x. same_text x.address line.address) (map known rs)))
        ≡ option_map (shown_as line) (option_map (λ x. x.content)
        (cond b (Some r) (find (λ x. same_text x.address line.address) rs)))
    by true h = refl
    by false h = h

no_line : (rs : List Resident) (line : CutLine) → content_at rs line.address ≡ None
    → lines_with rs (line ∷ []) ≡ []
no_line rs line e =
    ap (λ o. cons_option o []) (line_there rs line ∙ ap (option_map (shown_as line)) e)

one_line : (rs : List Resident) (line : CutLine) (content : List ℕ)
    → content_at rs line.address ≡ Some content
    → lines_with rs (line ∷ []) ≡ shown_as line content ∷ []
one_line rs line content e =
    ap (λ o. cons_option o []) (line_there rs line ∙ ap (option_map (shown_as line)) e)

-- the line of what is shown
line_shown : (line : CutLine) (content : List ℕ) (one : Shown) → one.tile ≡ line.tile
    → one.address ≡ line.address → one.content ≡ content
    → line_of_shown one ≡ shown_as line content
line_shown line content one t a c =
    ap (λ x. record { tile = x; address = one.address; facts = facts_of one.content }) t
    ∙ ap (λ x. record { tile = line.tile; address = x; facts = facts_of one.content }) a
    ∙ ap (λ x. record { tile = line.tile; address = line.address; facts = facts_of x }) c

-- one more is shown
pub shown_more : (rs : List Resident) (line : CutLine) (content : List ℕ) (shown whole : List Shown)
    (one : Shown) → content_at rs line.address ≡ Some content → whole ≡ shown ++ one ∷ []
    → one.tile ≡ line.tile → one.address ≡ line.address → one.content ≡ content
    → map line_of_shown whole ≡ map line_of_shown shown ++ lines_with rs (line ∷ [])
shown_more rs line content shown whole one e w t a c =
    ap (map line_of_shown) w ∙ map-append line_of_shown shown (one ∷ [])
    ∙ ap (λ l. map line_of_shown shown ++ l ∷ []) (line_shown line content one t a c)
    ∙ ap (λ ls. map line_of_shown shown ++ ls) (sym (one_line rs line content e))

-- and its address
pub address_more : (rs : List Resident) (line : CutLine) (content : List ℕ)
    (addresses whole : List (List ℕ)) (one : List ℕ) → content_at rs line.address ≡ Some content
    → whole ≡ addresses ++ one ∷ [] → one ≡ line.address
    → whole ≡ addresses ++ addresses_of (lines_with rs (line ∷ []))
address_more rs line content addresses whole one e w o =
    w ∙ ap (λ x. addresses ++ x ∷ []) o
    ∙ ap (λ ls. addresses ++ addresses_of ls) (sym (one_line rs line content e))

-- nothing more is shown
pub none_more : {A : Type 0} (f : List FrameLine → List A) (rs : List Resident) (line : CutLine)
    (xs : List A) → f [] ≡ [] → content_at rs line.address ≡ None
    → xs ≡ xs ++ f (lines_with rs (line ∷ []))
none_more f rs line xs nil e =
    sym (ap (λ ls. xs ++ f ls) (no_line rs line e) ∙ ap (λ ys. xs ++ ys) nil ∙ append-nil xs)
