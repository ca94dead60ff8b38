-- Texts that are no line before the end.
use Rattle.std.proofs.Common.{◌≡◌, ◌∙◌, ℕ, ◌<◌, ◌==◌, List, [], ◌∷◌, length, Option, None, Some, false, true, ap, arith, refl}
use Rattle.std.proofs.lemmas.Bool.{eqb-true}
use Rattle.std.specs.List.{onto_first, slice_split}
use Rattle.error_test.specs.Views.{ViewParts}
use Rattle.session_script.specs.Chains.{◌>>=◌}
use Rattle.session_script.specs.ScriptLines.{is_passed_over, line_of, line_of_viewer, line_of_words}
use Rattle.session_script.specs.ScriptLines.{look_line, viewer_of}
use Rattle.session_script.specs.Scripts.{is_end}
use Rattle.session_script.specs.Views.{view_of}

-- a view, and words behind it
pub no_line_of_more : (name : List ℕ) (viewer : ℕ) (view : List ℕ) (words : List (List ℕ))
    → 0 < length words → line_of_viewer name viewer (view ∷ words) ≡ None
no_line_of_more name viewer view [] some = absurd (omega arith)
no_line_of_more name viewer view (word ∷ words) some = refl

-- a name that begins with `#`
no_look : (rest : List ℕ) (viewer : ℕ) (view : Option ViewParts)
    → (view >>= λ v. look_line (35 ∷ rest) viewer v) ≡ None
no_look rest viewer None = refl
no_look rest viewer (Some v) = refl

no_viewer : (rest : List ℕ) (viewer : ℕ) (words : List (List ℕ))
    → line_of_viewer (35 ∷ rest) viewer words ≡ None
no_viewer rest viewer [] = refl
no_viewer rest viewer (view ∷ []) = no_look rest viewer (view_of view)
no_viewer rest viewer (view ∷ word ∷ words) = refl

no_words : (rest : List ℕ) (viewer : Option ℕ) (words : List (List ℕ))
    → (viewer >>= λ v. line_of_viewer (35 ∷ rest) v words) ≡ None
no_words rest None words = refl
no_words rest (Some v) words = no_viewer rest v words

no_line : (rest : List ℕ) (words : List (List ℕ)) → line_of_words ((35 ∷ rest) ∷ words) ≡ None
no_line rest [] = refl
no_line rest (viewer ∷ words) = no_words rest (viewer_of viewer) words

-- a text that is passed over is no line
pub passed_is_no_line : (text : List ℕ) → is_passed_over text ≡ true → line_of text ≡ None
passed_is_no_line [] passed = refl
passed_is_no_line (byte ∷ text) passed =
    let same : byte ≡ 35 = eqb-true byte 35 passed in
    ap (λ b. line_of (b ∷ text)) same ∙ go (slice_split (λ b. b == 32) text)
  where
    go : (parts : List (List ℕ)) → line_of_words (onto_first 35 parts) ≡ None
    go [] = no_line [] []
    go (part ∷ parts) = no_line part parts

-- nor is it the end
pub passed_is_no_end : (text : List ℕ) → is_passed_over text ≡ true → is_end text ≡ false
passed_is_no_end [] passed = refl
passed_is_no_end (byte ∷ text) passed =
    let same : byte ≡ 35 = eqb-true byte 35 passed in ap (λ b. is_end (b ∷ text)) same
