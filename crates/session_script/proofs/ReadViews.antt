-- What a reader of views answers is the view of the text.
use Rattle.std.proofs.Common.{◌≡◌, ◌∙◌, List, ℕ, Option, Some, None, IsNone, IfSome, ap, refl, sym}
use Rattle.error_test.specs.Views.{ViewParts}
use Rattle.session_script.specs.ViewTexts.{IsWithinLimits, text_of_view}
use Rattle.session_script.specs.Views.{view_of}
use Rattle.session_script.proofs.Views.{no_view, view_of_text}

pub read_is_view_of : (text : List ℕ) (r : Option ViewParts)
    → IfSome r (λ view. text ≡ text_of_view view)
    → IfSome r (λ view. IsWithinLimits view)
    → (IsNone r → (view : ViewParts) → IsWithinLimits view → text ≡ text_of_view view → ⊥)
    → r ≡ view_of text
read_is_view_of text (Some view) found within none =
    sym (ap view_of found ∙ view_of_text view within)
read_is_view_of text None found within none = sym (no_view text (none refl))
