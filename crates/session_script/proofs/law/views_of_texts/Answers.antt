use Rattle.std.proofs.Common.{◌≡◌, List, ℕ, Some, Option, None}
use Rattle.std.specs.Prelude.{IfSome}
use Rattle.error_test.specs.Views.{ViewParts}
use Rattle.session_script.specs.ViewTexts.{IsWithinLimits, text_of_view}
use Rattle.session_script.specs.Views.{view_of}
use Rattle.session_script.proofs.Views.{IsSpelled, text_of_its_view, view_of_text}
use Rattle.session_script.proofs.law.views_of_texts.Goals as goal

as_pair : (text : List ℕ) (view : Option ViewParts) → IfSome view (IsSpelled text)
    → IfSome view (λ v. (text ≡ text_of_view v) × IsWithinLimits v)
as_pair text None is = tt
as_pair text (Some v) is = (is.text_is, is.within)

pub returns : goal.returns
returns c = record {
  spelled = view_of_text;
  read = λ text. as_pair text (view_of text) (text_of_its_view text);
}
