-- Frames, and the names of refusals.
use Rattle.std.specs.Prelude.{ℕ, List, codes}
use Rattle.error_test.specs.Views.{ViewParts}
use Rattle.frame_pins.specs.declared.shown.Shown.{Shown}
use Rattle.frame_pins.specs.declared.why.Why.{Why}
use Rattle.frame_pins.specs.declared.why.Why.TheVariants.{FramesFull, TooLarge}

-- what a viewer was given for a view: the frame's number, the viewer's, the view, and the contents
-- that are shown, in the order of the cut
pub record FrameParts : Type 0 where
  pub id : ℕ
  pub viewer : ℕ
  pub view : ViewParts
  pub shown : List Shown

-- the word that is written of a refusal
abbrev pub why_name : Why → List ℕ
why_name FramesFull = codes "FramesFull"
why_name TooLarge = codes "TooLarge"
