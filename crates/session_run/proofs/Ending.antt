-- All frames go back.
use Rattle.std.proofs.Common.{◌≡◌, ◌==◌, ◌||◌, if◌then◌else◌, List, [], ◌∷◌, ◌++◌, IsTrue, append_assoc, length, map, refl, sym, ◌∙◌, ap, arith, eq-eqb}
use Rattle.frame_pins.specs.Frames.{FrameParts}
use Rattle.engine_state.specs.declared.entry.Entry.{Entry}
use Rattle.engine_state.specs.declared.entry.Entry.TheVariants.{Closed, Returned}
use Rattle.engine_state.specs.declared.held_frame.HeldFrame.{HeldFrame}
use Rattle.engine_state.specs.After.{without_first}
use Rattle.engine_state.specs.Frames.{is_held}
use Rattle.engine_state.specs.Journal.{replay}
use Rattle.session_run.specs.declared.own_frame.OwnFrame.{OwnFrame}
use Rattle.session_run.specs.Obeying.{ending}
use Rattle.session_run.specs.Sessions.{AreThoseHeld, owned_by}
use Rattle.session_run.proofs.Holding.{owned_pair}
use Rattle.session_run.proofs.Journals.{replay_more}

-- the state's frames begin with this one
record IsFirst (own : OwnFrame) (rest : List OwnFrame) (fs : List HeldFrame) : Type 0 where
  left : List HeldFrame
  frame : HeldFrame
  is : fs ≡ frame ∷ left
  id : frame.id ≡ own.frame.id
  held : map owned_pair rest ≡ map owned_by left

first_of : (own : OwnFrame) (rest : List OwnFrame) (fs : List HeldFrame)
    → owned_pair own ∷ map owned_pair rest ≡ map owned_by fs → IsFirst own rest fs
first_of own rest [] e = cc
first_of own rest (f ∷ fs) e =
    let head : owned_pair own ≡ owned_by f = cc in
    record { left = fs; frame = f; is = refl; id = sym (ap (λ p. p.0) head); held = cc }

module _ (journal new : List Entry) (own : OwnFrame) (rest all : List OwnFrame)
    (all_are : all ≡ own ∷ rest) (h : AreThoseHeld all journal) where
  first : IsFirst own rest (replay journal).frames
  first = first_of own rest (replay journal).frames (sym (ap (map owned_pair) all_are) ∙ h)

  -- what goes back is this frame
  pub returned_is : (frame : FrameParts) → frame ≡ own.frame
      → new ≡ journal ++ Returned 0 frame.id ∷ [] → new ≡ journal ++ Returned 0 own.frame.id ∷ []
  returned_is frame e is = is ∙ ap (λ f. journal ++ Returned 0 f.id ∷ []) e

  pub first_held : IsTrue (is_held (replay journal).frames own.frame.id)
  first_held =
      ap (λ fs. is_held fs own.frame.id) first.is
      ∙ ap (λ b. b || is_held first.left own.frame.id)
      (eq-eqb first.frame.id own.frame.id first.id)

  frames_left : new ≡ journal ++ Returned 0 own.frame.id ∷ [] → (replay new).frames ≡ first.left
  frames_left is =
      ap (λ j. (replay j).frames) is
      ∙ ap (λ s. s.frames) (replay_more journal (Returned 0 own.frame.id))
      ∙ ap (without_first (λ f. f.id == own.frame.id)) first.is
      ∙ ap (λ b. if b then first.left
      else first.frame ∷ without_first (λ f. f.id == own.frame.id) first.left)
      (eq-eqb first.frame.id own.frame.id first.id)

  pub rest_held : new ≡ journal ++ Returned 0 own.frame.id ∷ [] → AreThoseHeld rest new
  rest_held is = first.held ∙ sym (ap (map owned_by) (frames_left is))

  pub same_end : (whole : List Entry) → new ≡ journal ++ Returned 0 own.frame.id ∷ []
      → journal ++ ending (replay journal) ≡ whole → new ++ ending (replay new) ≡ whole
  same_end whole is ends =
      let end = λ (fs : List HeldFrame). map (λ f. Returned 0 f.id) fs ++ Closed 0 ∷ [] in
      ap (λ fs. new ++ end fs) (frames_left is)
      ∙ ap (λ j. j ++ end first.left) is
      ∙ append_assoc journal (Returned 0 own.frame.id ∷ []) (end first.left)
      ∙ ap (λ id. journal ++ Returned 0 id ∷ end first.left) (sym first.id)
      ∙ ap (λ fs. journal ++ end fs) (sym first.is)
      ∙ ends

-- none is left
none_held : (fs : List HeldFrame) → [] ≡ map owned_by fs → fs ≡ []
none_held [] e = refl
none_held (f ∷ fs) e = cc

no_owns : (owns : List OwnFrame) → length owns ≡ 0 → owns ≡ []
no_owns [] e = refl
no_owns (o ∷ os) e = absurd (omega arith)

pub all_ended : (owns : List OwnFrame) (journal : List Entry) → length owns ≡ 0
    → AreThoseHeld owns journal → journal ++ ending (replay journal) ≡ journal ++ Closed 0 ∷ []
all_ended owns journal none h =
    ap (λ fs. journal ++ (map (λ f. Returned 0 f.id) fs ++ Closed 0 ∷ []))
    (none_held (replay journal).frames (sym (ap (map owned_pair) (no_owns owns none)) ∙ h))
