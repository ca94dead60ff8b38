-- What holds behind a call: a frame that was given is held; bytes that came are noted.
use Rattle.std.specs.Prelude.{IfOk, IsOk, OnOk}
use Rattle.std.proofs.Common.{ℕ, ◌≡◌, ◌==◌, ◌+◌, ◌||◌, Bool, true, false, Result, Ok, Err, List, [], ◌∷◌, ◌++◌, IsTrue, refl, sym, ◌∙◌, ap, eq-eqb}
use Rattle.std.specs.List.{list_any}
use Rattle.error_test.specs.Views.{ViewParts}
use Rattle.frame_pins.specs.Frames.{FrameParts}
use Rattle.engine_state.specs.declared.entry.Entry.{Entry}
use Rattle.engine_state.specs.Frames.{is_held}
use Rattle.engine_state.specs.Journal.{replay}
use Rattle.engine_core.specs.declared.error.LookError.{LookError}
use Rattle.engine_core.specs.Looking.{IsNextFrame, IsSettledFrame, looked}
use Rattle.engine_core.proofs.Steps.{replay_more}

-- the last one passes the test
any_last : {A : Type 0} (test : A → Bool) (xs : List A) (x : A) → test x ≡ true
    → list_any test (xs ++ x ∷ []) ≡ true
any_last test [] x e = ap (λ b. b || false) e
any_last test (y ∷ ys) x e = ap (λ b. test y || b) (any_last test ys x e) ∙ or_true (test y)
  where
    or_true : (b : Bool) → (b || true) ≡ true
    or_true true = refl
    or_true false = refl

held_after : (old new : List Entry) (pass viewer id : ℕ) (view : ViewParts) (settled : Bool)
    → id ≡ (replay old).looks + 1 → new ≡ old ++ looked old pass viewer view settled ∷ []
    → is_held (replay new).frames id ≡ true
held_after old new pass viewer id view settled next is =
    ap (λ j. is_held (replay j).frames id) is
    ∙ ap (λ s. is_held s.frames id) (replay_more old (looked old pass viewer view settled))
    ∙ any_last (λ frame. frame.id == id) (replay old).frames _ (eq-eqb _ _ (sym next))

-- a frame that was given is held
pub frame_is_held : (result : Result FrameParts LookError) (old new : List Entry)
    (pass viewer : ℕ) (view : ViewParts) (settled : Bool)
    → IfOk result (IsNextFrame old viewer view)
    → OnOk result (new ≡ old ++ looked old pass viewer view settled ∷ [])
    → IfOk result (λ frame. IsTrue (is_held (replay new).frames frame.id))
frame_is_held (Ok frame) old new pass viewer view settled next is =
    held_after old new pass viewer frame.id view settled next.next is
frame_is_held (Err e) old new pass viewer view settled next is = tt

pub settled_frame_is_held : (result : Result FrameParts LookError) (old new : List Entry)
    (pass viewer : ℕ) → IfOk result (IsSettledFrame old viewer)
    → IfOk result (λ frame. new ≡ old ++ looked old pass viewer frame.view true ∷ [])
    → IfOk result (λ frame. IsTrue (is_held (replay new).frames frame.id))
settled_frame_is_held (Ok frame) old new pass viewer settled is =
    held_after old new pass viewer frame.id frame.view true settled.next.next is
settled_frame_is_held (Err e) old new pass viewer settled is = tt

-- ---- bytes that are handed back

-- what holds where bytes arrived holds where they weren't handed back
pub came : {A B C D : Type 0} (arrived : Result A B) (result : Result C D) (P : Type 0)
    → (IsOk result → IsOk arrived) → OnOk arrived P → OnOk result P
came (Ok a) (Ok c) P h p = p
came (Ok a) (Err e) P h p = tt
came (Err b) (Ok c) P h p = let no : false ≡ true = h refl in cc
came (Err b) (Err e) P h p = tt
