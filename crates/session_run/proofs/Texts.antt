-- What is reported of further entries.
use Rattle.std.proofs.Common.{ℕ, ◌≡◌, ◌+◌, Bool, IfOk, OnOk, Option, Some, None, Result, Ok, Err, List, [], ◌∷◌, ◌++◌, sym, ◌∙◌, ap}
use Rattle.std.proofs.lemmas.List.{append-nil}
use Rattle.error_test.specs.Views.{ViewParts}
use Rattle.frame_pins.specs.Frames.{FrameParts}
use Rattle.frame_pins.specs.declared.why.Why.{Why}
use Rattle.frame_text.specs.Lines.{lines_of, refused_line}
use Rattle.engine_state.specs.declared.entry.Entry.{Entry}
use Rattle.engine_state.specs.declared.entry.Entry.TheVariants.{LookRefused, Looked, Retried, Returned}
use Rattle.engine_state.specs.declared.held_frame.HeldFrame.{HeldFrame}
use Rattle.engine_state.specs.State.{unopened}
use Rattle.engine_state.specs.Frames.{frame_lines}
use Rattle.engine_state.specs.Journal.{replay}
use Rattle.engine_state.specs.Report.{report_lines, reported}
use Rattle.engine_state.proofs.Steps.{printed_as_reported, report-append}
use Rattle.engine_core.specs.Looking.{IsNextFrame, looked}
use Rattle.session_run.specs.Loading.{Loads}
use Rattle.session_run.specs.Obeying.{GoesBack}
use Rattle.session_run.specs.Sessions.{AreReported}
use Rattle.session_run.proofs.Loaded.{reported_behind}

-- one entry more
reported_more : (old new : List Entry) (e : Entry) (texts : List (List ℕ))
    → new ≡ old ++ e ∷ [] → texts ≡ reported (replay old) e → AreReported old new texts
reported_more old new e texts is are =
    ap report_lines is ∙ report-append unopened old (e ∷ [])
    ∙ ap (λ ts. report_lines old ++ ts) (append-nil (reported (replay old) e) ∙ sym are)

-- none
reported_still : (old new : List Entry) (texts : List (List ℕ)) → new ≡ old → texts ≡ []
    → AreReported old new texts
reported_still old new texts is none =
    ap report_lines is ∙ sym (append-nil (report_lines old))
    ∙ ap (λ ts. report_lines old ++ ts) (sym none)

-- a look that is refused
pub refused_reported : (old new : List Entry) (viewer : ℕ) (view : ViewParts) (settled : Bool)
    (why : Why) (texts : List (List ℕ))
    → new ≡ old ++ LookRefused 0 viewer view settled why ∷ [] → texts ≡ refused_line viewer why ∷ []
    → AreReported old new texts
refused_reported old new viewer view settled why texts is are =
    reported_more old new (LookRefused 0 viewer view settled why) texts is are

-- the lines of the next frame are what is reported of it
pub next_reported : (old new : List Entry) (viewer : ℕ) (view : ViewParts) (settled : Bool)
    (frame : FrameParts) (texts : List (List ℕ)) → IsNextFrame old viewer view frame
    → new ≡ old ++ looked old 0 viewer view settled ∷ [] → texts ≡ lines_of frame
    → AreReported old new texts
next_reported old new viewer view settled frame texts n is are =
    let s = replay old in
    reported_more old new (looked old 0 viewer view settled) texts is
    (are
    ∙ printed_as_reported s frame 0 settled (n.lines ∙ ap (frame_lines s) (sym n.own_view))
    ∙ ap (λ id. reported s (Looked 0 id frame.viewer frame.view settled)) n.next
    ∙ ap (λ v. reported s (Looked 0 (s.looks + 1) v frame.view settled)) n.own_viewer
    ∙ ap (λ v. reported s (Looked 0 (s.looks + 1) viewer v settled)) n.own_view)

-- ---- what lines report

-- a line that asks for loads reports what is reported behind them
pub settled_texts : {E : Type 0} (result : Result (List (List ℕ)) E) (old loaded new : List Entry)
    → Loads old loaded → IfOk result (AreReported loaded new) → IfOk result (AreReported old new)
settled_texts (Ok texts) old loaded new l a = reported_behind old loaded new texts l a
settled_texts (Err e) old loaded new l a = tt

-- a frame that goes back reports nothing
pub returned_texts : (frame : Option HeldFrame) (old new : List Entry) (texts : List (List ℕ))
    → GoesBack frame old new → texts ≡ [] → AreReported old new texts
returned_texts None old new texts g none = reported_still old new texts g none
returned_texts (Some frame) old new texts g none =
    reported_more old new (Returned 0 frame.id) texts g none

-- nor does a further try
pub retried_texts : {E : Type 0} (result : Result (List (List ℕ)) E) (old new : List Entry)
    → OnOk result (new ≡ old ++ Retried 0 ∷ []) → IfOk result (λ texts. texts ≡ [])
    → IfOk result (AreReported old new)
retried_texts (Ok texts) old new is none = reported_more old new (Retried 0) texts is none
retried_texts (Err e) old new is none = tt
