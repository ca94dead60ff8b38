-- As many frames are held as may be.
use Rattle.std.proofs.Common.{ℕ, ◌≤◌, ◌≡◌, Bool, true, List, [], ◌∷◌, ◌++◌, IsTrue, length, ◌∙◌, ap, arith, eq-eqb}
use Rattle.std.proofs.lemmas.List.{append-nil, length-map}
use Rattle.error_test.specs.Views.{ViewParts}
use Rattle.frame_pins.specs.declared.why.Why.TheVariants.{FramesFull}
use Rattle.engine_state.specs.declared.entry.Entry.{Entry}
use Rattle.engine_state.specs.declared.entry.Entry.TheVariants.{LookRefused}
use Rattle.engine_state.specs.declared.limits.TheConstants.{FRAME_LIMIT}
use Rattle.engine_state.specs.Allowed.{may_refuse}
use Rattle.engine_state.specs.Journal.{legal, replay}
use Rattle.engine_state.specs.Laws.{AreNumbered}
use Rattle.engine_core.specs.declared.parts.Parts.{Parts}
use Rattle.engine_core.specs.Holding.{pins_of}
use Rattle.engine_core.specs.Mirrors.{Lives, state_of}

-- what the law says of the frames that are held
abbrev pub NumbersFrames : Type 0
NumbersFrames = (before rest : List Entry) → IsTrue (legal (before ++ rest))
    → AreNumbered (replay before)

pub frames_full : (p : Parts) (view : ViewParts) → NumbersFrames → Lives p
    → FRAME_LIMIT ≤ length p.frames.items → may_refuse (state_of p) view FramesFull ≡ true
frames_full p view law l full =
    let s = state_of p in
    let numbered = law p.entries.items []
    (ap legal (append-nil p.entries.items) ∙ l.is_legal) in
    let few = numbered.few in
    let held : length p.frames.items ≡ length s.frames =
    ap length l.mirrors.shows.held_is ∙ length-map s.frames pins_of in
    eq-eqb (length s.frames) FRAME_LIMIT (omega arith)

-- a refusal that is noted behind the same journal, of the same view
pub noted_full : (old mid new : List Entry) (pass viewer : ℕ) (noted view : ViewParts)
    (settled : Bool) → new ≡ mid ++ LookRefused pass viewer noted settled FramesFull ∷ []
    → mid ≡ old → noted ≡ view → new ≡ old ++ LookRefused pass viewer view settled FramesFull ∷ []
noted_full old mid new pass viewer noted view settled n m v =
    n
    ∙ ap (λ es. es ++ LookRefused pass viewer noted settled FramesFull ∷ []) m
    ∙ ap (λ x. old ++ LookRefused pass viewer x settled FramesFull ∷ []) v
