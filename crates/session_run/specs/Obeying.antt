-- How the lines of a script are obeyed: what each adds to the journal of an engine.
use Rattle.std.specs.Prelude.{ℕ, ◌≡◌, ◌==◌, Bool, true, false, Option, Some, None, find, List, [], ◌∷◌, ◌++◌, map}
use Rattle.error_test.specs.Views.{ViewParts}
use Rattle.session_script.specs.declared.script_line.ScriptLine.{ScriptLine}
use Rattle.session_script.specs.declared.script_line.ScriptLine.TheVariants.{End, Look, Retry, Return, Settle}
use Rattle.engine_state.specs.declared.entry.Entry.{Entry}
use Rattle.engine_state.specs.declared.entry.Entry.TheVariants.{Opened, Looked, LookRefused, Returned, Taken, DocumentArrived, ContentArrived, Squeezed, Absent, Failed, Starved, Retried, Closed}
use Rattle.engine_state.specs.declared.held_frame.HeldFrame.{HeldFrame}
use Rattle.engine_state.specs.State.{State}
use Rattle.engine_state.specs.Journal.{replay}
use Rattle.engine_core.specs.Looking.{latest_view}
use Rattle.session_run.specs.Loading.{Loads}

-- ---- looks

-- a look of a viewer for a view, which has a frame or none, asked for once nothing is left to load or
-- not
abbrev pub IsLookOf : (viewer : ℕ) → ViewParts → (settled : Bool) → Entry → Type 0
IsLookOf viewer view settled (Looked pass id viewer' view' settled') =
    (pass ≡ 0) × (viewer' ≡ viewer) × (view' ≡ view) × (settled' ≡ settled)
IsLookOf viewer view settled (LookRefused pass viewer' view' settled' why) =
    (pass ≡ 0) × (viewer' ≡ viewer) × (view' ≡ view) × (settled' ≡ settled)
IsLookOf viewer view settled (Opened root bytes budget order) = ⊥
IsLookOf viewer view settled (Returned pass id) = ⊥
IsLookOf viewer view settled (Taken pass key) = ⊥
IsLookOf viewer view settled (DocumentArrived pass key bytes) = ⊥
IsLookOf viewer view settled (ContentArrived pass address size digest out) = ⊥
IsLookOf viewer view settled (Squeezed pass address size) = ⊥
IsLookOf viewer view settled (Absent pass key why) = ⊥
IsLookOf viewer view settled (Failed pass key count) = ⊥
IsLookOf viewer view settled (Starved pass key) = ⊥
IsLookOf viewer view settled (Retried pass) = ⊥
IsLookOf viewer view settled (Closed pass) = ⊥

-- the viewer has looked
pub record HasLooked (viewer : ℕ) (view : ViewParts) (settled : Bool) (old new : List Entry)
    : Type 0 where
  pub look : Entry
  pub is_look : IsLookOf viewer view settled look
  pub added : new ≡ old ++ look ∷ []

-- it looks once more for its latest view, where it has one
abbrev pub LooksAgain : Option ViewParts → ℕ → List Entry → List Entry → Type 0
LooksAgain None viewer old new = new ≡ old
LooksAgain (Some view) viewer old new = HasLooked viewer view true old new

-- what is wanted is loaded, and then the viewer looks once more
pub record HasSettled (viewer : ℕ) (old new : List Entry) : Type 0 where
  pub loaded : List Entry
  pub loads : Loads old loaded
  pub looks : LooksAgain (latest_view (replay loaded) viewer) viewer loaded new

-- ---- frames that are given back

-- the oldest of the frames that a viewer holds
abbrev pub oldest : State → ℕ → Option HeldFrame
oldest s viewer = find (λ frame. frame.viewer == viewer) s.frames

-- a frame goes back, where there is one
abbrev pub GoesBack : Option HeldFrame → List Entry → List Entry → Type 0
GoesBack None old new = new ≡ old
GoesBack (Some frame) old new = new ≡ old ++ Returned 0 frame.id ∷ []

-- ---- lines

-- a line before the end is obeyed
abbrev pub Obeys : ScriptLine → List Entry → List Entry → Type 0
Obeys (Look viewer view) old new = HasLooked viewer view false old new
Obeys (Settle viewer) old new = HasSettled viewer old new
Obeys (Return viewer) old new = GoesBack (oldest (replay old) viewer) old new
Obeys Retry old new = new ≡ old ++ Retried 0 ∷ []
Obeys End old new = new ≡ old

-- lines are obeyed, one after the other
abbrev pub ObeysAll : List ScriptLine → List Entry → List Entry → Type 0
ObeysAll [] old new = new ≡ old
ObeysAll (line ∷ lines) old new =
    (middle : List Entry) × Obeys line old middle × ObeysAll lines middle new

-- ---- the end

-- each frame that is held goes back, by rising number, and the engine is closed
abbrev pub ending : State → List Entry
ending s = map (λ frame. Returned 0 frame.id) s.frames ++ Closed 0 ∷ []
