-- What a look gives, and why it has no frame.
use Rattle.std.specs.Prelude.{ℕ, ◌≡◌, ◌==◌, ◌+◌, Bool, true, false, IsTrue, Option, Some, None, is_some, option_map, List, [], ◌∷◌, ◌++◌, find, length, map, slice_get}
use Rattle.error_test.specs.Views.{ViewParts}
use Rattle.frame_pins.specs.declared.why.Why.{Why}
use Rattle.frame_pins.specs.Frames.{FrameParts}
use Rattle.engine_state.specs.declared.entry.Entry.{Entry}
use Rattle.engine_state.specs.declared.entry.Entry.TheVariants as entry
use Rattle.engine_state.specs.declared.seen.Seen.{Seen}
use Rattle.engine_state.specs.State.{State}
use Rattle.engine_state.specs.Frames.{frame_lines, is_too_large}
use Rattle.engine_state.specs.Loading.{is_settled, takeable}
use Rattle.engine_state.specs.Allowed.{may_hold_more, may_refuse}
use Rattle.engine_state.specs.Journal.{replay}
use Rattle.engine_state.specs.Report.{line_of_shown}
use Rattle.engine_core.specs.declared.error.LookError.{LookError}
use Rattle.engine_core.specs.declared.error.LookError.TheVariants.{Closed, JournalFull, NotSettled, NoView, OutOfMemory, Refused}
use Rattle.engine_core.specs.Journals.{IsFull, MayGoOn}

-- the frame is the viewer's next one for the view, and shows the lines of the state
pub record IsNextFrame (journal : List Entry) (viewer : ℕ) (view : ViewParts) (frame : FrameParts)
    : Type 0 where
  pub next : frame.id ≡ (replay journal).looks + 1
  pub own_viewer : frame.viewer ≡ viewer
  pub own_view : frame.view ≡ view
  pub lines : map line_of_shown frame.shown ≡ frame_lines (replay journal) view
  pub within : is_too_large (replay journal) view ≡ false
  pub few : may_hold_more (replay journal) ≡ true

-- what is noted of a look that has a frame
abbrev pub looked : List Entry → ℕ → ℕ → ViewParts → Bool → Entry
looked journal pass viewer view settled =
    entry.Looked pass ((replay journal).looks + 1) viewer view settled

-- why a view has no frame where the engine may go on, and what is noted then: only that the view
-- can't be shown is
abbrev pub RefusesShow : (old new : List Entry) → (pass viewer : ℕ) → ViewParts → (settled : Bool)
    → LookError → Type 0
RefusesShow old new pass viewer view settled (Refused why) =
    IsTrue (may_refuse (replay old) view why)
    × (new ≡ old ++ entry.LookRefused pass viewer view settled why ∷ [])
RefusesShow old new pass viewer view settled OutOfMemory = new ≡ old
RefusesShow old new pass viewer view settled Closed = ⊥
RefusesShow old new pass viewer view settled (JournalFull entries) = ⊥
RefusesShow old new pass viewer view settled (NoView entries) = ⊥
RefusesShow old new pass viewer view settled (NotSettled entries flying left) = ⊥

-- why a look has no frame
abbrev pub RefusesLook : (old new : List Entry) → (room pass viewer : ℕ) → ViewParts → LookError
    → Type 0
RefusesLook old new room pass viewer view Closed = ((replay old).closed ≡ true) × (new ≡ old)
RefusesLook old new room pass viewer view (JournalFull entries) =
    IsFull old room entries × (new ≡ old)
RefusesLook old new room pass viewer view (Refused why) =
    MayGoOn old room × IsTrue (may_refuse (replay old) view why)
    × (new ≡ old ++ entry.LookRefused pass viewer view false why ∷ [])
RefusesLook old new room pass viewer view OutOfMemory = MayGoOn old room × (new ≡ old)
RefusesLook old new room pass viewer view (NoView entries) = ⊥
RefusesLook old new room pass viewer view (NotSettled entries flying left) = ⊥

-- ---- looks that ask that nothing is left to load

abbrev pub is_viewer_of : ℕ → Option Seen → Bool
is_viewer_of viewer None = false
is_viewer_of viewer (Some seen) = seen.viewer == viewer

-- the view at a place is of this viewer
abbrev pub is_viewer_at : List Seen → ℕ → ℕ → Bool
is_viewer_at views viewer at = is_viewer_of viewer (slice_get views at)

-- the viewer's view among the latest ones
abbrev pub latest_in : List Seen → ℕ → Option ViewParts
latest_in views viewer = option_map (λ seen. seen.view) (find (λ seen. seen.viewer == viewer) views)

abbrev pub latest_view : State → ℕ → Option ViewParts
latest_view s viewer = latest_in s.views viewer

-- nothing is left to load, and the frame is the next one for the viewer's latest view
pub record IsSettledFrame (journal : List Entry) (viewer : ℕ) (frame : FrameParts) : Type 0 where
  pub latest : latest_view (replay journal) viewer ≡ Some frame.view
  pub settled : is_settled (replay journal) ≡ true
  pub next : IsNextFrame journal viewer frame.view frame

-- something is left to load for a viewer that has looked: so many keys are being fetched, and so many
-- may be taken
pub record IsUnsettled (journal : List Entry) (room viewer entries flying left : ℕ) : Type 0 where
  pub goes_on : MayGoOn journal room
  pub has_looked : is_some (latest_view (replay journal) viewer) ≡ true
  pub unsettled : is_settled (replay journal) ≡ false
  pub entries_are : entries ≡ length journal
  pub flying_are : flying ≡ length (replay journal).flying
  pub left_are : left ≡ length (takeable (replay journal))

-- nothing is left to load, but the viewer's latest view can't be shown, which is noted
pub record RefusesLatest (old new : List Entry) (room pass viewer : ℕ) (why : Why) : Type 0 where
  pub goes_on : MayGoOn old room
  pub settled : is_settled (replay old) ≡ true
  pub view : ViewParts
  pub latest : latest_view (replay old) viewer ≡ Some view
  pub may : IsTrue (may_refuse (replay old) view why)
  pub noted : new ≡ old ++ entry.LookRefused pass viewer view true why ∷ []

-- why such a look has no frame, and what is noted then
abbrev pub RefusesSettled : (old new : List Entry) → (room pass viewer : ℕ) → LookError → Type 0
RefusesSettled old new room pass viewer Closed = ((replay old).closed ≡ true) × (new ≡ old)
RefusesSettled old new room pass viewer (JournalFull entries) = IsFull old room entries × (new ≡ old)
RefusesSettled old new room pass viewer (NoView entries) =
    MayGoOn old room × (latest_view (replay old) viewer ≡ None)
    × (entries ≡ length old) × (new ≡ old)
RefusesSettled old new room pass viewer (NotSettled entries flying left) =
    IsUnsettled old room viewer entries flying left × (new ≡ old)
RefusesSettled old new room pass viewer (Refused why) = RefusesLatest old new room pass viewer why
RefusesSettled old new room pass viewer OutOfMemory = MayGoOn old room × (new ≡ old)
