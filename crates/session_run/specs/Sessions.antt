-- What a session is seen as, and how its calls end.
use Rattle.std.specs.Prelude.{ℕ, ◌≡◌, ◌<◌, ◌⊎◌, Option, List, [], ◌++◌, length, map}
use Rattle.source_port.specs.Library.{Library}
use Rattle.frame_pins.specs.Frames.{FrameParts}
use Rattle.session_script.specs.declared.script_line.ScriptLine.{ScriptLine}
use Rattle.engine_state.specs.declared.entry.Entry.{Entry}
use Rattle.engine_state.specs.declared.held_frame.HeldFrame.{HeldFrame}
use Rattle.engine_state.specs.Journal.{fullness, replay}
use Rattle.engine_state.specs.Report.{report_lines}
use Rattle.session_run.specs.declared.own_frame.OwnFrame.{OwnFrame}
use Rattle.session_run.specs.declared.error.SessionError.{SessionError}
use Rattle.session_run.specs.declared.error.SessionError.TheVariants.{JournalFull, OutOfMemory}
use Rattle.session_run.specs.Loading.{Loads}
use Rattle.session_run.specs.Obeying.{Obeys}

-- the number of a frame and of its viewer
abbrev pub owned : FrameParts → ℕ × ℕ
owned frame = (frame.id, frame.viewer)

abbrev pub owned_by : HeldFrame → ℕ × ℕ
owned_by frame = (frame.id, frame.viewer)

-- these frames are those that the state holds, in its order
abbrev pub AreThoseHeld : List OwnFrame → List Entry → Type 0
AreThoseHeld frames journal = map (λ own. owned own.frame) frames ≡ map owned_by (replay journal).frames

-- what a session is seen as: the journal of its engine, how many entries that may have, and the
-- library that is loaded from, where it is told
pub record SessionParts : Type 0 where
  pub journal : List Entry
  pub room : ℕ
  pub library : Option Library

-- it holds the frames that its engine's state holds, and nothing is being fetched
pub record IsSession (journal : List Entry) (frames : List OwnFrame) : Type 0 where
  pub held : AreThoseHeld frames journal
  pub none_flies : (replay journal).flying ≡ []

-- the texts are what the journal reports of the entries that were added
abbrev pub AreReported : List Entry → List Entry → List (List ℕ) → Type 0
AreReported old new texts = report_lines new ≡ report_lines old ++ texts

-- why a line wasn't obeyed: the journal is full, and has this many entries, or memory ran out
abbrev pub IsCauseAt : List Entry → ℕ → SessionError → Type 0
IsCauseAt journal room (JournalFull entries) =
    (room < fullness journal) × (entries ≡ length journal)
IsCauseAt journal room OutOfMemory = Unit {0}

-- a line wasn't obeyed, but for loads that it began with, or its text wasn't made
pub record StopsAt (line : ScriptLine) (old new : List Entry) (room : ℕ) (error : SessionError)
    : Type 0 where
  pub reached : Loads old new ⊎ Obeys line old new
  pub cause : IsCauseAt new room error

-- the room and the library stay
pub record IsSameBut (old new : SessionParts) : Type 0 where
  pub room : new.room ≡ old.room
  pub library : new.library ≡ old.library
