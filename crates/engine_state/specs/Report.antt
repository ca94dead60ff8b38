-- What a journal reports: the texts of its frames and refusals.
use Rattle.std.specs.Prelude.{ℕ, List, [], ◌∷◌, ◌++◌, length, map}
use Rattle.std.specs.List.{flat_map}
use Rattle.content_digest.specs.Facts.{facts_of}
use Rattle.frame_pins.specs.declared.shown.Shown.{Shown}
use Rattle.frame_text.specs.Lines.{frame_line, refused_line, show_line}
use Rattle.engine_state.specs.declared.entry.Entry.{Entry}
use Rattle.engine_state.specs.declared.entry.Entry.TheVariants.{Opened, Looked, LookRefused, Returned, Taken, DocumentArrived, ContentArrived, Squeezed, Absent, Failed, Starved, Retried, Closed}
use Rattle.engine_state.specs.declared.frame_line.FrameLine.{FrameLine}
use Rattle.engine_state.specs.State.{State, unopened}
use Rattle.engine_state.specs.Frames.{frame_lines}
use Rattle.engine_state.specs.After.{after}

-- the line that a shown content is printed as
abbrev pub text_of : FrameLine → List ℕ
text_of line = show_line line.tile line.address line.facts.length line.facts.digest

-- a frame's own line, and those of its contents
abbrev pub frame_texts : ℕ → ℕ → List FrameLine → List (List ℕ)
frame_texts id viewer lines = frame_line id viewer (length lines) ∷ map text_of lines

-- the lines that an entry reports in a state; only looks report any
abbrev pub reported : State → Entry → List (List ℕ)
reported s (Opened root bytes budget order) = []
reported s (Looked pass id viewer view settled) = frame_texts id viewer (frame_lines s view)
reported s (LookRefused pass viewer view settled why) = refused_line viewer why ∷ []
reported s (Returned pass id) = []
reported s (Taken pass key) = []
reported s (DocumentArrived pass key bytes) = []
reported s (ContentArrived pass address size digest out) = []
reported s (Squeezed pass address size) = []
reported s (Absent pass key why) = []
reported s (Failed pass key count) = []
reported s (Starved pass key) = []
reported s (Retried pass) = []
reported s (Closed pass) = []

abbrev pub reported_from : State → List Entry → List (List ℕ)
reported_from s [] = []
reported_from s (e ∷ es) = reported s e ++ reported_from (after s e) es

-- the lines of a journal, each with its line feed, and all of them as one text
abbrev pub report_lines : List Entry → List (List ℕ)
report_lines entries = reported_from unopened entries

abbrev pub report : List Entry → List ℕ
report entries = flat_map (λ line. line) (report_lines entries)

-- ---- frames that are handed out

-- what is known of a content that a frame shows
abbrev pub line_of_shown : Shown → FrameLine
line_of_shown shown = record {
  tile = shown.tile;
  address = shown.address;
  facts = facts_of shown.content;
}
