-- The end of a script.
use Rattle.std.specs.Prelude.{ℕ, Bool, nat_lt, true, false, List, [], ◌∷◌, if◌then◌else◌}
use Rattle.session_script.specs.ScriptLines.{viewers}
use Rattle.session_script.specs.declared.script_line.ScriptLine.{ScriptLine}
use Rattle.session_script.specs.declared.script_line.ScriptLine.TheVariants.{End, Look, Retry, Return, Settle}

abbrev pub is_the_end : ScriptLine → Bool
is_the_end End = true
is_the_end (Look viewer view) = false
is_the_end (Settle viewer) = false
is_the_end (Return viewer) = false
is_the_end Retry = false

abbrev pub is_empty : List ScriptLine → Bool
is_empty [] = true
is_empty (line ∷ lines) = false

-- the last line is the end, and no other is
abbrev pub ends_once : List ScriptLine → Bool
ends_once [] = false
ends_once (line ∷ lines) = if is_the_end line then is_empty lines else ends_once lines

-- the viewer that a line is of, and the first for a line of none
abbrev pub viewer_in : ScriptLine → ℕ
viewer_in (Look viewer view) = viewer
viewer_in (Settle viewer) = viewer
viewer_in (Return viewer) = viewer
viewer_in Retry = 0
viewer_in End = 0

-- its viewer is one of those that there are
abbrev pub has_viewer : ScriptLine → Bool
has_viewer line = nat_lt (viewer_in line) viewers
