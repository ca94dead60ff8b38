-- The script of a text, or the number of its first line that isn't in order.
use Rattle.std.specs.Prelude.{ℕ, ◌+◌, ◌==◌, ◌&&◌, ◌||◌, nat_lt, not, Bool, true, false}
use Rattle.std.specs.Prelude.{List, [], ◌∷◌, ◌++◌, length, count_by, take_while}
use Rattle.std.specs.Prelude.{Result, Ok, Err, bytes_eq, codes, if◌then◌else◌}
use Rattle.std.specs.List.{filter_map, list_any}
use Rattle.std.specs.Option.{option_map_or}
use Rattle.std.specs.Str.Lines.{lines}
use Rattle.session_script.specs.ScriptLines.{is_passed_over, line_of}
use Rattle.session_script.specs.declared.script_line.ScriptLine.{ScriptLine}
use Rattle.session_script.specs.declared.script_line.ScriptLine.TheVariants.{End, Look, Retry, Return, Settle}

-- ---- which line may follow which

-- it is a `look` of the viewer
abbrev pub is_look_of : ℕ → ScriptLine → Bool
is_look_of viewer (Look v view) = v == viewer
is_look_of viewer (Settle v) = false
is_look_of viewer (Return v) = false
is_look_of viewer Retry = false
is_look_of viewer End = false

-- it is a `look` or a `settle` of the viewer, which may give it a frame
abbrev pub asks_frame_for : ℕ → ScriptLine → Bool
asks_frame_for viewer (Look v view) = v == viewer
asks_frame_for viewer (Settle v) = v == viewer
asks_frame_for viewer (Return v) = false
asks_frame_for viewer Retry = false
asks_frame_for viewer End = false

-- it is a `return` of the viewer
abbrev pub is_return_of : ℕ → ScriptLine → Bool
is_return_of viewer (Look v view) = false
is_return_of viewer (Settle v) = false
is_return_of viewer (Return v) = v == viewer
is_return_of viewer Retry = false
is_return_of viewer End = false

-- a `settle` needs an earlier `look` of its viewer, and a `return` more earlier `look` and `settle`
-- lines of its viewer than `return` lines
abbrev pub may_follow : List ScriptLine → ScriptLine → Bool
may_follow earlier (Settle v) = list_any (is_look_of v) earlier
may_follow earlier (Return v) =
    nat_lt (count_by (is_return_of v) earlier) (count_by (asks_frame_for v) earlier)
may_follow earlier (Look v view) = true
may_follow earlier Retry = true
may_follow earlier End = true

-- ---- the lines of a text

-- what texts ask for, in order; those that are passed over ask for nothing
abbrev pub lines_of : List (List ℕ) → List ScriptLine
lines_of texts = filter_map line_of texts

-- behind these lines the text is passed over, or is a line that may follow them
abbrev pub is_in_order : List ScriptLine → List ℕ → Bool
is_in_order earlier text =
    is_passed_over text || option_map_or (may_follow earlier) (line_of text) false

-- how many texts stand before the first that isn't in order
abbrev pub count_in_order : List ScriptLine → List (List ℕ) → ℕ
count_in_order earlier [] = 0
count_in_order earlier (text ∷ texts) =
    if is_in_order earlier text then 1 + count_in_order (earlier ++ lines_of (text ∷ [])) texts else 0

abbrev pub is_end : List ℕ → Bool
is_end text = bytes_eq text (codes "end")

-- the texts before the first `end`
abbrev pub before_end : List (List ℕ) → List (List ℕ)
before_end texts = take_while (λ text. not (is_end text)) texts

-- the script of the texts of lines: there is an `end`, and all lines before it are in order. Else the
-- number of the first that isn't, counted from 1, which without an `end` may be one behind the last
abbrev pub script_of_lines : List (List ℕ) → Result (List ScriptLine) ℕ
script_of_lines texts =
    let front = before_end texts in
    let good = count_in_order [] front in
    if (good == length front) && nat_lt good (length texts) then Ok (lines_of front ++ End ∷ [])
    else Err (good + 1)

-- the script of a text. A line ends with a line feed, which the last may lack, and one carriage
-- return before the line feed is dropped
unfoldable pub script_of : List ℕ → Result (List ScriptLine) ℕ
script_of bytes = script_of_lines (lines bytes)
