-- The lines of a script before its end: what each form of words asks for.
use Rattle.std.specs.Prelude.{ℕ, ◌+◌, ◌-◌, ◌==◌, ◌&&◌, nat_le, nat_lt, Bool, true}
use Rattle.std.specs.Prelude.{Option, Some, None, List, [], ◌∷◌, bytes_eq, codes, if◌then◌else◌}
use Rattle.error_test.specs.Views.{ViewParts}
use Rattle.session_script.specs.Ascii.{parts_at}
use Rattle.session_script.specs.Chains.{◌>>=◌}
use Rattle.session_script.specs.Views.{view_of}
use Rattle.session_script.specs.declared.script_line.ScriptLine.{ScriptLine}
use Rattle.session_script.specs.declared.script_line.ScriptLine.TheVariants.{Look, Retry, Return, Settle}
use Rattle.session_script.specs.declared.script_line.TheConstants.{VIEWERS}

abbrev pub space : ℕ
space = 0x20

abbrev pub number_sign : ℕ
number_sign = 0x23

-- how many viewers there are
abbrev pub viewers : ℕ
viewers = VIEWERS

-- an empty line, or one that begins with `#`
abbrev pub is_passed_over : List ℕ → Bool
is_passed_over [] = true
is_passed_over (byte ∷ bytes) = byte == number_sign

-- the viewer whose number is the word: one digit, since they are 0 to 7
abbrev pub viewer_of : List ℕ → Option ℕ
viewer_of (digit ∷ []) = if nat_le 48 digit && nat_lt digit (48 + viewers) then Some (digit - 48) else None
viewer_of _ = None

-- `retry`
abbrev pub plain_line : List ℕ → Option ScriptLine
plain_line name = if bytes_eq name (codes "retry") then Some Retry else None

-- `settle V` or `return V`
abbrev pub viewer_line : List ℕ → ℕ → Option ScriptLine
viewer_line name viewer =
    if bytes_eq name (codes "settle") then Some (Settle viewer)
    else (if bytes_eq name (codes "return") then Some (Return viewer) else None)

-- `look V VIEW`
abbrev pub look_line : List ℕ → ℕ → ViewParts → Option ScriptLine
look_line name viewer view = if bytes_eq name (codes "look") then Some (Look viewer view) else None

-- the line of a name and a viewer, with the words behind them
abbrev pub line_of_viewer : List ℕ → ℕ → List (List ℕ) → Option ScriptLine
line_of_viewer name viewer [] = viewer_line name viewer
line_of_viewer name viewer (view ∷ []) = view_of view >>= λ v. look_line name viewer v
line_of_viewer name viewer (view ∷ more ∷ words) = None

-- the line that words are
abbrev pub line_of_words : List (List ℕ) → Option ScriptLine
line_of_words [] = None
line_of_words (name ∷ []) = plain_line name
line_of_words (name ∷ viewer ∷ words) = viewer_of viewer >>= λ v. line_of_viewer name v words

-- the line before the end that a text is, with one space between each two words
abbrev pub line_of : List ℕ → Option ScriptLine
line_of text = line_of_words (parts_at space text)
