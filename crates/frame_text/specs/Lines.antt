-- The lines that are printed of frames and refusals, each with its line feed.
use Rattle.std.specs.Prelude.{ℕ, List, ◌∷◌, ◌++◌, length, map, codes, decimal}
use Rattle.hex.specs.Hex.{encode_lower}
use Rattle.sha2.specs.Sha256.{sha256}
use Rattle.frame_pins.specs.Frames.{FrameParts, why_name}
use Rattle.frame_pins.specs.declared.shown.Shown.{Shown}
use Rattle.frame_pins.specs.declared.why.Why.{Why}

-- `show TILE ADDRESS LENGTH DIGEST`: the length in bytes, and the digest in hexadecimal digits, of
-- which the letters are small
unfoldable pub show_line : List ℕ → List ℕ → ℕ → List ℕ → List ℕ
show_line tile address length digest =
    codes "show " ++ tile ++ codes " " ++ address ++ codes " " ++ decimal length ++ codes " "
    ++ encode_lower digest ++ codes "\n"

-- the line of a content that is shown
abbrev pub line_of : Shown → List ℕ
line_of shown =
    show_line shown.tile shown.address (length shown.content) (sha256 shown.content)

-- `frame ID VIEWER COUNT`
unfoldable pub frame_line : ℕ → ℕ → ℕ → List ℕ
frame_line id viewer count =
    codes "frame " ++ decimal id ++ codes " " ++ decimal viewer ++ codes " " ++ decimal count
    ++ codes "\n"

-- the lines of a frame: its own, with how many contents it shows, and one for each of them
abbrev pub lines_of : FrameParts → List (List ℕ)
lines_of frame =
    frame_line frame.id frame.viewer (length frame.shown) ∷ map line_of frame.shown

-- `refused VIEWER WHY`
unfoldable pub refused_line : ℕ → Why → List ℕ
refused_line viewer why =
    codes "refused " ++ decimal viewer ++ codes " " ++ why_name why ++ codes "\n"
