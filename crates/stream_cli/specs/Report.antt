-- The texts that are printed.
use Rattle.std.specs.Prelude.{ℕ, Option, Some, None, List, [], ◌∷◌, ◌++◌, length, map, codes, decimal}
use Rattle.sha2.specs.Sha256.{sha256}
use Rattle.cut_core.specs.declared.line.CutLine.{CutLine}
use Rattle.frame_text.specs.Lines.{show_line}
use Rattle.stream_cli.specs.Contents.{Contents}

-- `cut COUNT`
unfoldable pub count_line : ℕ → List ℕ
count_line count = codes "cut " ++ decimal count ++ codes "\n"

-- `show TILE ADDRESS LENGTH DIGEST`, of these bytes; a cut has no line of an absent content
abbrev pub content_line : CutLine → Option (List ℕ) → List ℕ
content_line line None = []
content_line line (Some bytes) = show_line line.tile line.address (length bytes) (sha256 bytes)

-- the text of a cut, line by line: how many lines it has, and each of them
abbrev pub cut_text : Contents → List CutLine → List (List ℕ)
cut_text contents lines =
    count_line (length lines) ∷ map (λ line. content_line line (contents line.address)) lines

-- lines, one behind the other
abbrev pub joined : List (List ℕ) → List ℕ
joined [] = []
joined (line ∷ lines) = line ++ joined lines
