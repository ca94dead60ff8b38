-- Marks between the parts of a text, and the parts.
use Rattle.std.specs.Prelude.{◌≢◌, ℕ, List, ◌==◌, All}
use Rattle.std.specs.List.{slice_split}

abbrev pub comma : ℕ
comma = 0x2c

abbrev pub slash : ℕ
slash = 0x2f

abbrev pub colon : ℕ
colon = 0x3a

-- the mark doesn't stand in the text
abbrev pub IsWithout : ℕ → List ℕ → Type 0
IsWithout mark text = All (λ byte. byte ≢ mark) text

-- the parts of a text that stand between the marks, of which the whole text is one where there is
-- none
abbrev pub parts_at : ℕ → List ℕ → List (List ℕ)
parts_at mark text = slice_split (λ byte. byte == mark) text
