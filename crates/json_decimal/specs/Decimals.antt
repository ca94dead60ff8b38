-- Texts that spell a decimal with a digit in each part, as the grammar asks (RFC 8259, section 6).
use Rattle.std.specs.Prelude.{◌≡◌, ◌≢◌, ℕ, List, [], ◌∷◌, MatchOption, ⊤}
use Rattle.fixed_geometry.specs.Spelling.{Spelling, IsSpelling, text_of}

-- section 6, int: a digit, and behind a zero no further one
abbrev pub IsWholePart : List ℕ → Type 0
IsWholePart [] = ⊥
IsWholePart (d ∷ ds) = d ≡ 0 → ds ≡ []

-- section 6, frac and exp: a digit in each part that there is
pub record IsComplete (s : Spelling) : Type 0 where
  pub whole : IsWholePart s.whole
  pub fraction : MatchOption s.fraction ⊤ (λ ds. ds ≢ [])
  pub exponent : MatchOption s.exponent ⊤ (λ e. e.digits ≢ [])

-- the text is that of a decimal's sign, digits and exponent
pub record IsDecimal (text : List ℕ) : Type 0 where
  pub spelling : Spelling
  pub digits : IsSpelling spelling
  pub complete : IsComplete spelling
  pub spelled : text ≡ text_of spelling
