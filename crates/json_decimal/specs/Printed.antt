-- The one text that is printed of a value (RFC 8259). No white space stands in it, and in a string
-- the quotation mark, the reverse solidus and the characters below U+0020 alone are escaped.
use Rattle.std.specs.Prelude.{ℕ, ◌+◌, ◌-◌, ◌/◌, ◌%◌, List, [], ◌∷◌, ◌++◌, ◌==◌, ◌||◌, nat_lt, true, false, if◌then◌else◌, ⊤, codes}
use Rattle.std.specs.List.{flat_map}
use Rattle.json_decimal.specs.Ascii.{space, quotation_mark, digit_zero, reverse_solidus, lower_a}
use Rattle.json_decimal.specs.Grammar.{IsNumber}
use Rattle.json_decimal.specs.JsonValue.{JsonValue, Values, Pairs, null, truth, number, words, list, object, no_values, value, no_pairs, pair}

-- a hexadecimal digit, in lower case
abbrev pub hexadecimal : ℕ → ℕ
hexadecimal n = if nat_lt n 10 then digit_zero + n else lower_a + (n - 10)

-- section 7: what is printed for a byte of a text in UTF-8
abbrev pub escaped : ℕ → List ℕ
escaped b =
    if b == quotation_mark || b == reverse_solidus then reverse_solidus ∷ b ∷ []
    else if nat_lt b space then codes "\\u00" ++ hexadecimal (b / 16) ∷ hexadecimal (b % 16) ∷ []
    else b ∷ []

-- section 7: a text, as a string
abbrev pub quoted : List ℕ → List ℕ
quoted text = codes "\"" ++ flat_map escaped text ++ codes "\""

-- sections 4 and 5: texts behind one another, with a comma before each but the first
abbrev pub with_commas : List (List ℕ) → List ℕ
with_commas [] = []
with_commas (text ∷ texts) = text ++ flat_map (λ t. codes "," ++ t) texts

abbrev mutual
  -- sections 3 to 6: a value
  pub printed : JsonValue → List ℕ
  printed null = codes "null"
  printed (truth true) = codes "true"
  printed (truth false) = codes "false"
  printed (number spelling) = spelling
  printed (words text) = quoted text
  printed (list vs) = codes "[" ++ with_commas (printed_values vs) ++ codes "]"
  printed (object ps) = codes "{" ++ with_commas (printed_members ps) ++ codes "}"

  -- each value of a list
  pub printed_values : Values → List (List ℕ)
  printed_values no_values = []
  printed_values (value v vs) = printed v ∷ printed_values vs

  -- each member of an object
  pub printed_members : Pairs → List (List ℕ)
  printed_members no_pairs = []
  printed_members (pair name v ps) = (quoted name ++ codes ":" ++ printed v) ∷ printed_members ps

-- each number in the value is spelled as section 6 has it
abbrev mutual
  pub SpellsNumbers : JsonValue → Type 0
  SpellsNumbers null = ⊤
  SpellsNumbers (truth b) = ⊤
  SpellsNumbers (number spelling) = IsNumber spelling
  SpellsNumbers (words text) = ⊤
  SpellsNumbers (list vs) = SpellAllNumbers vs
  SpellsNumbers (object ps) = SpellMemberNumbers ps

  pub SpellAllNumbers : Values → Type 0
  SpellAllNumbers no_values = ⊤
  SpellAllNumbers (value v vs) = SpellsNumbers v × SpellAllNumbers vs

  pub SpellMemberNumbers : Pairs → Type 0
  SpellMemberNumbers no_pairs = ⊤
  SpellMemberNumbers (pair name v ps) = SpellsNumbers v × SpellMemberNumbers ps
