-- What is printed of a value spells it.
use Rattle.std.proofs.Common.{◌≡◌, ◌≢◌, ◌⊎◌, ℕ, suc, ◌/◌, ◌%◌, ◌<◌, ◌≤◌, List, [], ◌∷◌, ◌++◌, length, get_or, Bool, true, false, ◌==◌, ◌||◌, ◌&&◌, inl, inr, Some, refl, sym, ap, ◌∙◌, subst, arith, append_assoc, append-nil}
use Rattle.std.specs.Prelude.{nat_lt, codes}
use Rattle.std.specs.List.{flat_map}
use Rattle.std.specs.Str.{IsUtf8, encode_utf8_all, all_scalars}
use Rattle.std.specs.Char.{encode_utf8, IsScalar}
use Rattle.std.proofs.lemmas.Bool.Decides.{nat_tests, leb_tells}
use Rattle.std.proofs.lemmas.Grind.{flat_map-append}
use Rattle.std.proofs.lemmas.Str.{encode_ascii, inside_one}
use Rattle.json_decimal.specs.Ascii.{byte_order_mark, space, comma, quotation_mark, digit_zero, reverse_solidus, colon, left_square_bracket, right_square_bracket, left_curly_bracket, right_curly_bracket}
use Rattle.json_decimal.specs.Characters.{is_whitespace, short_escape, hex_digit}
use Rattle.json_decimal.specs.Strings.{is_high, is_low}
use Rattle.json_decimal.specs.JsonValue.{JsonValue, Values, Pairs, null, truth, number, words, list, object, no_values, value, no_pairs, pair, depth}
use Rattle.json_decimal.specs.Grammar.{◌and_then◌, IsBytes, AreAll, IsOptional, IsWhitespace, IsStructural, IsUnit, IsChar, unescaped, escaped as escape, AreChars, IsString, IsMember, IsTruth, IsValue, IsValues, AreMoreValues, IsMembers, AreMoreMembers, IsText, max_nesting}
use Rattle.json_decimal.specs.Printed.{hexadecimal, escaped, quoted, with_commas, printed, printed_values, printed_members, SpellsNumbers, SpellAllNumbers, SpellMemberNumbers}
use Rattle.json_decimal.specs.Reading.{value_in}
use Rattle.json_decimal.specs.WellFormed.{IsWellFormed, AreWellFormed, ArePairsWellFormed}
use Rattle.json_decimal.proofs.Complete.{value_in_complete}
use Rattle.json_decimal.proofs.Rules.{joined}
use Rattle.json_decimal.proofs.SoundString.{four_digits, one_unit_char}
use Rattle.json_decimal.proofs.Steps.{either}

-- ---- characters

hex_back : (n : ℕ) → n < 16 → hex_digit (hexadecimal n) ≡ Some n
hex_back n h = grind (arith, nat_tests)

small_unit : (b : ℕ) → b < 32
    → IsUnit b (codes "\\u00" ++ hexadecimal (b / 16) ∷ hexadecimal (b % 16) ∷ [])
small_unit b h = record {
  a = 0;
  b = 0;
  c = b / 16;
  d = b % 16;
  digits =
      joined (IsBytes (codes "\\u")) _ (codes "\\u")
      (digit_zero ∷ digit_zero ∷ hexadecimal (b / 16) ∷ hexadecimal (b % 16) ∷ []) refl
      (four_digits digit_zero digit_zero (hexadecimal (b / 16)) (hexadecimal (b % 16)) 0 0 (b / 16)
      (b % 16) refl refl (hex_back (b / 16) (omega arith)) (hex_back (b % 16) (omega arith)));
  stands = omega arith;
}

not_high : (b : ℕ) → b < 32 → is_high b ≡ false
not_high b h = grind (arith, nat_tests)

not_low : (b : ℕ) → b < 32 → is_low b ≡ false
not_low b h = grind (arith, nat_tests)

marks : (b : ℕ) → (b == quotation_mark || b == reverse_solidus) ≡ true → short_escape b ≡ Some b
marks b h = grind (arith, nat_tests)

is_no : (b c : ℕ) → (b == c) ≡ false → b ≢ c
is_no b c h e = grind (arith, nat_tests)

neither : (x y : Bool) → (x || y) ≡ false → (x ≡ false) × (y ≡ false)
neither true y h = cc
neither false y h = (refl, h)

below : (b : ℕ) → nat_lt b space ≡ true → b < 32
below b h = grind (arith, nat_tests)

above : (b : ℕ) → nat_lt b space ≡ false → 32 ≤ b
above b h = grind (arith, nat_tests)

ascii_char : (c : ℕ) → IsScalar c → c < 128 → IsChar c (escaped c)
ascii_char c s small =
    let P : List ℕ → Type 0 = IsChar c in
    either (c == quotation_mark || c == reverse_solidus) (reverse_solidus ∷ c ∷ []) _ P
    (λ h. escape c (marks c h) refl)
    (λ h. either (nat_lt c space)
    (codes "\\u00" ++ hexadecimal (c / 16) ∷ hexadecimal (c % 16) ∷ []) (c ∷ []) P
    (λ k. let m : c < 32 = below c k in
    one_unit_char c _ (small_unit c m) (omega arith) (not_high c m) (not_low c m))
    (λ k. let o = neither (c == quotation_mark) (c == reverse_solidus) h in
    unescaped s (above c k) (is_no c quotation_mark o.0) (is_no c reverse_solidus o.1)
    (sym (encode_ascii c small))))

high_byte : (b : ℕ) → 128 ≤ b → escaped b ≡ b ∷ []
high_byte b h = grind (arith, nat_tests)

high_bytes : (xs : List ℕ) → ((k : ℕ) → k < length xs → 128 ≤ get_or xs k 0)
    → flat_map escaped xs ≡ xs
high_bytes [] h = refl
high_bytes (x ∷ xs) h =
    ap (λ (t : List ℕ). t ++ flat_map escaped xs) (high_byte x (h 0 (omega arith)))
    ∙ ap (λ (t : List ℕ). x ∷ t) (high_bytes xs (λ k l. h (suc k) (omega arith)))

is_ascii : (n : ℕ) → (n < 128) ⊎ (128 ≤ n)
is_ascii n = elim (leb_tells 128 n) [ inl h ↦ inr h.1 | inr h ↦ inl h.1 ]

encode_high : (c : ℕ) → 128 ≤ c → (k : ℕ) → k < length (encode_utf8 c)
    → 128 ≤ get_or (encode_utf8 c) k 0
encode_high c h k l = elim (is_ascii (get_or (encode_utf8 c) k 0)) [
  | inl b ↦
      let e : c ≡ get_or (encode_utf8 c) k 0 =
      inside_one c [] (encode_utf8 c) k (sym (append-nil (encode_utf8 c))) l b in
      absurd (omega arith)
  | inr b ↦ b
]

char_printed : (c : ℕ) → IsScalar c → IsChar c (flat_map escaped (encode_utf8 c))
char_printed c s = elim (is_ascii c) [
  | inl l ↦
      subst (IsChar c) (sym (ap (flat_map escaped) (encode_ascii c l) ∙ append-nil (escaped c)))
      (ascii_char c s l)
  | inr l ↦
      unescaped s (omega arith) (λ e. omega arith) (λ e. omega arith)
      (high_bytes (encode_utf8 c) (encode_high c l))
]

and_parts : (x y : Bool) → (x && y) ≡ true → (x ≡ true) × (y ≡ true)
and_parts true y h = (refl, h)
and_parts false y h = cc

chars_printed : (cs : List ℕ) → all_scalars cs ≡ true
    → AreChars cs (flat_map escaped (encode_utf8_all cs))
chars_printed [] h = refl
chars_printed (c ∷ cs) h = let p = and_parts _ _ h in record {
  front = flat_map escaped (encode_utf8 c);
  back = flat_map escaped (encode_utf8_all cs);
  is_front = char_printed c p.0;
  is_back = chars_printed cs p.1;
  spelled = flat_map-append escaped (encode_utf8 c) (encode_utf8_all cs);
}

string_printed : (text : List ℕ) → IsUtf8 text → IsString text (quoted text)
string_printed text u =
    let inside = flat_map escaped text in
    let chars : AreChars u.0 inside =
    subst (λ (t : List ℕ). AreChars u.0 (flat_map escaped t)) u.1.1 (chars_printed u.0 u.1.0) in
    let behind = joined (AreChars u.0) (IsBytes (codes "\"")) inside (codes "\"") chars refl in
    record {
      chars = u.0;
      quoted = joined (IsBytes (codes "\"")) _ (codes "\"") (inside ++ codes "\"") refl behind;
      stands = sym u.1.1;
    }

-- ---- values

mark_is : (c : ℕ) → IsStructural c (c ∷ [])
mark_is c =
    joined _ _ [] (c ∷ []) tt (joined (IsBytes (c ∷ [])) _ (c ∷ []) [] refl tt)

truth_printed : (b : Bool) → IsTruth b (printed (truth b))
truth_printed true = refl
truth_printed false = refl

enclosed : (IsIt : List ℕ → Type 0) (first last : ℕ) (t : List ℕ) → IsIt t
    → (IsStructural first and_then IsIt and_then IsStructural last) (first ∷ (t ++ last ∷ []))
enclosed IsIt first last t is =
    joined (IsStructural first) _ (first ∷ []) (t ++ last ∷ []) (mark_is first)
    (joined IsIt (IsStructural last) t (last ∷ []) is (mark_is last))

member_printed : (name : List ℕ) (v : JsonValue) → IsUtf8 name → IsValue v (printed v)
    → IsMember name (IsValue v) (quoted name ++ codes ":" ++ printed v)
member_printed name v u is =
    subst (IsMember name (IsValue v)) (sym (append_assoc (quoted name) (codes ":") (printed v)))
    (joined (IsString name) _ (quoted name) (codes ":" ++ printed v) (string_printed name u)
    (joined (IsStructural colon) (IsValue v) (codes ":") (printed v) (mark_is colon) is))

abbrev behind_commas : List (List ℕ) → List ℕ
behind_commas texts = flat_map (λ t. codes "," ++ t) texts

mutual
  value_printed : (v : JsonValue) → IsWellFormed v → IsValue v (printed v)
  value_printed null h = refl
  value_printed (truth b) h = truth_printed b
  value_printed (number s) h = (refl, h)
  value_printed (words w) h = string_printed w h
  value_printed (list vs) h =
      enclosed (IsValues vs) left_square_bracket right_square_bracket
      (with_commas (printed_values vs)) (values_printed vs h)
  value_printed (object ps) h =
      enclosed (IsMembers ps) left_curly_bracket right_curly_bracket
      (with_commas (printed_members ps)) (members_printed ps h)

  values_printed : (vs : Values) → AreWellFormed vs
      → IsValues vs (with_commas (printed_values vs))
  values_printed no_values h = refl
  values_printed (value v vs) h =
      joined (IsValue v) (AreMoreValues vs) (printed v) (behind_commas (printed_values vs))
      (value_printed v h.0) (more_values_printed vs h.1)

  more_values_printed : (vs : Values) → AreWellFormed vs
      → AreMoreValues vs (behind_commas (printed_values vs))
  more_values_printed no_values h = refl
  more_values_printed (value v vs) h =
      joined (IsStructural comma) _ (codes ",")
      (printed v ++ behind_commas (printed_values vs)) (mark_is comma)
      (joined (IsValue v) (AreMoreValues vs) (printed v) (behind_commas (printed_values vs))
      (value_printed v h.0) (more_values_printed vs h.1))

  members_printed : (ps : Pairs) → ArePairsWellFormed ps
      → IsMembers ps (with_commas (printed_members ps))
  members_printed no_pairs h = refl
  members_printed (pair n v ps) h =
      joined (IsMember n (IsValue v)) (AreMoreMembers ps) (quoted n ++ codes ":" ++ printed v)
      (behind_commas (printed_members ps)) (member_printed n v h.0 (value_printed v h.1))
      (more_members_printed ps h.2)

  more_members_printed : (ps : Pairs) → ArePairsWellFormed ps
      → AreMoreMembers ps (behind_commas (printed_members ps))
  more_members_printed no_pairs h = refl
  more_members_printed (pair n v ps) h =
      joined (IsStructural comma) _ (codes ",")
      ((quoted n ++ codes ":" ++ printed v) ++ behind_commas (printed_members ps)) (mark_is comma)
      (joined (IsMember n (IsValue v)) (AreMoreMembers ps) (quoted n ++ codes ":" ++ printed v)
      (behind_commas (printed_members ps)) (member_printed n v h.0 (value_printed v h.1))
      (more_members_printed ps h.2))

pub printed_spells : (v : JsonValue) → IsWellFormed v → depth v ≤ max_nesting
    → IsText v (printed v)
printed_spells v h d = record {
  text =
      joined (AreAll is_whitespace) _ [] (printed v) tt
      (subst (IsValue v and_then IsWhitespace) (append-nil (printed v))
      (joined (IsValue v) IsWhitespace (printed v) [] (value_printed v h) tt));
  nesting = d;
}

pub printed_read : (v : JsonValue) → IsWellFormed v → depth v ≤ max_nesting
    → value_in (printed v) ≡ Some v
printed_read v h d =
    value_in_complete (printed v) v
    (joined (IsOptional (IsBytes byte_order_mark)) (IsText v) [] (printed v) (inl refl)
    (printed_spells v h d))

-- ---- numbers

mutual
  pub spells_numbers : (v : JsonValue) → IsWellFormed v → SpellsNumbers v
  spells_numbers null h = tt
  spells_numbers (truth b) h = tt
  spells_numbers (number s) h = h
  spells_numbers (words w) h = tt
  spells_numbers (list vs) h = spell_numbers vs h
  spells_numbers (object ps) h = spell_member_numbers ps h

  spell_numbers : (vs : Values) → AreWellFormed vs → SpellAllNumbers vs
  spell_numbers no_values h = tt
  spell_numbers (value v vs) h = (spells_numbers v h.0, spell_numbers vs h.1)

  spell_member_numbers : (ps : Pairs) → ArePairsWellFormed ps → SpellMemberNumbers ps
  spell_member_numbers no_pairs h = tt
  spell_member_numbers (pair n v ps) h = (spells_numbers v h.1, spell_member_numbers ps h.2)
