-- JSON texts without spaces are put together of their parts (RFC 8259).
use Rattle.std.proofs.Common.{◌≡◌, ℕ, ◌<◌, ◌≤◌, ◌==◌, ◌&&◌, nat_le, nat_lt, not, Bool, true, false, List, [], ◌∷◌, ◌++◌, codes, refl, ap, sym, arith, append-nil}
use Rattle.std.specs.Char.{IsScalar}
use Rattle.std.specs.List.{list_all}
use Rattle.std.specs.Str.{encode_utf8_all}
use Rattle.std.proofs.lemmas.Bool.Decides.{nat_tests}
use Rattle.std.proofs.lemmas.Str.{encode_ascii}
use Rattle.json_decimal.specs.Ascii.{comma, quotation_mark, reverse_solidus, colon, left_square_bracket, right_square_bracket, left_curly_bracket, right_curly_bracket}
use Rattle.json_decimal.specs.Grammar.{IsBytes, IsStructural, IsChar, unescaped, AreChars, IsString, IsMember, IsValue, IsValues, AreMoreValues, IsMembers}
use Rattle.json_decimal.specs.JsonValue.{JsonValue, Values, Pairs, list, object, value, no_pairs, pair}
use Rattle.json_decimal.proofs.Rules.{joined}

-- ---- names

-- a character in ASCII that stands for itself in a string
abbrev pub is_plain : ℕ → Bool
is_plain c = nat_le 32 c && nat_lt c 127 && not (c == 34) && not (c == 92)

low : (c : ℕ) → is_plain c ≡ true → (32 ≤ c) × (c < 127)
low c h = (grind (arith, nat_tests), grind (arith, nat_tests))

scalar_is : (c : ℕ) → c < 127 → IsScalar c
scalar_is c h = grind (arith, nat_tests)

char_is : (c : ℕ) → is_plain c ≡ true → IsChar c (c ∷ [])
char_is c h =
    unescaped (scalar_is c (low c h).1) (low c h).0 (λ e. quote c h e) (λ e. slash c h e)
    (sym (encode_ascii c (below c h)))
  where
    below : (c : ℕ) → is_plain c ≡ true → c < 128
    below c h = grind (arith, nat_tests)

    quote : (c : ℕ) → is_plain c ≡ true → c ≡ quotation_mark → ⊥
    quote c h e = grind (arith, nat_tests)

    slash : (c : ℕ) → is_plain c ≡ true → c ≡ reverse_solidus → ⊥
    slash c h e = grind (arith, nat_tests)

both : (a b : Bool) → (a && b) ≡ true → (a ≡ true) × (b ≡ true)
both true b h = (refl, h)
both false b h = cc

chars_are : (cs : List ℕ) → list_all is_plain cs ≡ true → AreChars cs cs
chars_are [] h = refl
chars_are (c ∷ cs) h = let parts = both (is_plain c) (list_all is_plain cs) h in record {
  front = c ∷ [];
  back = cs;
  is_front = char_is c parts.0;
  is_back = chars_are cs parts.1;
  spelled = refl;
}

same_text : (cs : List ℕ) → list_all is_plain cs ≡ true → cs ≡ encode_utf8_all cs
same_text [] h = refl
same_text (c ∷ cs) h =
    let parts = both (is_plain c) (list_all is_plain cs) h in
    let small : c < 128 = omega (arith, (low c parts.0).1) in
    rw (encode_ascii c small) (ap (λ (t : List ℕ). c ∷ t) (same_text cs parts.1))

abbrev pub quoted : List ℕ → List ℕ
quoted name = codes "\"" ++ name ++ codes "\""

pub name_is : (name : List ℕ) → list_all is_plain name ≡ true → IsString name (quoted name)
name_is name h = record {
  chars = name;
  quoted = record {
    front = quotation_mark ∷ [];
    back = name ++ quotation_mark ∷ [];
    is_front = refl;
    is_back = joined (AreChars name) (IsBytes (quotation_mark ∷ [])) name (quotation_mark ∷ [])
        (chars_are name h) refl;
    spelled = refl;
  };
  stands = same_text name h;
}

-- ---- brackets, commas and colons

mark_is : (c : ℕ) → IsStructural c (c ∷ [])
mark_is c = record {
  front = [];
  back = c ∷ [];
  is_front = tt;
  is_back = record {
    front = c ∷ [];
    back = [];
    is_front = refl;
    is_back = tt;
    spelled = refl;
  };
  spelled = refl;
}

-- ---- members

pub member_is : (name : List ℕ) (v : JsonValue) (text : List ℕ) → list_all is_plain name ≡ true
    → IsValue v text → IsMember name (IsValue v) (quoted name ++ colon ∷ text)
member_is name v text h is = record {
  front = quoted name;
  back = colon ∷ text;
  is_front = name_is name h;
  is_back = record {
    front = colon ∷ [];
    back = text;
    is_front = mark_is colon;
    is_back = is;
    spelled = refl;
  };
  spelled = refl;
}

pub last_member : (name : List ℕ) (v : JsonValue) (member : List ℕ)
    → IsMember name (IsValue v) member → IsMembers (pair name v no_pairs) member
last_member name v member is = record {
  front = member;
  back = [];
  is_front = is;
  is_back = refl;
  spelled = sym (append-nil member);
}

pub more_members : (name next : List ℕ) (v w : JsonValue) (ps : Pairs) (member members : List ℕ)
    → IsMember name (IsValue v) member → IsMembers (pair next w ps) members
    → IsMembers (pair name v (pair next w ps)) (member ++ comma ∷ members)
more_members name next v w ps member members is are = record {
  front = member;
  back = comma ∷ members;
  is_front = is;
  is_back = record {
    front = comma ∷ [];
    back = members;
    is_front = mark_is comma;
    is_back = are;
    spelled = refl;
  };
  spelled = refl;
}

pub object_is : (ps : Pairs) (members : List ℕ) → IsMembers ps members
    → IsValue (object ps) (left_curly_bracket ∷ (members ++ right_curly_bracket ∷ []))
object_is ps members are = record {
  front = left_curly_bracket ∷ [];
  back = members ++ right_curly_bracket ∷ [];
  is_front = mark_is left_curly_bracket;
  is_back = joined (IsMembers ps) (IsStructural right_curly_bracket) members
      (right_curly_bracket ∷ []) are (mark_is right_curly_bracket);
  spelled = refl;
}

-- ---- items

pub more_values : (v : JsonValue) (vs : Values) (text texts : List ℕ) → IsValue v text
    → AreMoreValues vs texts → AreMoreValues (value v vs) (comma ∷ (text ++ texts))
more_values v vs text texts is are = record {
  front = comma ∷ [];
  back = text ++ texts;
  is_front = mark_is comma;
  is_back = joined (IsValue v) (AreMoreValues vs) text texts is are;
  spelled = refl;
}

pub list_is : (v : JsonValue) (vs : Values) (text texts : List ℕ) → IsValue v text
    → AreMoreValues vs texts
    → IsValue (list (value v vs))
    (left_square_bracket ∷ ((text ++ texts) ++ right_square_bracket ∷ []))
list_is v vs text texts is are = record {
  front = left_square_bracket ∷ [];
  back = (text ++ texts) ++ right_square_bracket ∷ [];
  is_front = mark_is left_square_bracket;
  is_back = joined (IsValues (value v vs)) (IsStructural right_square_bracket) (text ++ texts)
      (right_square_bracket ∷ [])
      (joined (IsValue v) (AreMoreValues vs) text texts is are)
      (mark_is right_square_bracket);
  spelled = refl;
}
