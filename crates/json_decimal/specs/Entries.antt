-- What a list of entries over the bytes of a JSON text stands for. An entry says where a value or a
-- name is spelled; the first byte there tells its form, as in the grammar. A list or an object has
-- the entries of all that is inside it right behind its own, and `extent` is their number.
use Rattle.std.specs.Prelude.{◌<◌, ℕ, zero, suc, ◌-◌, min, List, [], ◌∷◌, ◌==◌, ◌||◌, ◌&&◌, nat_lt, nat_le, length, take, drop, if◌then◌else◌, Bool, true, false, IsTrue, Option, Some, None}
use Rattle.std.specs.List.{list_all}
use Rattle.std.specs.Str.{bytes_eq}
use Rattle.json_decimal.specs.Ascii.{quotation_mark, left_square_bracket, lower_f, lower_n, lower_t, left_curly_bracket}
use Rattle.json_decimal.specs.JsonValue.{JsonValue, null, truth, number, words, list, object, values, pairs}
use Rattle.json_decimal.specs.Numbers.{number_at}
use Rattle.json_decimal.specs.Strings.{string_at}
use Rattle.json_decimal.specs.declared.entry.Entry.{Entry}
use Rattle.json_decimal.specs.declared.form.JsonForm.{JsonForm}
use Rattle.json_decimal.specs.declared.form.JsonForm.TheVariants as forms

-- what is read at the front, or nothing
abbrev pub read_or_none : Option (List ℕ × List ℕ) → List ℕ
read_or_none None = []
read_or_none (Some x) = x.0

-- the text of the string that is spelled here, from behind its opening quotation mark
abbrev pub text_from : List ℕ → List ℕ
text_from bs = read_or_none (string_at bs)

-- the spelling of the number here
abbrev pub number_from : List ℕ → List ℕ
number_from bs = read_or_none (number_at bs)

-- a name is kept as words
abbrev pub words_of : JsonValue → List ℕ
words_of (words text) = text
words_of _ = []

-- values that are in turn a name and a value, as the members of an object
abbrev pub paired : List JsonValue → List (List ℕ × JsonValue)
paired [] = []
paired (n ∷ []) = []
paired (n ∷ v ∷ vs) = (words_of n, v) ∷ paired vs

-- the form of a value whose spelling begins with this byte
abbrev pub form_by : ℕ → JsonForm
form_by b =
    if b == quotation_mark then forms.Words
    else if b == left_curly_bracket then forms.Object
    else if b == left_square_bracket then forms.List
    else if b == lower_n then forms.Null
    else if b == lower_t then forms.True
    else if b == lower_f then forms.False
    else forms.Number

-- the form of the value that is spelled here
abbrev pub form_from : List ℕ → JsonForm
form_from [] = forms.Number
form_from (b ∷ bs) = form_by b

-- the value of this form that is spelled here, if these are the values inside it
abbrev pub value_as : JsonForm → List ℕ → List JsonValue → JsonValue
value_as forms.Null bs inside = null
value_as forms.True bs inside = truth true
value_as forms.False bs inside = truth false
value_as forms.Number bs inside = number (number_from bs)
value_as forms.Words bs inside = words (text_from (drop 1 bs))
value_as forms.List bs inside = list (values inside)
value_as forms.Object bs inside = object (pairs (paired inside))

-- how many entries stand for what is inside a value of this form, whose entry has this extent
abbrev pub inside_as : JsonForm → ℕ → ℕ
inside_as forms.Null extent = 0
inside_as forms.True extent = 0
inside_as forms.False extent = 0
inside_as forms.Number extent = 0
inside_as forms.Words extent = 0
inside_as forms.List extent = extent
inside_as forms.Object extent = extent

-- the value that is spelled here, if these are the values inside it
abbrev pub value_from : List ℕ → List JsonValue → JsonValue
value_from bs inside = value_as (form_from bs) bs inside

-- how many entries stand for what is inside the value that is spelled here, by its entry's extent
abbrev pub inside_of : List ℕ → ℕ → ℕ
inside_of bs extent = inside_as (form_from bs) extent

-- how many entries behind this one stand for what is inside it
abbrev pub inside : List ℕ → Entry → ℕ
inside bytes e = inside_of (drop e.start bytes) e.extent

-- the values that stand one behind the other on n entries, behind the first `past` ones
abbrev pub values_on : List ℕ → List Entry → (past n : ℕ) → List JsonValue
values_on bytes [] past n = []
values_on bytes (e ∷ es) (suc past) n = values_on bytes es past n
values_on bytes (e ∷ es) zero zero = []
values_on bytes (e ∷ es) zero (suc n) =
    value_from (drop e.start bytes) (values_on bytes es 0 (min (inside bytes e) n))
    ∷ values_on bytes es (inside bytes e) (n - inside bytes e)

-- the bytes from where the first entry's value is spelled
abbrev pub spelled_at : List ℕ → List Entry → List ℕ
spelled_at bytes [] = []
spelled_at bytes (e ∷ es) = drop e.start bytes

-- the values right inside the first entry's value
abbrev pub values_inside : List ℕ → List Entry → List JsonValue
values_inside bytes [] = []
values_inside bytes (e ∷ es) = values_on bytes es 0 (min (inside bytes e) (length es))

-- the value that the first entry stands for
abbrev pub value_on : List ℕ → List Entry → JsonValue
value_on bytes es = value_from (spelled_at bytes es) (values_inside bytes es)

-- whether the extent of an entry is that of the number that is spelled here, or of the string,
-- which is 0 where an escape stands in it
abbrev pub is_extent : JsonForm → List ℕ → ℕ → Bool
is_extent forms.Null bs extent = true
is_extent forms.True bs extent = true
is_extent forms.False bs extent = true
is_extent forms.Number bs extent =
    nat_le extent (length bs) && bytes_eq (number_from bs) (take extent bs)
is_extent forms.Words bs extent =
    extent == 0
    || (nat_le 2 extent && nat_le extent (length bs)
    && bytes_eq (text_from (drop 1 bs)) (take (extent - 2) (drop 1 bs)))
is_extent forms.List bs extent = true
is_extent forms.Object bs extent = true

-- whether an entry says where among the bytes something is spelled, and how far its spelling goes
abbrev pub is_entry : List ℕ → Entry → Bool
is_entry bytes e =
    nat_lt e.start (length bytes)
    && is_extent (form_from (drop e.start bytes)) (drop e.start bytes) e.extent

-- all entries do
abbrev pub AreEntries : List ℕ → List Entry → Type 0
AreEntries bytes es = IsTrue (list_all (is_entry bytes) es)

-- the entries of a text, of which there is one at least
pub record AreTextEntries (bytes : List ℕ) (es : List Entry) : Type 0 where
  pub some : 0 < length es
  pub told : AreEntries bytes es
