-- Which value the front of the bytes stands for, as a function.
use Rattle.std.specs.Prelude.{ℕ, zero, suc, List, [], ◌∷◌, ◌==◌, length, true, false, if◌then◌else◌, Option, Some, None, codes}
use Rattle.json_decimal.specs.Ascii.{quotation_mark, comma, colon, left_square_bracket, right_square_bracket, lower_f, lower_n, lower_t, left_curly_bracket, right_curly_bracket, byte_order_mark}
use Rattle.json_decimal.specs.Grammar.{max_nesting}
use Rattle.json_decimal.specs.JsonValue.{JsonValue, null, truth, number, words, list, object, values, pairs}
use Rattle.json_decimal.specs.Scan.{◌>>=◌, Reader, skip, after, after_byte}
use Rattle.json_decimal.specs.Numbers.{number_at}
use Rattle.json_decimal.specs.Strings.{string_at}

-- a word that stands for v, and the white space behind it
abbrev pub literal : List ℕ → JsonValue → Reader JsonValue
literal word v bs = after word bs >>= λ rest. Some (v, skip rest)

-- a number or a string, and the white space behind it
abbrev pub leaf : {A : Type 0} → (A → JsonValue) → Option (A × List ℕ) → Option (JsonValue × List ℕ)
leaf value_of read = read >>= λ x. Some (value_of x.0, skip x.1)

-- an item, and the items that are read behind it
abbrev pub with_first : {A : Type 0} → A → Option (List A × List ℕ) → Option (List A × List ℕ)
with_first v read = read >>= λ x. Some (v ∷ x.0, x.1)

-- what stands behind an item, and the bytes behind that
pub data Behind : Type 0 where
  separator : List ℕ → Behind
  closing : List ℕ → Behind
  neither : Behind

abbrev pub behind_item : ℕ → List ℕ → Behind
behind_item close [] = neither
behind_item close (b ∷ bs) =
    if b == comma then separator (skip bs) else if b == close then closing (skip bs) else neither

-- what stands behind an item, where one of the two does
abbrev pub either_behind : Behind → Option Behind
either_behind (separator bs) = Some (separator bs)
either_behind (closing bs) = Some (closing bs)
either_behind neither = None

-- behind an item come more, or the bracket that closes
abbrev pub follow : {A : Type 0} → Reader (List A) → A → Behind → Option (List A × List ℕ)
follow more v (separator bs) = with_first v (more bs)
follow more v (closing bs) = Some (v ∷ [], bs)
follow more v neither = None

-- one item or more, each read by p, n at most, and the bracket that closes
abbrev pub items_within : {A : Type 0} → ℕ → ℕ → Reader A → Reader (List A)
items_within close zero p bs = None
items_within close (suc n) p bs =
    p bs >>= λ x. follow (items_within close n p) x.0 (behind_item close x.1)

-- any number of them, since no item takes less than a byte
unfoldable pub items : {A : Type 0} → ℕ → Reader A → Reader (List A)
items close p bs = items_within close (length bs) p bs

-- none, where the bracket that closes stands, and else some
abbrev pub none_or : {A : Type 0} → Option (List ℕ) → Option (List A × List ℕ)
    → Option (List A × List ℕ)
none_or (Some bs) some = Some ([], skip bs)
none_or None some = some

-- no item, or one or more, and the bracket that closes
abbrev pub enclosed : {A : Type 0} → ℕ → Reader A → Reader (List A)
enclosed close p bs = none_or (after_byte close bs) (items close p bs)

-- a string with its quotation marks
abbrev pub quoted_at : Reader (List ℕ)
quoted_at bs = after_byte quotation_mark bs >>= λ bs. string_at bs

-- a member's name, up to its value
abbrev pub name_at : Reader (List ℕ)
name_at bs =
    after_byte quotation_mark bs >>= λ bs. string_at bs >>= λ x. after_byte colon (skip x.1)
    >>= λ bs. Some (x.0, skip bs)

-- a member
abbrev pub pair_at : Reader JsonValue → Reader (List ℕ × JsonValue)
pair_at p bs = name_at bs >>= λ n. p n.1 >>= λ x. Some ((n.0, x.0), x.1)

-- a list whose items p reads, from behind its opening bracket
abbrev pub list_at : Reader JsonValue → Reader JsonValue
list_at p bs = enclosed right_square_bracket p (skip bs) >>= λ x. Some (list (values x.0), x.1)

-- an object, the same
abbrev pub object_at : Reader JsonValue → Reader JsonValue
object_at p bs =
    enclosed right_curly_bracket (pair_at p) (skip bs) >>= λ x. Some (object (pairs x.0), x.1)

-- what reads lists and what reads objects
abbrev pub Nested : Type 0
Nested = Reader JsonValue × Reader JsonValue

-- a value, with lists and objects read by these; its first byte says which rule is its own
abbrev pub value_by : Nested → Reader JsonValue
value_by nested [] = None
value_by nested (b ∷ bs) =
    if b == quotation_mark then leaf words (string_at bs)
    else if b == left_curly_bracket then nested.1 bs
    else if b == left_square_bracket then nested.0 bs
    else if b == lower_n then literal (codes "null") null (b ∷ bs)
    else if b == lower_t then literal (codes "true") (truth true) (b ∷ bs)
    else if b == lower_f then literal (codes "false") (truth false) (b ∷ bs)
    else leaf number (number_at (b ∷ bs))

-- lists and objects that nest at most d deep
unfoldable pub nested_at : ℕ → Nested
nested_at zero = (λ bs. None, λ bs. None)
nested_at (suc d) = (list_at (value_by (nested_at d)), object_at (value_by (nested_at d)))

-- a value that nests at most d deep, with no white space before it
abbrev pub value_at : ℕ → Reader JsonValue
value_at d bs = value_by (nested_at d) bs

-- what is read, where nothing is left behind it
abbrev pub whole : Option (JsonValue × List ℕ) → Option JsonValue
whole None = None
whole (Some (v, [])) = Some v
whole (Some (v, b ∷ bs)) = None

abbrev pub or_else : {A : Type 0} → A → Option A → A
or_else d None = d
or_else d (Some x) = x

-- the bytes behind a byte-order mark, where they begin with one
abbrev pub unmarked : List ℕ → List ℕ
unmarked bs = or_else bs (after byte_order_mark bs)

-- the value of a JSON text
unfoldable pub value_in : List ℕ → Option JsonValue
value_in bs = whole (value_at max_nesting (skip (unmarked bs)))
