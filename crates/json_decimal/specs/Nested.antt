-- Lists and objects, which are read alike.
use Rattle.std.specs.Prelude.{◌≡◌, ℕ, List, Result, Ok, Err}
use Rattle.std.proofs.Common.{Bor}
use Rattle.json_decimal.specs.Ascii.{left_square_bracket, right_square_bracket, left_curly_bracket, right_curly_bracket}
use Rattle.json_decimal.specs.JsonValue.{JsonValue}
use Rattle.json_decimal.specs.Scan.{Fails, Reader, skip}
use Rattle.json_decimal.specs.Reading.{name_at, pair_at, nested_at, value_at}
use Rattle.json_decimal.specs.ReadsInto.{IsReadInto, one, name_alone, member_alone}
use Rattle.json_decimal.specs.declared.entry.Entry.{Entry}
use Rattle.json_decimal.specs.declared.error.JsonError.{JsonError}
use Rattle.json_decimal.specs.declared.nesting.Nesting.{Nesting}
use Rattle.json_decimal.specs.declared.nesting.Nesting.TheVariants as nestings

-- the bracket that opens it
abbrev pub opening : Nesting → ℕ
opening nestings.List = left_square_bracket
opening nestings.Object = left_curly_bracket

-- the bracket that closes it
abbrev pub closing : Nesting → ℕ
closing nestings.List = right_square_bracket
closing nestings.Object = right_curly_bracket

-- an item: a value of a list, a member of an object
abbrev pub Item : Nesting → Type 0
Item nestings.List = JsonValue
Item nestings.Object = List ℕ × JsonValue

-- an item that nests at most d deep
abbrev pub item_at : (n : Nesting) → ℕ → Reader (Item n)
item_at nestings.List d = value_at d
item_at nestings.Object d = pair_at (value_at d)

-- the values that stand for an item
abbrev pub item_values : (n : Nesting) → Item n → List JsonValue
item_values nestings.List v = one v
item_values nestings.Object p = member_alone p

-- the whole, from behind its opening bracket
abbrev pub nested_in : Nesting → ℕ → Reader JsonValue
nested_in nestings.List d = (nested_at d).0
nested_in nestings.Object d = (nested_at d).1

-- what stands before the value of an item: nothing in a list, a name in an object, up to the value
abbrev pub ReadsBefore : Nesting → List ℕ → List Entry → List Entry
    → Result (Bor (List ℕ)) JsonError → List ℕ → Type 0
ReadsBefore nestings.List bytes old new (Ok rest) spelled = (new ≡ old) × (rest.now ≡ spelled)
ReadsBefore nestings.List bytes old new (Err e) spelled = ⊥
ReadsBefore nestings.Object bytes old new (Ok rest) spelled =
    IsReadInto name_alone bytes old new rest.now (name_at spelled) × (skip rest.now ≡ rest.now)
ReadsBefore nestings.Object bytes old new (Err e) spelled = Fails e (name_at spelled)
