-- A list and an object, by the slices of what they hold.
use Rattle.std.proofs.Common.{◌≡◌, List, map, sym, ap, ◌∙◌}
use Rattle.json_decimal.specs.JsonValue.{Values, Pairs, list, object, values, pairs, list_of, pairs_of, values-list_of, pairs-pairs_of}
use Rattle.json_decimal.specs.View.{value_of, pair_of}
use Rattle.json_decimal.specs.declared.json.Json.{Json}
use Rattle.json_decimal.specs.declared.json.Json.TheVariants.{List as Listed, Object}
use Rattle.json_decimal.specs.declared.json.JsonPair.{JsonPair}

pub list_is : (json : Json) (vs : Values) (items : List Json) → json ≡ Listed vs
    → map value_of items ≡ list_of vs → value_of json ≡ list (values (map value_of items))
list_is json vs items is are =
    ap value_of is ∙ ap list (sym (values-list_of vs)) ∙ ap (λ (xs : List _). list (values xs)) (sym are)

pub object_is : (json : Json) (ps : Pairs) (members : List JsonPair) → json ≡ Object ps
    → map pair_of members ≡ pairs_of ps → value_of json ≡ object (pairs (map pair_of members))
object_is json ps members is are =
    ap value_of is
    ∙ ap object (sym (pairs-pairs_of ps))
    ∙ ap (λ (xs : List _). object (pairs xs)) (sym are)
