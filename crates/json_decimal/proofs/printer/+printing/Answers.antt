use Rattle.std.proofs.Common.{◌≡◌, ◌++◌, OnOk, map, sym, ap, subst, arith}
use Rattle.json_decimal.specs.JsonValue.{JsonValue, depth, list, object, values, pairs}
use Rattle.json_decimal.specs.Printed.{printed, SpellsNumbers}
use Rattle.json_decimal.specs.View.{value_of, pair_of}
use Rattle.json_decimal.specs.WellFormed.{IsWellFormed}
use Rattle.json_decimal.proofs.Slices.{list_is, object_is}
use Rattle.json_decimal.proofs.printer.+printing.Goals as goal

pub push_value-push_values-requires : goal.push_value-push_values-requires
push_value-push_values-requires t c =
    let is : value_of c.args.value.now ≡ list (values (map value_of c.as_slice.result.now)) =
    list_is c.args.value.now _ c.as_slice.result.now c.in-List.is c.as_slice.ensures in
    (omega (arith, c.decreases, ap depth is), subst SpellsNumbers is c.requires)

pub push_value-push_members-requires : goal.push_value-push_members-requires
push_value-push_members-requires t c =
    let is : value_of c.args.value.now
    ≡ object (pairs (map pair_of c.as_slice-in-Object.result.now)) =
    object_is c.args.value.now _ c.as_slice-in-Object.result.now c.in-Object.is
    c.as_slice-in-Object.ensures in
    (omega (arith, c.decreases, ap depth is), subst SpellsNumbers is c.requires)

pub push_value-returns-in-List-clause-added : goal.push_value-returns-in-List-clause-added
push_value-returns-in-List-clause-added t c =
    subst (λ (v : JsonValue). OnOk c.push_values.result
    (c.push_values.new.into.items ≡ c.args.into.now.items ++ printed v))
    (sym (list_is c.args.value.now _ c.as_slice.result.now c.in-List.is c.as_slice.ensures))
    c.push_values.ensures.added

pub push_value-returns-in-List-clause-well_formed :
    goal.push_value-returns-in-List-clause-well_formed
push_value-returns-in-List-clause-well_formed t c =
    subst (λ (v : JsonValue). OnOk c.push_values.result (IsWellFormed v))
    (sym (list_is c.args.value.now _ c.as_slice.result.now c.in-List.is c.as_slice.ensures))
    c.push_values.ensures.well_formed

pub push_value-returns-in-Object-clause-added : goal.push_value-returns-in-Object-clause-added
push_value-returns-in-Object-clause-added t c =
    subst (λ (v : JsonValue). OnOk c.push_members.result
    (c.push_members.new.into.items ≡ c.args.into.now.items ++ printed v))
    (sym (object_is c.args.value.now _ c.as_slice-in-Object.result.now c.in-Object.is
    c.as_slice-in-Object.ensures)) c.push_members.ensures.added

pub push_value-returns-in-Object-clause-well_formed :
    goal.push_value-returns-in-Object-clause-well_formed
push_value-returns-in-Object-clause-well_formed t c =
    subst (λ (v : JsonValue). OnOk c.push_members.result (IsWellFormed v))
    (sym (object_is c.args.value.now _ c.as_slice-in-Object.result.now c.in-Object.is
    c.as_slice-in-Object.ensures)) c.push_members.ensures.well_formed
