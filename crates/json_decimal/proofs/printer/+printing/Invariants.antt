use Rattle.std.proofs.Common.{◌≡◌, ◌≤◌, ◌++◌, ◌+◌, ◌*◌, length, map, codes}
use Rattle.std.specs.List.{flat_map}
use Rattle.json_decimal.specs.JsonValue.{depth, values_depth, pairs_depth, values, pairs}
use Rattle.json_decimal.specs.Printed.{printed_values, printed_members, SpellAllNumbers, SpellMemberNumbers}
use Rattle.json_decimal.specs.View.{value_of, pair_of}
use Rattle.json_decimal.specs.WellFormed.{AreWellFormed, ArePairsWellFormed}
use Rattle.json_decimal.proofs.printer.+printing.Given as goal

abbrev pub decreases-push_value : goal.decreases-push_value
decreases-push_value l = 4 * depth (value_of l.value.now)

abbrev pub decreases-push_values : goal.decreases-push_values
decreases-push_values l = 4 * values_depth (values (map value_of l.items.now)) + 3

abbrev pub decreases-push_more_values : goal.decreases-push_more_values
decreases-push_more_values l = 4 * values_depth (values (map value_of l.items.now)) + 2

abbrev pub decreases-push_members : goal.decreases-push_members
decreases-push_members l = 4 * pairs_depth (pairs (map pair_of l.members.now)) + 3

abbrev pub decreases-push_more_members : goal.decreases-push_more_members
decreases-push_more_members l = 4 * pairs_depth (pairs (map pair_of l.members.now)) + 2

abbrev pub decreases-push_member : goal.decreases-push_member
decreases-push_member l = 4 * depth (value_of l.member.now.value) + 1

abbrev pub invariant-push_more_values-loop-item : goal.invariant-push_more_values-loop-item
invariant-push_more_values-loop-item l = record {
  told :
      l.into.items
      ++ flat_map (λ t. codes "," ++ t) (printed_values (values (map value_of l.rest)))
      ≡ l.initial.into.items
      ++ flat_map (λ t. codes "," ++ t) (printed_values (values (map value_of l.items)));
  formed :
      AreWellFormed (values (map value_of l.rest)) → AreWellFormed (values (map value_of l.items));
  numbers : SpellAllNumbers (values (map value_of l.rest));
  within :
      values_depth (values (map value_of l.rest)) ≤ values_depth (values (map value_of l.items));
}

abbrev pub decreases-push_more_values-loop-item : goal.decreases-push_more_values-loop-item
decreases-push_more_values-loop-item l = length l.rest

abbrev pub invariant-push_more_members-loop-member : goal.invariant-push_more_members-loop-member
invariant-push_more_members-loop-member l = record {
  told :
      l.into.items
      ++ flat_map (λ t. codes "," ++ t) (printed_members (pairs (map pair_of l.rest)))
      ≡ l.initial.into.items
      ++ flat_map (λ t. codes "," ++ t) (printed_members (pairs (map pair_of l.members)));
  formed :
      ArePairsWellFormed (pairs (map pair_of l.rest))
      → ArePairsWellFormed (pairs (map pair_of l.members));
  numbers : SpellMemberNumbers (pairs (map pair_of l.rest));
  within : pairs_depth (pairs (map pair_of l.rest)) ≤ pairs_depth (pairs (map pair_of l.members));
}

abbrev pub decreases-push_more_members-loop-member : goal.decreases-push_more_members-loop-member
decreases-push_more_members-loop-member l = length l.rest
