use Rattle.std.proofs.Common.{◌≡◌, length, map}
use Rattle.json_decimal.specs.View.{value_of}
use Rattle.meta_schema.specs.Causes.{each}
use Rattle.meta_schema.specs.Enums.{enum_value}
use Rattle.meta_schema.proofs.Chains.{behind}
use Rattle.meta_schema.proofs.enum_reading.each_value.Given as goal

-- those so far, with those that are left, are all
abbrev pub invariant-loop-first : goal.invariant-loop-first
invariant-loop-first l =
    behind l.values (each (enum_value l.component) (map value_of l.rest))
    ≡ each (enum_value l.component) (map value_of l.items)

abbrev pub decreases-loop-first : goal.decreases-loop-first
decreases-loop-first l = length l.rest
