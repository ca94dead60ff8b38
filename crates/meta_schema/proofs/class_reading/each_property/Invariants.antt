use Rattle.std.proofs.Common.{◌≡◌}
use Rattle.meta_schema.specs.Causes.{each}
use Rattle.meta_schema.specs.Classes.{property}
use Rattle.meta_schema.specs.Members.{names}
use Rattle.meta_schema.specs.Seen.{members_seen}
use Rattle.meta_schema.proofs.Chains.{behind}
use Rattle.meta_schema.proofs.class_reading.each_property.Given as goal

-- those so far, with those that are left, are all
abbrev pub invariant-loop-name : goal.invariant-loop-name
invariant-loop-name l = record {
  can_next : (goal.iterator-loop-name).can_next l.rest;
  is_finite : (goal.iterator-loop-name).is_finite l.rest;
  all :
      behind l.properties (each (property (names l.enums)) (members_seen l.rest))
      ≡ each (property (names l.enums)) l.members;
}
