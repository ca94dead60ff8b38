use Rattle.std.proofs.Common.{◌≡◌}
use Rattle.meta_schema.specs.Reading.{enums_of}
use Rattle.meta_schema.specs.Seen.{members_seen}
use Rattle.meta_schema.proofs.Chains.{behind}
use Rattle.meta_schema.proofs.enum_reading.read_enums.Given as goal

-- those so far, with those that are left, are all
abbrev pub invariant-loop-value : goal.invariant-loop-value
invariant-loop-value l = record {
  can_next : (goal.iterator-loop-value).can_next l.rest;
  is_finite : (goal.iterator-loop-value).is_finite l.rest;
  all : behind l.enums (enums_of (members_seen l.rest)) ≡ enums_of l.members;
}
