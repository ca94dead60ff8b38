-- What the nodes want of which a walk took notes.
use Rattle.std.specs.Prelude.{IsTrue, List}
use Rattle.tile_types.specs.declared.want.Want.{Want}
use Rattle.error_test.specs.Views.{ViewParts}
use Rattle.expanded_tree.specs.Standing.{Standing}
use Rattle.cut_core.specs.declared.findings.Visit.{Visit}
use Rattle.cut_core.specs.Cut.{Holdings}
use Rattle.cut_core.specs.Distances.{Measured}
use Rattle.cut_core.specs.Walk.{IsAnyValid, distance_by}
use Rattle.cut_core.specs.Wants.{wants_of}

-- the node is valid, and so is the one by whose volume it is measured
pub record IsNoteValid (s : Standing) (v : Visit) : Type 0 where
  pub node : IsTrue (s.is_valid v.node)
  pub measured_by : IsAnyValid s v.measured_by

-- the node and its distance
abbrev pub measured_at : Standing → ViewParts → Visit → Measured
measured_at s view v =
    record { tree = s.node_tree v.node; distance = distance_by s view v.measured_by }

abbrev pub wants_noted : Standing → ViewParts → Holdings → Visit → List Want
wants_noted s view holdings v = wants_of holdings v.kept (measured_at s view v)
