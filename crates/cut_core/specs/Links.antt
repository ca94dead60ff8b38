-- What a walk notes of where each visited node stands.
use Rattle.std.specs.Prelude.{ℕ, ◌≡◌, Bool, Option, List, ◌++◌, map}
use Rattle.error_test.specs.Views.{ViewParts}
use Rattle.cut_core.specs.declared.findings.Visit.{Visit}
use Rattle.cut_core.specs.Cut.{wants}
use Rattle.cut_core.specs.Linked.{Linked}

-- the number of the node's parent among the visited nodes, and whether the node is a tile that wants
-- its children
pub record Link : Type 0 where
  pub parent : Option ℕ
  pub wants : Bool

abbrev pub link_of : ViewParts → Linked → Link
link_of view n = record { parent = n.parent; wants = wants view n.tree }

abbrev pub link_in : Visit → Link
link_in v = record { parent = v.parent; wants = v.wants }

abbrev pub links_in : List Visit → List Link
links_in visits = map link_in visits

-- the further notes are of nodes that stand so
abbrev pub LinksMore : ViewParts → List Visit → List Visit → List Linked → Type 0
LinksMore view before after nodes = links_in after ≡ links_in before ++ map (link_of view) nodes
