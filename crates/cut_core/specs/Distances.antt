-- How far the visited nodes are from the eye.
use Rattle.std.specs.Prelude.{ℕ, Option, Some, None, List, [], ◌∷◌, ◌++◌, if◌then◌else◌, map}
use Rattle.std.specs.List.{flat_map}
use Rattle.volumes.specs.declared.volume.Volume.{Volume}
use Rattle.volumes.specs.Distances.{distance}
use Rattle.error_test.specs.Views.{ViewParts}
use Rattle.expanded_tree.specs.Tree.{Tree, tile, pending, Trees, no_trees, more_trees, facts_of, children_of}
use Rattle.cut_core.specs.Cut.{is_culled, wants, from_root}

-- a node, and its distance in millimetres
pub record Measured : Type 0 where
  pub tree : Tree
  pub distance : ℕ

-- how far the eye is outside the volume; where that isn't known, the distance of the node above
abbrev pub distance_or : ViewParts → ℕ → Option Volume → ℕ
distance_or view above None = above
distance_or view above (Some volume) = distance volume view.eye

abbrev pub distance_of : ViewParts → ℕ → Tree → ℕ
distance_of view above t = distance_or view above (facts_of t).volume

abbrev pub measured : ViewParts → ℕ → Tree → Measured
measured view above t = record { tree = t; distance = distance_of view above t }

-- the visited nodes, each with its distance, where the node above is at this one
abbrev mutual
  pub measured_nodes : ViewParts → ℕ → Tree → List Measured
  measured_nodes view above (pending name facts key) =
      let t = pending name facts key in
      if is_culled view t then [] else measured view above t ∷ []
  measured_nodes view above (tile parts children) =
      let t = tile parts children in
      if is_culled view t then []
      else if wants view t then
      measured view above t ∷ all_measured_nodes view (distance_of view above t) children
      else measured view above t ∷ []

  pub all_measured_nodes : ViewParts → ℕ → Trees → List Measured
  all_measured_nodes view above no_trees = []
  all_measured_nodes view above (more_trees t ts) =
      measured_nodes view above t ++ all_measured_nodes view above ts

-- the visited nodes below a node at this distance that wants its children
abbrev pub measured_below : ViewParts → ℕ → Tree → List Measured
measured_below view above t = flat_map (measured_nodes view above) (children_of t)

-- the visited nodes of a whole tree; a root without a volume is at no distance
abbrev pub measured_visits : ViewParts → Option Tree → List Measured
measured_visits view root = from_root (measured_nodes view 0) root

abbrev pub trees_in : List Measured → List Tree
trees_in nodes = map (λ m. m.tree) nodes
