-- What is known of a node.
use Rattle.std.specs.Prelude.{ℕ, ◌≤◌, Bool, false, ◌||◌, Option, Some, None}
use Rattle.std.specs.Option.{ForSome}
use Rattle.tile_types.specs.declared.refine.Refine.{Refine}
use Rattle.volumes.specs.declared.volume.Volume.{Volume}
use Rattle.volumes.specs.Limits.{IsInRange, error_limit}
use Rattle.error_test.specs.Views.{ViewParts, passes, culled}

-- the bounding volume and the viewer request volume, where known, the geometric error, the
-- refinement, and whether the tile has an external content
pub record Facts : Type 0 where
  pub volume : Option Volume
  pub request : Option Volume
  pub error : ℕ
  pub refine : Refine
  pub external : Bool

-- the sizes within which the facts of every node lie
pub record AreInRange (volume request : Option Volume) (error : ℕ) : Type 0 where
  pub volume_in_range : ForSome volume IsInRange
  pub request_in_range : ForSome request IsInRange
  pub error_in_range : error ≤ error_limit

-- the volume is known and the test holds of it
abbrev pub is_known : (Volume → Bool) → Option Volume → Bool
is_known test None = false
is_known test (Some volume) = test volume

-- the view doesn't see the node: its volume is known and lies outside one of the view's planes
unfoldable pub culls : ViewParts → Facts → Bool
culls view facts = is_known (λ volume. culled volume view) facts.volume

-- the tile has an external content, or its volume is known and its error is too great at that
-- distance: OGC 22-025r4, "Geometric error"
unfoldable pub may_want : ViewParts → Facts → Bool
may_want view facts = facts.external || is_known
    (λ volume. passes volume facts.error view) facts.volume
