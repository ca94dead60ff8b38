-- The latest view of each viewer.
use Rattle.std.specs.Prelude.{ℕ, Bool, ◌&&◌, ◌==◌, nat_lt, if◌then◌else◌, List, [], ◌∷◌}
use Rattle.std.specs.List.{list_any}
use Rattle.std.specs.Ordering.{int_eq}
use Rattle.std.specs.Cmp.Lexicographic.{pointwise}
use Rattle.fixed_geometry.specs.declared.point.Point.{Point}
use Rattle.volumes.specs.declared.plane.Plane.{Plane}
use Rattle.error_test.specs.Views.{ViewParts}
use Rattle.engine_state.specs.declared.seen.Seen.{Seen}

-- ---- which views are the same: those of the same parts

abbrev pub same_point : Point → Point → Bool
same_point a b = int_eq a.x b.x && (int_eq a.y b.y && int_eq a.z b.z)

abbrev pub same_plane : Plane → Plane → Bool
same_plane a b = same_point a.n b.n && int_eq a.d b.d

abbrev pub same_view : ViewParts → ViewParts → Bool
same_view a b =
    same_point a.eye b.eye
    && ((a.height == b.height)
    && ((a.tan_over == b.tan_over)
    && ((a.tan_under == b.tan_under)
    && ((a.allowed == b.allowed)
    && pointwise same_plane a.planes b.planes))))

-- ---- views by rising viewer

-- the viewer's latest view is this one
abbrev pub is_latest : List Seen → ℕ → ViewParts → Bool
is_latest views viewer view =
    list_any (λ seen. (seen.viewer == viewer) && same_view seen.view view) views

abbrev pub seen_by : ℕ → ViewParts → Seen
seen_by viewer view = record { viewer = viewer; view = view }

-- the view in the place of the viewer's earlier one
abbrev pub with_view : ℕ → ViewParts → List Seen → List Seen
with_view viewer view [] = seen_by viewer view ∷ []
with_view viewer view (seen ∷ rest) =
    if nat_lt viewer seen.viewer then seen_by viewer view ∷ seen ∷ rest
    else if viewer == seen.viewer then seen_by viewer view ∷ rest
    else seen ∷ with_view viewer view rest
