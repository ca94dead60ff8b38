-- The view that a text is of, as a function of the text.
use Rattle.std.specs.Prelude.{ℕ, ℤ, Bool, not, ◌&&◌, ◌||◌, ◌==◌, Option, Some, None, is_none}
use Rattle.std.specs.Prelude.{List, [], ◌∷◌, bytes_eq, map, unsigned_abs, if◌then◌else◌}
use Rattle.std.specs.Char.{is_ascii_digit}
use Rattle.std.specs.List.{slice_split}
use Rattle.std.specs.Str.Parse.{signed_digits_value}
use Rattle.fixed_geometry.specs.declared.point.Point.{Point}
use Rattle.volumes.specs.declared.plane.Plane.{Plane}
use Rattle.error_test.specs.Views.{ViewParts, field_past_limit, view_parts}
use Rattle.session_script.specs.ViewTexts.{text_of_view}
use Rattle.session_script.specs.Chains.{◌>>=◌}

-- no digit and no `-`
abbrev pub is_between_numbers : ℕ → Bool
is_between_numbers byte = not (is_ascii_digit byte || byte == 45)

-- the numbers of a text: what stands between such bytes, where nothing counts as 0
abbrev pub numbers_in : List ℕ → List ℤ
numbers_in text = map (signed_digits_value 10) (slice_split is_between_numbers text)

abbrev pub point_of : ℤ → ℤ → ℤ → Point
point_of x y z = record { x = x; y = y; z = z }

-- a plane of each four numbers
abbrev pub planes_of : List ℤ → List Plane
planes_of (x ∷ y ∷ z ∷ d ∷ numbers) = (record { n = point_of x y z; d = d }) ∷ planes_of numbers
planes_of _ = []

-- the view of the numbers behind the first, which is what stands before the `@`
abbrev pub view_of_numbers : List ℤ → Option ViewParts
view_of_numbers (first ∷ x ∷ y ∷ z ∷ height ∷ over ∷ under ∷ allowed ∷ planes) =
    Some (view_parts (point_of x y z) (unsigned_abs height) (unsigned_abs over)
    (unsigned_abs under) (unsigned_abs allowed) (planes_of planes))
view_of_numbers _ = None

-- the text is the one spelling of the view, whose parts are within their limits
abbrev pub spells : List ℕ → ViewParts → Bool
spells text view = bytes_eq (text_of_view view) text && is_none (field_past_limit view)

-- the view that the text spells, if there is one
unfoldable pub view_of : List ℕ → Option ViewParts
view_of text =
    view_of_numbers (numbers_in text) >>= λ view. if spells text view then Some view else None
