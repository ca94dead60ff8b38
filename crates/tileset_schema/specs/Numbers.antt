-- Lists of numbers, and what they give: points, volumes, errors, the entries of a transform.
use Rattle.std.specs.Prelude.{ℕ, ◌+◌, ℤ, pos, negsuc, unsigned_abs, min, nat_le, if◌then◌else◌, Option, Some, None, List, [], ◌∷◌, length, ◌==◌}
use Rattle.json_decimal.specs.JsonValue.{JsonValue}
use Rattle.json_decimal.specs.Parts.{items_of, number_of}
use Rattle.fixed_geometry.specs.Decimal.{fixed}
use Rattle.fixed_geometry.specs.Points.{coordinate_limit}
use Rattle.fixed_geometry.specs.Sixteen.{read_at}
use Rattle.fixed_geometry.specs.declared.point.Point.{Point}
use Rattle.volumes.specs.Limits.{error_limit}
use Rattle.volumes.specs.declared.volume.Volume.{Volume}
use Rattle.volumes.specs.declared.volume.Volume.TheVariants.{Oriented, Ball}

infixl 10 ◌>>=◌
abbrev pub ◌>>=◌ : {A B : Type 0} → Option A → (A → Option B) → Option B
None >>= f = None
(Some x) >>= f = f x

-- ---- lists of numbers

-- the spellings of values that are all numbers
abbrev pub spellings : List JsonValue → Option (List (List ℕ))
spellings [] = Some []
spellings (v ∷ vs) = number_of v >>= λ s. spellings vs >>= λ ss. Some (s ∷ ss)

abbrev pub counted : ℕ → List JsonValue → Option (List JsonValue)
counted count vs = if length vs == count then Some vs else None

-- the spellings in a list of exactly this many numbers
abbrev pub numbers : ℕ → JsonValue → Option (List (List ℕ))
numbers count v = items_of v >>= counted count >>= spellings

-- ---- lengths, in whole millimetres

abbrev pub within_limit : ℤ → Option ℤ
within_limit n = if nat_le (unsigned_abs n) coordinate_limit then Some n else None

abbrev pub coordinate : List ℕ → Option ℤ
coordinate spelling = within_limit (fixed spelling 3)

abbrev pub not_negative : ℤ → Option ℤ
not_negative (pos n) = Some (pos n)
not_negative (negsuc n) = None

abbrev pub radius : List ℕ → Option ℤ
radius spelling = coordinate spelling >>= not_negative

-- the point of three coordinates
abbrev pub point : List ℕ → List ℕ → List ℕ → Option Point
point a b c =
    coordinate a >>= λ x. coordinate b >>= λ y. coordinate c >>= λ z.
    Some (record { x = x; y = y; z = z })

-- ---- volumes (OGC 22-025r4, "Bounding volumes")

-- a centre and three half axes
abbrev pub box_of : List (List ℕ) → Option Volume
box_of (x ∷ y ∷ z ∷ ax ∷ ay ∷ az ∷ bx ∷ by ∷ bz ∷ cx ∷ cy ∷ cz ∷ []) =
    point x y z >>= λ centre.
    point ax ay az >>= λ a. point bx by bz >>= λ b. point cx cy cz >>= λ c.
    Some (Oriented centre (a ∷ b ∷ c ∷ []))
box_of _ = None

-- a centre and a radius that isn't negative
abbrev pub sphere_of : List (List ℕ) → Option Volume
sphere_of (x ∷ y ∷ z ∷ r ∷ []) =
    point x y z >>= λ centre. radius r >>= λ size. Some (Ball centre size)
sphere_of _ = None

-- ---- errors, in whole micrometres

-- an error that isn't negative, clamped to the limit
abbrev pub clamped_error : ℤ → Option ℕ
clamped_error (pos n) = Some (min n error_limit)
clamped_error (negsuc n) = None

-- ---- transforms

-- numbers as a map reads them, the first at index k
abbrev pub read_from : ℕ → List (List ℕ) → List (Option ℤ)
read_from k [] = []
read_from k (s ∷ ss) = read_at k s ∷ read_from (k + 1) ss
