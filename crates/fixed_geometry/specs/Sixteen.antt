-- The sixteen numbers of a transform, in column-major order (OGC 22-025r4, `transform` of a tile).
use Rattle.std.specs.Prelude.{ℕ, ℤ, pos, List, Bool, if◌then◌else◌, ◌&&◌, nat_le, nat_lt, Option}
use Rattle.std.specs.Prelude.{Some, None, Result, Ok, Err, slice_index_or, ◌≤◌, unsigned_abs}
use Rattle.std.specs.List.{position_or_len}
use Rattle.std.specs.Option.{is_none}
use Rattle.std.specs.Ordering.{int_eq}
use Rattle.fixed_geometry.specs.Decimal.{fixed_within}
use Rattle.fixed_geometry.specs.Points.{coordinate_limit}
use Rattle.fixed_geometry.specs.Maps.{Map, parts, linear_limit}
use Rattle.fixed_geometry.specs.declared.sixteen.AffineError.{AffineError}
use Rattle.fixed_geometry.specs.declared.sixteen.AffineError.TheVariants.{OutOfRange, NotAffine}

-- whether the number at the index is a coordinate of the shift, in metres, and no linear entry
abbrev pub is_shift : ℕ → Bool
is_shift k = nat_le 12 k && nat_lt k 15

-- the places behind the point that are read: to millimetres, and to 10^-9 parts
abbrev pub places_at : ℕ → ℕ
places_at k = if is_shift k then 3 else 9

-- the greatest size that is in range
abbrev pub limit_at : ℕ → ℕ
limit_at k = if is_shift k then coordinate_limit else linear_limit

-- the number at index k as its text is read, or none where it is out of range
abbrev pub read_at : ℕ → List ℕ → Option ℤ
read_at k t = fixed_within t (places_at k) (limit_at k)

abbrev pub number_of : Option ℤ → ℤ
number_of None = pos 0
number_of (Some v) = v

-- the number at index k, or 0 where none was in range
abbrev pub number_at : List (Option ℤ) → ℕ → ℤ
number_at ns k = number_of (slice_index_or ns k None)

-- at most sixteen numbers, each within the limit at its index
pub record AreNumbersInRange (count : ℕ) (values : List (Option ℤ)) : Type 0 where
  pub few : count ≤ 16
  pub in_range : (k : ℕ) → unsigned_abs (number_at values k) ≤ limit_at k

-- the first index out of range, or the length where all are in range
abbrev pub first_missing : List (Option ℤ) → ℕ
first_missing ns = position_or_len is_none ns

-- entries 3, 7, 11 and 15, the bottom row, are 0, 0, 0 and 1
abbrev pub is_affine : List (Option ℤ) → Bool
is_affine ns =
    int_eq (number_at ns 3) (pos 0)
    && int_eq (number_at ns 7) (pos 0)
    && int_eq (number_at ns 11) (pos 0)
    && int_eq (number_at ns 15) (pos parts)

-- the map whose columns the numbers give, one after another
abbrev pub map_of : List (Option ℤ) → Map
map_of ns = record {
  x = record { x = number_at ns 0; y = number_at ns 4; z = number_at ns 8 };
  y = record { x = number_at ns 1; y = number_at ns 5; z = number_at ns 9 };
  z = record { x = number_at ns 2; y = number_at ns 6; z = number_at ns 10 };
  shift = record { x = number_at ns 12; y = number_at ns 13; z = number_at ns 14 };
}

-- the map of sixteen numbers; a number out of range comes before a bottom row that isn't 0, 0, 0, 1
abbrev pub affine_of : List (Option ℤ) → Result Map AffineError
affine_of ns =
    if nat_lt (first_missing ns) 16 then Err (OutOfRange (first_missing ns))
    else (if is_affine ns then Ok (map_of ns) else Err NotAffine)
