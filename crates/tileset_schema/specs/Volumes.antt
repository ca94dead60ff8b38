-- Bounding volumes, as they are written (OGC 22-025r4, "Bounding volumes").
use Rattle.std.specs.Prelude.{ℕ, Option, Some, None, Err, codes}
use Rattle.json_decimal.specs.JsonValue.{JsonValue, last_of}
use Rattle.json_decimal.specs.Parts.{members_of}
use Rattle.volumes.specs.declared.volume.Volume.{Volume}
use Rattle.tileset_schema.specs.Causes.{Read, ◌>>=◌, or_cause}
use Rattle.tileset_schema.specs.Numbers.{numbers, box_of, sphere_of}
use Rattle.tileset_schema.specs.declared.field.Field.{Field}
use Rattle.tileset_schema.specs.declared.error.DocumentError.TheVariants.{Shape, OutOfRange, RegionVolume, NoVolume}

-- a box is a list of 12 numbers, each within the limits
abbrev pub box : Field → ℕ → JsonValue → Read Volume
box field tile v =
    or_cause (Shape field tile) (numbers 12 v) >>= λ ns.
    or_cause (OutOfRange field tile) (box_of ns)

-- a sphere is a list of 4 numbers, each within the limits, with a radius that isn't negative
abbrev pub sphere : Field → ℕ → JsonValue → Read Volume
sphere field tile v =
    or_cause (Shape field tile) (numbers 4 v) >>= λ ns.
    or_cause (OutOfRange field tile) (sphere_of ns)

-- of the values of `box`, `sphere` and `region` the first that is there counts
abbrev pub volume_named : Field → ℕ → Option JsonValue → Option JsonValue → Option JsonValue
    → Read Volume
volume_named field tile (Some v) sphere_value region = box field tile v
volume_named field tile None (Some v) region = sphere field tile v
volume_named field tile None None (Some v) = Err (RegionVolume tile)
volume_named field tile None None None = Err (NoVolume tile)

-- the volume of an object
abbrev pub volume_of : Field → ℕ → JsonValue → Read Volume
volume_of field tile v =
    or_cause (Shape field tile) (members_of v) >>= λ members.
    volume_named field tile (last_of (codes "box") members) (last_of (codes "sphere") members)
    (last_of (codes "region") members)
