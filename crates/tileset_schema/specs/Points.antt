-- A box by its points.
use Rattle.std.specs.Prelude.{Option, Some, [], ◌∷◌}
use Rattle.fixed_geometry.specs.declared.point.Point.{Point}
use Rattle.volumes.specs.declared.volume.Volume.{Volume}
use Rattle.volumes.specs.declared.volume.Volume.TheVariants.{Oriented}
use Rattle.tileset_schema.specs.Numbers.{◌>>=◌}

-- a box, if its centre and its half axes are there
abbrev pub box_by : Option Point → Option Point → Option Point → Option Point → Option Volume
box_by centre first second third =
    centre >>= λ p. first >>= λ a. second >>= λ b. third >>= λ c.
    Some (Oriented p (a ∷ b ∷ c ∷ []))
