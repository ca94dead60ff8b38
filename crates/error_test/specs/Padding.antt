-- How a view keeps its planes in place: as a prefix of sixteen, with zeros behind them.
use Rattle.std.specs.Prelude.{◌≡◌, ℕ, ◌-◌, ◌≤◌, List, ◌++◌, length, take, replicate, pos}
use Rattle.std.proofs.Common.{arith, ap, length-append}
use Rattle.std.proofs.lemmas.List.{length-take, length-replicate}
use Rattle.volumes.specs.Limits.{zero_vector}
use Rattle.volumes.specs.declared.plane.Plane.{Plane}
use Rattle.error_test.specs.Views.{ViewParts, IsViewInRange, plane_limit}

-- what stands where there is no plane
abbrev pub no_plane : Plane
no_plane = record { n = zero_vector; d = pos 0 }

abbrev pub padded : List Plane → List Plane
padded planes = planes ++ replicate (plane_limit - length planes) no_plane

-- what the fields of a view keep
pub record IsKept (count : ℕ) (planes : List Plane) (parts : ViewParts) : Type 0 where
  pub few : count ≤ plane_limit
  pub rest : padded (take count planes) ≡ planes
  pub in_range : IsViewInRange parts

-- such a view keeps as many planes as it counts
pub length-kept : (count : ℕ) (planes : List Plane) → count ≤ plane_limit
    → padded (take count planes) ≡ planes → length (take count planes) ≡ count
length-kept count planes few rest =
    omega (
      arith,
      length-take count planes,
      length-append (take count planes)
          (replicate (plane_limit - length (take count planes)) no_plane),
      length-replicate {A = Plane} (plane_limit - length (take count planes)) no_plane,
      ap length rest,
    )
