-- The first content of a tile, as it is kept.
use Rattle.std.specs.Prelude.{◌≡◌, ⊤, ℕ, Bool, true, false, List, [], ◌∷◌}
use Rattle.tile_uri.specs.Addresses.{IsAddress, is_external}
use Rattle.tileset_schema.specs.declared.rest.ContentKind.{ContentKind}
use Rattle.tileset_schema.specs.declared.rest.ContentKind.TheVariants.{Absent, Own, External}

-- the addresses of all contents, where these are those from the second on
abbrev pub contents_by : ContentKind → List ℕ → List (List ℕ) → List (List ℕ)
contents_by Absent first more = []
contents_by Own first more = first ∷ more
contents_by External first more = first ∷ more

-- what holds of the first content
pub record IsContent (is : Bool) (text : List ℕ) : Type 0 where
  pub address : IsAddress text
  pub external : is_external text ≡ is

abbrev pub IsFirst : ContentKind → List ℕ → Type 0
IsFirst Absent first = ⊤
IsFirst Own first = IsContent false first
IsFirst External first = IsContent true first
