-- The contents of a list, of which each has a uri.
use Rattle.std.proofs.Common.{◌≡◌, ℕ, List, [], ◌∷◌, Bool, true, false, Option, Ok, Err, refl, ap, if◌then◌else◌}
use Rattle.std.specs.List.{list_all}
use Rattle.json_decimal.specs.JsonValue.{JsonValue}
use Rattle.tileset_schema.specs.Causes.{Read, ◌>>=◌, each}
use Rattle.tileset_schema.specs.Firsts.{contents_by}
use Rattle.tileset_schema.specs.Parts.{addresses, content_values, is_object, uri_of}
use Rattle.tileset_schema.specs.Uris.{addresses_by, done, uris}
use Rattle.tileset_schema.specs.declared.rest.ContentKind.{ContentKind}
use Rattle.tileset_schema.specs.declared.rest.ContentKind.TheVariants as kinds
use Rattle.tileset_schema.specs.declared.field.Field.TheVariants.{Content}
use Rattle.tileset_schema.specs.declared.error.DocumentError.TheVariants.{Shape}
use Rattle.tileset_schema.proofs.Chains.{each_then}

-- what each uri gives, where each content has one
module _ (C : Type 0) (tile : ℕ) (g : List ℕ → Read C) (vs : List JsonValue) where
  with_uris : (r : Read (List (List ℕ))) → each (uri_of tile) vs ≡ r → Ok tt ≡ done r
      → each (λ v. uri_of tile v >>= g) vs ≡ (r >>= each g)
  with_uris (Ok us) e h = each_then _ _ _ (uri_of tile) g vs us e
  with_uris (Err f) e h = cc

  pub each_uri : Ok tt ≡ done (uris tile vs)
      → each (λ v. uri_of tile v >>= g) vs ≡ (uris tile vs >>= each g)
  each_uri h = go (list_all is_object vs) h
    where
      of_objects : Bool → Read (List (List ℕ))
      of_objects b = (if b then Ok vs else Err (Shape Content tile)) >>= each (uri_of tile)

      go : (b : Bool) → Ok tt ≡ done (of_objects b)
          → each (λ v. uri_of tile v >>= g) vs ≡ (of_objects b >>= each g)
      go true h = with_uris (each (uri_of tile) vs) refl h
      go false h = cc

-- the values of the contents are those of the members
pub by_values : (base : List ℕ) (tile : ℕ) (content several : Option JsonValue)
    (vs : List JsonValue) → Ok vs ≡ content_values tile content several
    → addresses_by base tile vs ≡ addresses base tile content several
by_values base tile content several vs h = rw (← h) refl

-- the first content, and those behind it
pub first_and : (kind : ContentKind) (text : List ℕ) (more : List (List ℕ)) (address : List ℕ)
    → contents_by kind text [] ≡ address ∷ [] → contents_by kind text more ≡ address ∷ more
first_and kinds.Absent text more address h = cc
first_and kinds.Own text more address h =
    let same : text ≡ address = cc in ap (λ a. a ∷ more) same
first_and kinds.External text more address h =
    let same : text ≡ address = cc in ap (λ a. a ∷ more) same
