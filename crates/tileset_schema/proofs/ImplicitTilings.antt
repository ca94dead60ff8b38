-- The steps of `implicitTiling`, where each content has a uri.
use Rattle.std.proofs.Common.{◌≡◌, ℕ, Bool, List, Option, Ok, Err, refl, ap, sym, ◌∙◌}
use Rattle.json_decimal.specs.JsonValue.{JsonValue}
use Rattle.volumes.specs.declared.volume.Volume.{Volume}
use Rattle.tileset_schema.specs.Causes.{Read, ◌>>=◌, each}
use Rattle.tileset_schema.specs.Implicit.{ImplicitParts, Subdivision, box_only, implicit_tiling, subdivision, template, with_contents}
use Rattle.tileset_schema.specs.Parts.{content_values, implicit_contents}
use Rattle.tileset_schema.specs.Tilings.{tiling_of}
use Rattle.tileset_schema.specs.Uris.{content_template, done, uris}
use Rattle.tileset_schema.specs.declared.error.DocumentError.{DocumentError}
use Rattle.tileset_schema.proofs.Listed.{each_uri}

-- the templates are those of the uris
pub with_uris : (tile : ℕ) (volume : Volume) (vs : List JsonValue) (v : JsonValue)
    → Ok tt ≡ done (uris tile vs)
    → tiling_of tile volume vs v
    ≡ (uris tile vs >>= λ us. implicit_tiling tile volume us v)
with_uris tile volume vs v h =
    go (uris tile vs) h (λ octree. each_uri _ tile (template octree tile) vs h)
  where
    behind : Subdivision → Read (List (List ℕ)) → Read ImplicitParts
    behind own contents =
        contents >>= λ ts. box_only tile volume >>= λ u. Ok (with_contents own ts)

    at : (us : List (List ℕ))
        → ((octree : Bool) → each (content_template octree tile) vs ≡ each (template octree tile) us)
        → (r : Read Subdivision)
        → (r >>= λ own. behind own (each (content_template own.octree tile) vs))
        ≡ (r >>= λ own. behind own (each (template own.octree tile) us))
    at us same (Ok own) = rw (same own.octree) refl
    at us same (Err e) = refl

    go : (r : Read (List (List ℕ))) → Ok tt ≡ done r
        → ((octree : Bool)
        → each (content_template octree tile) vs ≡ (r >>= each (template octree tile)))
        → tiling_of tile volume vs v ≡ (r >>= λ us. implicit_tiling tile volume us v)
    go (Ok us) h same = at us same (subdivision tile v)
    go (Err e) h same = cc

module _ (tile : ℕ) (volume : Volume) (content several : Option JsonValue)
    (vs : List JsonValue) (v : JsonValue)
    (values : Ok vs ≡ content_values tile content several) where
  by_values : implicit_contents tile volume content several v
      ≡ (uris tile vs >>= λ us. implicit_tiling tile volume us v)
  by_values = rw (← values) refl

  pub tiling_is : Ok tt ≡ done (uris tile vs)
      → tiling_of tile volume vs v ≡ implicit_contents tile volume content several v
  tiling_is h = with_uris tile volume vs v h ∙ sym by_values

  pub no_uris : (e : DocumentError) → Err e ≡ done (uris tile vs)
      → implicit_contents tile volume content several v ≡ Err e
  no_uris e h = by_values ∙ go (uris tile vs) h
    where
      go : (r : Read (List (List ℕ))) → Err e ≡ done r
          → (r >>= λ us. implicit_tiling tile volume us v) ≡ Err e
      go (Ok us) k = cc
      go (Err f) k = let same : e ≡ f = cc in ap Err (sym same)
