-- Tiles that say nothing rare, and the steps up to the contents.
use Rattle.std.proofs.Common.{◌≡◌, ℕ, ◌&&◌, Option, Some, None, Ok, List, IsTrue, refl, sym}
use Rattle.std.specs.Option.{is_none}
use Rattle.fixed_geometry.specs.Maps.{identity}
use Rattle.json_decimal.specs.JsonValue.{JsonValue}
use Rattle.tile_types.specs.declared.refine.Refine.{Refine}
use Rattle.volumes.specs.declared.volume.Volume.{Volume}
use Rattle.tileset_schema.specs.ByValues.{are_common, parts_of}
use Rattle.tileset_schema.specs.Causes.{◌>>=◌, Fails}
use Rattle.tileset_schema.specs.Named.{Values}
use Rattle.tileset_schema.specs.Parts.{addresses, bounding_volume, explicit, geometric_error, own_refinement}
use Rattle.tileset_schema.specs.PartsBy.{parts_by}
use Rattle.tileset_schema.specs.declared.error.DocumentError.{DocumentError}
use Rattle.tileset_schema.proofs.Chains.{fails_first, fails_same}

pub record SaysNothingRare (values : Values) : Type 0 where
  pub request : values.viewer_request_volume ≡ None
  pub transform : values.transform ≡ None
  pub contents : values.contents ≡ None
  pub implicit : values.implicit_tiling ≡ None

pub nothing_rare : (values : Values) → IsTrue (are_common values) → SaysNothingRare values
nothing_rare values h = go values.viewer_request_volume values.transform values.contents
    values.implicit_tiling refl refl refl refl h
  where
    go : (a b c d : Option JsonValue) → values.viewer_request_volume ≡ a → values.transform ≡ b
        → values.contents ≡ c → values.implicit_tiling ≡ d
        → IsTrue (is_none a && is_none b && is_none c && is_none d) → SaysNothingRare values
    go None None None None e f g k h =
        record { request = e; transform = f; contents = g; implicit = k }
    go (Some v) b c d e f g k h = cc
    go None (Some v) c d e f g k h = cc
    go None None (Some v) d e f g k h = cc
    go None None None (Some v) e f g k h = cc

-- the addresses of the contents, where all before them is read
pub contents_read : (base : List ℕ) (tile : ℕ) (values : Values) (volume : Volume) (error : ℕ)
    (refine : Option Refine)
    → IsTrue (are_common values)
    → Ok volume ≡ bounding_volume tile values.bounding_volume
    → Ok error ≡ geometric_error tile values.geometric_error
    → own_refinement tile values.refine ≡ Ok refine
    → (own : List (List ℕ)) → addresses base tile values.content None ≡ Ok own
    → parts_of base tile values ≡ Ok (parts_by volume None error refine identity (explicit own))
contents_read base tile values volume error refine common v g f own h =
    let c = nothing_rare values common in
    rw (← v, c.request, ← g, f, c.transform, c.contents, c.implicit, h) refl

-- a cause of the contents, where all before them is read
pub contents_fail : (base : List ℕ) (tile : ℕ) (values : Values) (volume : Volume) (error : ℕ)
    (refine : Option Refine)
    → IsTrue (are_common values)
    → Ok volume ≡ bounding_volume tile values.bounding_volume
    → Ok error ≡ geometric_error tile values.geometric_error
    → own_refinement tile values.refine ≡ Ok refine
    → (e : DocumentError)
    → Fails e (addresses base tile values.content None)
    → Fails e (parts_of base tile values)
contents_fail base tile values volume error refine common v g f e h =
    let c = nothing_rare values common in
    let own = addresses base tile values.content None in
    fails_same e _ _ (sym (rw (← v, c.request, ← g, f, c.transform, c.contents, c.implicit) refl))
    (fails_first e (own >>= λ addresses. Ok (explicit addresses))
    (λ own. Ok (parts_by volume None error refine identity own))
    (fails_first e own (λ addresses. Ok (explicit addresses)) h))
