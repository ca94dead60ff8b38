-- The levels of the subtrees that a document speaks of are within the limits.
use Rattle.std.proofs.Common.{ℕ, ◌+◌, ◌≡◌, ℤ, pos, negsuc, Bool, true, false, ◌&&◌, Option, Some, None, List, codes, refl, ◌∙◌, ap, subst}
use Rattle.std.specs.Prelude.{nat_le, if◌then◌else◌, Result, Ok, Err}
use Rattle.json_decimal.specs.JsonValue.{JsonValue, Pairs, Values, null, truth, number, words, list, object, no_pairs, pair, no_values, value, pairs_of, list_of, last_of}
use Rattle.json_decimal.specs.Parts.{members_of}
use Rattle.json_decimal.specs.WholeNumbers.{integer}
use Rattle.volumes.specs.declared.volume.Volume.{Volume}
use Rattle.tile_uri.specs.Addresses.{address_of}
use Rattle.tileset_schema.specs.declared.limits.TheConstants.{AVAILABLE_LEVELS}
use Rattle.tileset_schema.specs.declared.field.Field.{Field}
use Rattle.tileset_schema.specs.declared.field.Field.TheVariants.{ImplicitTiling, SubtreeLevels, AvailableLevels}
use Rattle.tileset_schema.specs.declared.error.DocumentError.{DocumentError}
use Rattle.tileset_schema.specs.declared.error.DocumentError.TheVariants.{Shape, ImplicitLimits, MissingField}
use Rattle.tileset_schema.specs.Causes.{Read, ◌>>=◌, or_cause, each}
use Rattle.tileset_schema.specs.Implicit.{ImplicitParts, Subdivision, scheme, subtree_limit, from_one, levels, template, subtree_uri, subdivision, box_only, with_contents, implicit_tiling}
use Rattle.tileset_schema.specs.Parts.{Members, WrittenParts, ContentParts, content_uris, explicit, implicit, implicit_contents, addresses, contents, bounding_volume, request_volume, geometric_error, own_refinement, own_transform, parts}
use Rattle.tileset_schema.specs.Tiles.{WrittenTile, WrittenTiles, written, no_tiles, more_tiles, tile_count, one_more, is_last, may_have, tile, children, listed, tiles}
use Rattle.tileset_schema.specs.Documents.{top, root, document}
use Rattle.subtree_binary.specs.Counts.{level_limit}
use Rattle.subtree_binary.specs.Found.{lost, here}
use Rattle.cut_core.proofs.Bools.{and_left}
use Rattle.doc_store.specs.Docs.{Docs, found_in, as_read, if_read, read_at, tileset_in, tileset_at, tileset_key}

abbrev pub IsWithin : ImplicitParts → Type 0
IsWithin part =
    ((nat_le 1 part.subtree_levels && nat_le part.subtree_levels (level_limit part.octree)) ≡ true)
    × (nat_le 1 part.available_levels ≡ true)

abbrev pub OfPart : Option ImplicitParts → Type 0
OfPart None = Unit {0}
OfPart (Some part) = IsWithin part

-- of each tile
abbrev mutual
  pub AreWithin : WrittenTile → Type 0
  AreWithin (written own below) = OfPart own.implicit × AllAreWithin below

  pub AllAreWithin : WrittenTiles → Type 0
  AllAreWithin no_tiles = Unit {0}
  AllAreWithin (more_tiles t ts) = AreWithin t × AllAreWithin ts

-- ---- steps

-- what is read has the property
abbrev OnRead : {A : Type 0} → (A → Type 0) → Read A → Type 0
OnRead {A = A} P read = (a : A) → read ≡ Ok a → P a

then_on : {A B : Type 0} (P : B → Type 0) (r : Read A) (f : A → Read B)
    → ((a : A) → r ≡ Ok a → OnRead P (f a)) → OnRead P (r >>= f)
then_on P (Ok a) f h b e = h a refl b e
then_on P (Err x) f h b e = cc

is_on : {A : Type 0} (P : A → Type 0) (x : A) → P x → OnRead P (Ok x)
is_on P x p a e = let is : x ≡ a = cc in subst P is p

there_on : {A : Type 0} (P : A → Type 0) (cause : DocumentError) (o : Option A)
    → ((a : A) → o ≡ Some a → P a) → OnRead P (or_cause cause o)
there_on P cause (Some x) h a e = is_on P x (h x refl) a e
there_on P cause None h a e = cc

-- ---- levels

from_one_within : (most : ℕ) (z : ℤ) (n : ℕ) → from_one most z ≡ Some n
    → (nat_le 1 n && nat_le n most) ≡ true
from_one_within most (pos k) n e =
    elim (nat_le 1 k && nat_le k most) as (λ b. (nat_le 1 k && nat_le k most) ≡ b
    → (if b then Some k else None) ≡ Some n → (nat_le 1 n && nat_le n most) ≡ true) [
      | true ↦ λ w h. let is : k ≡ n = cc in
          subst (λ m. (nat_le 1 m && nat_le m most) ≡ true) is w
      | false ↦ λ w h. cc
    ] refl e
from_one_within most (negsuc k) n e = cc

levels_within : (most : ℕ) (field : Field) (which : ℕ) (v : Option JsonValue)
    → OnRead (λ n. (nat_le 1 n && nat_le n most) ≡ true) (levels most field which v)
levels_within most field which v =
    let P : ℕ → Type 0 = λ n. (nat_le 1 n && nat_le n most) ≡ true in
    then_on P (or_cause (MissingField field which) v) _ (λ w e.
    then_on P (or_cause (Shape field which) (integer w)) _ (λ z g.
    there_on P (ImplicitLimits which) (from_one most z) (from_one_within most z)))

abbrev DividesWithin : Subdivision → Type 0
DividesWithin own =
    ((nat_le 1 own.subtree_levels && nat_le own.subtree_levels (subtree_limit own.octree)) ≡ true)
    × (nat_le 1 own.available_levels ≡ true)

subdivision_within : (which : ℕ) (v : JsonValue) → OnRead DividesWithin (subdivision which v)
subdivision_within which v =
    then_on DividesWithin (or_cause (Shape ImplicitTiling which) (members_of v)) _ (λ members e.
    then_on DividesWithin (scheme which (last_of (codes "subdivisionScheme") members)) _
    (λ octree e.
    then_on DividesWithin (levels (subtree_limit octree) SubtreeLevels which
    (last_of (codes "subtreeLevels") members)) _ (λ own within.
    then_on DividesWithin (levels AVAILABLE_LEVELS AvailableLevels which
    (last_of (codes "availableLevels") members)) _ (λ available some.
    then_on DividesWithin (subtree_uri which (last_of (codes "subtrees") members)) _ (λ uri e.
    then_on DividesWithin (template octree which uri) _ (λ subtrees e.
    is_on DividesWithin (record {
      octree = octree;
      subtree_levels = own;
      available_levels = available;
      subtrees = subtrees;
    }) (
      levels_within (subtree_limit octree) SubtreeLevels which
          (last_of (codes "subtreeLevels") members) own within,
      and_left (nat_le 1 available) _ (levels_within AVAILABLE_LEVELS AvailableLevels which
          (last_of (codes "availableLevels") members) available some),
    )))))))

same_limit : (octree : Bool) → subtree_limit octree ≡ level_limit octree
same_limit true = refl
same_limit false = refl

tiling_within : (which : ℕ) (volume : Volume) (uris : List (List ℕ)) (v : JsonValue)
    → OnRead IsWithin (implicit_tiling which volume uris v)
tiling_within which volume uris v =
    then_on IsWithin (subdivision which v) _ (λ own within.
    then_on IsWithin (each (template own.octree which) uris) _ (λ templates e.
    then_on IsWithin (box_only which volume) _ (λ u e.
    is_on IsWithin (with_contents own templates) (
      subst (λ limit. (nat_le 1 own.subtree_levels && nat_le own.subtree_levels limit) ≡ true)
          (same_limit own.octree) (subdivision_within which v own within).0,
      (subdivision_within which v own within).1,
    ))))

-- ---- tiles

abbrev OfContents : ContentParts → Type 0
OfContents own = OfPart own.implicit

contents_within : (base : List ℕ) (which : ℕ) (volume : Volume) (content several : Option JsonValue)
    (tiling : Option JsonValue)
    → OnRead OfContents (contents base which volume content several tiling)
contents_within base which volume content several None =
    then_on OfContents (addresses base which content several) _ (λ own e.
    is_on OfContents (explicit own) tt)
contents_within base which volume content several (Some v) =
    then_on OfContents (implicit_contents which volume content several v) _ (λ own within.
    is_on OfContents (implicit own)
    (then_on IsWithin (content_uris which content several) _ (λ uris e.
    tiling_within which volume uris v) own within))

abbrev OfParts : WrittenParts → Type 0
OfParts own = OfPart own.implicit

parts_within : (base : List ℕ) (which : ℕ) (members : Members)
    → OnRead OfParts (parts base which members)
unfolding parts
parts_within base which members =
    then_on OfParts (bounding_volume which (last_of (codes "boundingVolume") members)) _
    (λ volume e.
    then_on OfParts (request_volume which (last_of (codes "viewerRequestVolume") members)) _
    (λ request e.
    then_on OfParts (geometric_error which (last_of (codes "geometricError") members)) _ (λ error e.
    then_on OfParts (own_refinement which (last_of (codes "refine") members)) _ (λ refine e.
    then_on OfParts (own_transform which (last_of (codes "transform") members)) _ (λ transform e.
    then_on OfParts (contents base which volume (last_of (codes "content") members)
    (last_of (codes "contents") members) (last_of (codes "implicitTiling") members)) _
    (λ own within.
    is_on OfParts (record {
      volume = volume;
      request = request;
      error = error;
      refine = refine;
      transform = transform;
      contents = own.addresses;
      implicit = own.implicit;
    }) (contents_within base which volume (last_of (codes "content") members)
    (last_of (codes "contents") members) (last_of (codes "implicitTiling") members) own
    within)))))))

mutual
  tile_within : (base : List ℕ) (n : ℕ) (v : JsonValue) → OnRead AreWithin (tile base n v)
  tile_within base n (object members) =
      let tiling : Option JsonValue = last_of (codes "implicitTiling") (pairs_of members) in
      then_on AreWithin (one_more n) _ (λ u e.
      then_on AreWithin (parts base n (pairs_of members)) _ (λ own within.
      then_on AreWithin (children base n tiling members) _ (λ below e.
      is_on AreWithin (written own below) (
        parts_within base n (pairs_of members) own within,
        children_within base n tiling members below e,
      ))))
  tile_within base n (list items) = then_on AreWithin (one_more n) _ (λ u e t k. cc)
  tile_within base n (words text) = then_on AreWithin (one_more n) _ (λ u e t k. cc)
  tile_within base n (number text) = then_on AreWithin (one_more n) _ (λ u e t k. cc)
  tile_within base n (truth b) = then_on AreWithin (one_more n) _ (λ u e t k. cc)
  tile_within base n null = then_on AreWithin (one_more n) _ (λ u e t k. cc)

  children_within : (base : List ℕ) (n : ℕ) (tiling : Option JsonValue) (members : Pairs)
      → OnRead AllAreWithin (children base n tiling members)
  children_within base n tiling no_pairs = is_on AllAreWithin no_tiles tt
  children_within base n tiling (pair key v members) =
      elim (is_last (codes "children") key members) as (λ b. OnRead AllAreWithin
      (if b then listed base n tiling v else children base n tiling members)) [
        | true ↦ listed_within base n tiling v
        | false ↦ children_within base n tiling members
      ]

  listed_within : (base : List ℕ) (n : ℕ) (tiling : Option JsonValue) (v : JsonValue)
      → OnRead AllAreWithin (listed base n tiling v)
  listed_within base n tiling (list items) =
      then_on AllAreWithin (may_have n tiling (list_of items)) _ (λ u e.
      tiles_within base (n + 1) items)
  listed_within base n tiling (object members) = λ ts e. cc
  listed_within base n tiling (words text) = λ ts e. cc
  listed_within base n tiling (number text) = λ ts e. cc
  listed_within base n tiling (truth b) = λ ts e. cc
  listed_within base n tiling null = λ ts e. cc

  tiles_within : (base : List ℕ) (n : ℕ) (vs : Values) → OnRead AllAreWithin (tiles base n vs)
  tiles_within base n no_values = is_on AllAreWithin no_tiles tt
  tiles_within base n (value v vs) =
      then_on AllAreWithin (tile base n v) _ (λ t e.
      then_on AllAreWithin (tiles base (n + tile_count t) vs) _ (λ ts g.
      is_on AllAreWithin (more_tiles t ts)
      (tile_within base n v t e, tiles_within base (n + tile_count t) vs ts g)))

-- ---- documents

document_within : (bytes base : List ℕ) → OnRead AreWithin (document bytes base)
unfolding document
document_within bytes base =
    then_on AreWithin (top bytes >>= root) (tile base 0) (λ v e. tile_within base 0 v)

read_within : (address bytes : List ℕ) (t : WrittenTile) → tileset_in address bytes ≡ Some t
    → AreWithin t
unfolding tileset_in
read_within address bytes t e = by_address (address_of address) e where
  by_document : (r : Read WrittenTile) → OnRead AreWithin r → if_read r ≡ Some t → AreWithin t
  by_document (Ok tile) on h = on t (let is : tile ≡ t = cc in ap Ok is)
  by_document (Err x) on h = cc

  by_address : {E : Type 0} (r : Result (List ℕ) E) → read_at bytes r ≡ Some t → AreWithin t
  by_address (Ok base) h = by_document (document bytes base) (document_within bytes base) h
  by_address (Err x) h = cc

found_within : (address : List ℕ) (o : Option (List ℕ)) (t : WrittenTile)
    → found_in (tileset_in address) o ≡ here t → AreWithin t
found_within address None t e = cc
found_within address (Some bytes) t e = by_read (tileset_in address bytes) refl e where
  by_read : (r : Option WrittenTile) → tileset_in address bytes ≡ r → as_read r ≡ here t
      → AreWithin t
  by_read None k h = cc
  by_read (Some tile) k h =
      let is : tile ≡ t = cc in read_within address bytes t (k ∙ ap Some is)

-- what is loaded has levels within the limits
pub loaded_within : (docs : Docs) (address : List ℕ) (t : WrittenTile)
    → tileset_at docs address ≡ here t → AreWithin t
loaded_within docs address t e =
    elim (docs.gone (tileset_key address)) as (λ b.
    (if b then lost else found_in (tileset_in address) (docs.loaded (tileset_key address)))
    ≡ here t → AreWithin t) [
      | true ↦ λ h. cc
      | false ↦ λ h. found_within address (docs.loaded (tileset_key address)) t h
    ] e
