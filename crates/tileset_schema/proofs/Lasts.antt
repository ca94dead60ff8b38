-- The last member of a name, one member after another.
use Rattle.std.proofs.Common.{◌≡◌, ℕ, List, Bool, true, false, Option, Some, None, if◌then◌else◌, bytes_eq, refl, ap, sym, ◌∙◌}
use Rattle.json_decimal.specs.JsonValue.{JsonValue, later, last_of}
use Rattle.json_decimal.specs.Parts.{split_first}
use Rattle.json_decimal.proofs.Parted.{split_some}
use Rattle.tileset_schema.specs.Added.{child_values, children_in}
use Rattle.tileset_schema.specs.Named.{Values, no_values, last_values, with_last, with_member, with_members}
use Rattle.tileset_schema.specs.ByValues.{parts_of}
use Rattle.tileset_schema.specs.Parts.{Members, parts}
use Rattle.tileset_schema.specs.Parts as parts_at

-- the first of those that are left is taken
pub one_last : (name : List ℕ) (value : Option JsonValue) (rest left : Members)
    (m : List ℕ × JsonValue) → Some (m, left) ≡ split_first rest
    → later (last_of name left) (with_last name value m) ≡ later (last_of name rest) value
one_last name value rest left m first =
    go (last_of name left) (bytes_eq m.0 name)
    ∙ ap (λ ms. later (last_of name ms) value) (sym (split_some rest left m first))
  where
    go : (o : Option JsonValue) (b : Bool)
        → later o (if b then Some m.1 else value)
        ≡ later (later o (if b then Some m.1 else None)) value
    go (Some v) b = refl
    go None true = refl
    go None false = refl

pub one_member : (values : Values) (rest left : Members) (m : List ℕ × JsonValue)
    → Some (m, left) ≡ split_first rest
    → with_members (with_member values m) left ≡ with_members values rest
one_member values rest left m first =
    rw (
      one_last _ values.bounding_volume rest left m first,
      one_last _ values.viewer_request_volume rest left m first,
      one_last _ values.geometric_error rest left m first,
      one_last _ values.refine rest left m first,
      one_last _ values.transform rest left m first,
      one_last _ values.content rest left m first,
      one_last _ values.contents rest left m first,
      one_last _ values.implicit_tiling rest left m first,
      one_last _ values.children rest left m first,
    ) refl

none_before : (o : Option JsonValue) → later o None ≡ o
none_before None = refl
none_before (Some v) = refl

-- where nothing was taken before
pub fresh : (ms : Members) → with_members no_values ms ≡ last_values ms
fresh ms = simp none_before refl

-- what a tile says, by the values of its members
pub parts_are : (base : List ℕ) (tile : ℕ) (ms : Members) (none own : Values) → none ≡ no_values
    → own ≡ with_members none ms
    → parts_of base tile own ≡ parts base tile ms
unfolding parts_at.parts
parts_are base tile ms none own e h = ap (parts_of base tile)
    (h ∙ ap (λ values. with_members values ms) e ∙ fresh ms)

-- the values of its children
pub children_are : (tile : ℕ) (ms : Members) (none own : Values) → none ≡ no_values
    → own ≡ with_members none ms
    → child_values tile own.implicit_tiling own.children ≡ children_in tile ms
children_are tile ms none own e h =
    ap (λ (values : Values). child_values tile values.implicit_tiling values.children)
    (h ∙ ap (λ values. with_members values ms) e ∙ fresh ms)
