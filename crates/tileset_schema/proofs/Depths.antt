-- How deep the children of a tile nest.
use Rattle.std.proofs.Common.{◌≡◌, ℕ, ◌+◌, ◌*◌, ◌<◌, ◌≤◌, max, codes, Ok, Err, List, [], ◌∷◌, Option, Some, None, true, false, Bool, cond, bytes_eq, arith, ap, ◌∙◌, sym, refl}
use Rattle.std.proofs.Math.Nat.{le-max_left, le-max_right}
use Rattle.json_decimal.specs.JsonValue.{JsonValue, values, pairs, depth, values_depth, pairs_depth, last_of, later}
use Rattle.json_decimal.specs.Parts.{items_of, members_of, split_first}
use Rattle.json_decimal.proofs.Built.{items_depth, members_depth}
use Rattle.json_decimal.proofs.Parted.{split_some}
use Rattle.tileset_schema.specs.Added.{children_in, child_list}
use Rattle.tileset_schema.specs.Causes.{Read, ◌>>=◌, or_cause, or_default}
use Rattle.tileset_schema.specs.Parts.{Members}
use Rattle.tileset_schema.specs.Tiles.{may_have}
use Rattle.tileset_schema.specs.declared.error.DocumentError.TheVariants.{Shape}
use Rattle.tileset_schema.specs.declared.field.Field.TheVariants.{Children}

last_depth : (name : List ℕ) (ms : Members) (v : JsonValue) → last_of name ms ≡ Some v
    → depth v ≤ pairs_depth (pairs ms)
last_depth name [] v e = cc
last_depth name (p ∷ ms) v e = go (λ h. last_depth name ms v h) (last_of name ms)
    (bytes_eq p.0 name) refl e
  where
    go : (last_of name ms ≡ Some v → depth v ≤ pairs_depth (pairs ms))
        → (o : Option JsonValue) (b : Bool) → last_of name ms ≡ o
        → later o (cond b (Some p.1) None) ≡ Some v
        → depth v ≤ max (depth p.1) (pairs_depth (pairs ms))
    go below (Some u) b k h = omega
        (arith, below (k ∙ h), le-max_right (depth p.1) (pairs_depth (pairs ms)))
    go below None true k h =
        let same : p.1 ≡ v = cc in
        omega (arith, ap depth same, le-max_left (depth p.1) (pairs_depth (pairs ms)))
    go below None false k h = cc

list_depth : (n : ℕ) (tiling : Option JsonValue) (v : JsonValue) (vs : List JsonValue)
    → Ok vs ≡ child_list n tiling v → values_depth (values vs) < depth v
list_depth n tiling v vs h = go (items_of v) refl h
  where
    at : (us : List JsonValue) → items_of v ≡ Some us
        → (r : Read (Unit {0})) → Ok vs ≡ (r >>= λ u. Ok us)
        → values_depth (values vs) < depth v
    at us k (Ok u) h = let same : vs ≡ us = cc in items_depth vs v (ap Some same ∙ sym k)
    at us k (Err e) h = cc

    go : (o : Option (List JsonValue)) → items_of v ≡ o
        → Ok vs ≡ (or_cause (Shape Children n) o >>= λ us. may_have n tiling us >>= λ u. Ok us)
        → values_depth (values vs) < depth v
    go None k h = cc
    go (Some us) k h = at us k (may_have n tiling us) h

pub children_smaller : (v : JsonValue) (ms : Members) (n : ℕ) (vs : List JsonValue)
    → Some ms ≡ members_of v
    → Ok vs ≡ children_in n ms
    → 2 * values_depth (values vs) + 1 < 2 * depth v
children_smaller v ms n vs members h = go (last_of (codes "children") ms) refl h
  where
    go : (o : Option JsonValue) → last_of (codes "children") ms ≡ o
        → Ok vs ≡ or_default [] (child_list n (last_of (codes "implicitTiling") ms)) o
        → 2 * values_depth (values vs) + 1 < 2 * depth v
    go None k h =
        let same : vs ≡ [] = cc in
        omega (arith, ap (λ us. values_depth (values us)) same, members_depth ms v members)
    go (Some w) k h = omega (
      arith,
      list_depth n (last_of (codes "implicitTiling") ms) w vs h,
      last_depth (codes "children") ms w k,
      members_depth ms v
          members,
    )

-- the next value, and those that are left then, are no deeper than all that were left
pub next_depth : (rest left : List JsonValue) (v : JsonValue) → Some (v, left) ≡ split_first rest
    → depth v ≤ values_depth (values rest)
next_depth rest left v h = omega (
  arith,
  ap (λ us. values_depth (values us)) (split_some rest left v h),
  le-max_left (depth v)
      (values_depth (values left)),
)

pub left_depth : (rest left : List JsonValue) (v : JsonValue) → Some (v, left) ≡ split_first rest
    → values_depth (values left) ≤ values_depth (values rest)
left_depth rest left v h = omega (
  arith,
  ap (λ us. values_depth (values us)) (split_some rest left v h),
  le-max_right (depth v)
      (values_depth (values left)),
)
