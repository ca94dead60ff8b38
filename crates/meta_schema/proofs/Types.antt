-- What is past every type of whole numbers.
use Rattle.std.proofs.Common.{◌≡◌, ℕ, suc, ℤ, pos, negsuc, ◌^◌, ◌-◌, ◌<◌, ◌≤◌, min, Bool, true, false, ◌&&◌, Option, Some, None, Ok, Err, option_map, refl, ap, sym, ◌∙◌, ⊎_elim, arith}
use Rattle.std.specs.Prelude.{if◌then◌else◌, neg_ℤ}
use Rattle.std.proofs.Math.Dec.{leb}
use Rattle.std.proofs.lemmas.Bool.{cases_lt}
use Rattle.std.proofs.lemmas.Bool.Decides.{nat_tests}
use Rattle.std.specs.Option.{option_and_then}
use Rattle.json_decimal.specs.JsonValue.{JsonValue}
use Rattle.json_decimal.specs.WholeNumbers.{clamped, integer}
use Rattle.meta_schema.specs.Causes.{◌>>=◌, or_cause}
use Rattle.meta_schema.specs.Components.{is_of_type}
use Rattle.meta_schema.specs.Enums.{in_type, whole_at, whole_in}
use Rattle.meta_schema.specs.declared.component_type.ComponentType.{ComponentType}
use Rattle.meta_schema.specs.declared.component_type.ComponentType.TheVariants.{Int8, Uint8, Int16, Uint16, Int32, Uint32, Int64, Uint64}
use Rattle.meta_schema.specs.declared.error.Field.TheVariants.{Value}
use Rattle.meta_schema.specs.declared.error.SchemaError.TheVariants.{OutOfRange, Shape}

past : (k n : ℕ) → k < n → leb n k ≡ false
past k n h = grind (arith, nat_tests)

no_left : (a b : Bool) → a ≡ false → (a && b) ≡ false
no_left true b h = cc
no_left false b h = refl

no_right : (a b : Bool) → b ≡ false → (a && b) ≡ false
no_right true b h = h
no_right false b h = refl

-- no type has so great a value, and none so small a one
above_all : (component : ComponentType) (n : ℕ) → 2 ^ 64 ≤ n
    → is_of_type component (pos n) ≡ false
above_all Int8 n h = past (2 ^ 7 - 1) n (omega arith)
above_all Uint8 n h = no_right _ _ (past (2 ^ 8 - 1) n (omega arith))
above_all Int16 n h = past (2 ^ 15 - 1) n (omega arith)
above_all Uint16 n h = no_right _ _ (past (2 ^ 16 - 1) n (omega arith))
above_all Int32 n h = past (2 ^ 31 - 1) n (omega arith)
above_all Uint32 n h = no_right _ _ (past (2 ^ 32 - 1) n (omega arith))
above_all Int64 n h = past (2 ^ 63 - 1) n (omega arith)
above_all Uint64 n h = no_right _ _ (past (2 ^ 64 - 1) n (omega arith))

below_all : (component : ComponentType) (n : ℕ) → 2 ^ 64 ≤ n
    → is_of_type component (negsuc n) ≡ false
below_all Int8 n h = no_left _ _ (past (2 ^ 7 - 1) n (omega arith))
below_all Uint8 n h = refl
below_all Int16 n h = no_left _ _ (past (2 ^ 15 - 1) n (omega arith))
below_all Uint16 n h = refl
below_all Int32 n h = no_left _ _ (past (2 ^ 31 - 1) n (omega arith))
below_all Uint32 n h = refl
below_all Int64 n h = no_left _ _ (past (2 ^ 63 - 1) n (omega arith))
below_all Uint64 n h = refl

both_outside : (component : ComponentType) (m n : ℤ) → is_of_type component m ≡ false
    → is_of_type component n ≡ false → in_type component m ≡ in_type component n
both_outside component m n h k =
    ap (λ b. if b then Ok m else Err OutOfRange) h
    ∙ sym (ap (λ b. if b then Ok n else Err OutOfRange) k)

-- what is clamped is in a type exactly where it is itself
clamped_in_type : (component : ComponentType) (n : ℤ)
    → in_type component (clamped n) ≡ in_type component n
clamped_in_type component (pos n) =
    ⊎_elim
    (λ (h : n < 2 ^ 127). let same : min n (2 ^ 127 - 1) ≡ n = omega arith in
    ap (λ k. in_type component (pos k)) same)
    (λ (h : 2 ^ 127 ≤ n).
    both_outside component (pos (min n (2 ^ 127 - 1))) (pos n)
    (above_all component (min n (2 ^ 127 - 1)) (omega arith))
    (above_all component n (omega arith)))
    (cases_lt n (2 ^ 127))
clamped_in_type component (negsuc n) =
    ⊎_elim
    (λ (h : suc n < 2 ^ 127). let same : min (suc n) (2 ^ 127 - 1) ≡ suc n = omega arith in
    ap (λ k. in_type component (neg_ℤ (pos k))) same)
    (λ (h : 2 ^ 127 ≤ suc n). let most : min (suc n) (2 ^ 127 - 1) ≡ 2 ^ 127 - 1 = omega arith in
    ap (λ k. in_type component (neg_ℤ (pos k))) most
    ∙ both_outside component (negsuc (2 ^ 127 - 2)) (negsuc n)
    (below_all component (2 ^ 127 - 2) (omega arith)) (below_all component n (omega arith)))
    (cases_lt (suc n) (2 ^ 127))

as_found : (value : Option JsonValue)
    → whole_at value ≡ or_cause (Shape Value) (option_and_then integer value)
as_found None = refl
as_found (Some v) = refl

clamped_or : (component : ComponentType) (found : Option ℤ)
    → (or_cause (Shape Value) (option_map clamped found) >>= in_type component)
    ≡ (or_cause (Shape Value) found >>= in_type component)
clamped_or component None = refl
clamped_or component (Some n) = clamped_in_type component n

-- so the clamped value tells
pub told_in_type : (component : ComponentType) (value : Option JsonValue) (told : Option ℤ)
    → told ≡ option_map clamped (option_and_then integer value)
    → (or_cause (Shape Value) told >>= in_type component) ≡ whole_in component value
told_in_type component value told h =
    ap (λ o. or_cause (Shape Value) o >>= in_type component) h
    ∙ clamped_or component (option_and_then integer value)
    ∙ ap (λ r. r >>= in_type component) (sym (as_found value))
