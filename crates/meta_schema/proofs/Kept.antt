-- What is so of all that is read.
use Rattle.std.proofs.Common.{◌≡◌, ℕ, suc, ℤ, ◌≤ℤ◌, ◌<◌, Bool, true, false, ◌&&◌, List, [], ◌∷◌, map, length, Option, Some, None, Ok, Err, IfOk, All, bytes_eq, refl, ap, sym, subst, ◌∙◌}
use Rattle.std.specs.Prelude.{int_le, codes, if◌then◌else◌}
use Rattle.std.specs.Int.Signed.{le_z_yes}
use Rattle.std.specs.List.{IsDistinct, position}
use Rattle.std.specs.Option.{option_and_then}
use Rattle.std.proofs.lemmas.Float.{T_from_true}
use Rattle.std.proofs.lemmas.List.{length-map}
use Rattle.std.proofs.lemmas.List.Elements.{All-nil, All-cons}
use Rattle.std.proofs.lemmas.List.Quantifiers.{position-Some}
use Rattle.json_decimal.specs.JsonValue.{JsonValue, last_of}
use Rattle.json_decimal.specs.Parts as parts
use Rattle.meta_schema.proofs.Effective.{names_apart}
use Rattle.meta_schema.specs.Causes.{Read, ◌>>=◌, each, or_cause}
use Rattle.meta_schema.specs.Classes.{class_of, property, property_kind, scalar_kind, numbers_of, enum_kind, enum_number, is_skipped}
use Rattle.meta_schema.specs.Components.{IsOfType, component_named, is_of_type, type_least, type_greatest}
use Rattle.meta_schema.specs.Enums.{enumeration, enum_value, enum_values, value_type, in_type, whole_at, whole_in}
use Rattle.meta_schema.specs.Kept.{HasEnum, IsClass, IsEnum, IsSchema}
use Rattle.meta_schema.specs.Members.{Members, effective_members, names, named_at, object_of, list_of, text_at}
use Rattle.meta_schema.specs.Reading.{enums_of}
use Rattle.meta_schema.specs.Schemas.{ClassParts, PropertyParts, EnumParts}
use Rattle.meta_schema.specs.declared.component_type.ComponentType.{ComponentType}
use Rattle.meta_schema.specs.declared.error.Field.{Field}
use Rattle.meta_schema.specs.declared.error.Field.TheVariants.{Enum, Value, Values, Class, Properties, Property, «Type», ComponentType as ComponentField}
use Rattle.meta_schema.specs.declared.error.SchemaError.{SchemaError}
use Rattle.meta_schema.specs.declared.error.SchemaError.TheVariants.{OutOfRange, UnknownEnum, Shape}
use Rattle.meta_schema.specs.declared.property.PropertyType.TheVariants as kind

-- ---- one step behind another

-- it is so of what is read
unfoldable Holds : {A : Type 0} → (A → Type 0) → Read A → Type 0
Holds P r = IfOk r P

ok_is : {A : Type 0} (P : A → Type 0) (x : A) → P x → Holds P (Ok x)
unfolding Holds
ok_is P x h = h

ok_then : {A B : Type 0} (P : B → Type 0) (r : Read A) (f : A → Read B)
    → ((x : A) → Holds P (f x)) → Holds P (r >>= f)
unfolding Holds
ok_then P (Ok x) f h = h x
ok_then P (Err e) f h = tt

ok_with : {A B : Type 0} (Q : A → Type 0) (P : B → Type 0) (r : Read A) (f : A → Read B)
    → Holds Q r → ((x : A) → Q x → Holds P (f x)) → Holds P (r >>= f)
unfolding Holds
ok_with Q P (Ok x) f q h = h x q
ok_with Q P (Err e) f q h = tt

ok_cause : {A : Type 0} (P : A → Type 0) (e : SchemaError) (found : Option A)
    → ((x : A) → found ≡ Some x → P x) → Holds P (or_cause e found)
unfolding Holds
ok_cause P e None h = tt
ok_cause P e (Some x) h = h x refl

ok_if : {A : Type 0} (P : A → Type 0) (b : Bool) (r s : Read A) → Holds P r → Holds P s
    → Holds P (if b then r else s)
ok_if P true r s h k = h
ok_if P false r s h k = k

all_then : {B : Type 0} (P : B → Type 0) (r : Read B) (s : Read (List B)) → Holds P r
    → Holds (All P) s → Holds (All P) (r >>= λ y. s >>= λ ys. Ok (y ∷ ys))
unfolding Holds
all_then P (Err e) s p ps = tt
all_then P (Ok y) (Err e) p ps = tt
all_then P (Ok y) (Ok ys) p ps = All-cons P y ys p ps

each_all : {A B : Type 0} (P : B → Type 0) (f : A → Read B) → ((x : A) → Holds P (f x))
    → (xs : List A) → Holds (All P) (each f xs)
each_all P f h [] = ok_is (All P) [] (All-nil P)
each_all P f h (x ∷ xs) = all_then P (f x) (each f xs) (h x) (each_all P f h xs)

same_then : {B K : Type 0} (g : B → K) (k : K) (ks : List K) (r : Read B) (s : Read (List B))
    → Holds (λ y. g y ≡ k) r → Holds (λ ys. map g ys ≡ ks) s
    → Holds (λ ys. map g ys ≡ k ∷ ks) (r >>= λ y. s >>= λ ys. Ok (y ∷ ys))
unfolding Holds
same_then g k ks (Err e) s p ps = tt
same_then g k ks (Ok y) (Err e) p ps = tt
same_then g k ks (Ok y) (Ok ys) p ps = rw (p, ps) refl

-- each has the name of its member
each_same : {A B K : Type 0} (f : A → Read B) (g : B → K) (h : A → K)
    → ((x : A) → Holds (λ y. g y ≡ h x) (f x)) → (xs : List A)
    → Holds (λ ys. map g ys ≡ map h xs) (each f xs)
each_same f g h same [] = ok_is _ [] refl
each_same f g h same (x ∷ xs) =
    same_then g (h x) (map h xs) (f x) (each f xs) (same x) (each_same f g h same xs)

many_then : {B : Type 0} (n : ℕ) (r : Read B) (s : Read (List B)) → Holds (λ ys. length ys ≡ n) s
    → Holds (λ ys. length ys ≡ suc n) (r >>= λ y. s >>= λ ys. Ok (y ∷ ys))
unfolding Holds
many_then n (Err e) s h = tt
many_then n (Ok y) (Err e) h = tt
many_then n (Ok y) (Ok ys) h = ap suc h

each_many : {A B : Type 0} (f : A → Read B) (xs : List A)
    → Holds (λ ys. length ys ≡ length xs) (each f xs)
each_many f [] = ok_is _ [] refl
each_many f (x ∷ xs) = many_then (length xs) (f x) (each f xs) (each_many f xs)

is_ok : {A : Type 0} (P : A → Type 0) (r : Read A) (x : A) → r ≡ Ok x → Holds P r → P x
unfolding Holds
is_ok {A = A} P r x e h = let Q : Read A → Type 0 = λ r. IfOk r P in subst Q e h

-- ---- enums

bounded : (l n g : ℤ) (a b : Bool) → int_le l n ≡ a → int_le n g ≡ b → (a && b) ≡ true
    → (l ≤ℤ n) × (n ≤ℤ g)
bounded l n g true true h k e =
    (le_z_yes (T_from_true (int_le l n) h), le_z_yes (T_from_true (int_le n g) k))
bounded l n g true false h k e = cc
bounded l n g false b h k e = cc

of_type : (component : ComponentType) (n : ℤ) → is_of_type component n ≡ true
    → IsOfType component n
of_type component n =
    bounded (type_least component) n (type_greatest component)
    (int_le (type_least component) n) (int_le n (type_greatest component)) refl refl

in_range : (component : ComponentType) (n : ℤ) → Holds (IsOfType component) (in_type component n)
unfolding Holds
in_range component n =
    elim (is_of_type component n) as (λ b. is_of_type component n ≡ b
    → IfOk (if b then Ok n else Err OutOfRange) (IsOfType component)) [
      | true ↦ of_type component n
      | false ↦ λ h. tt
    ] refl

value_in_range : (component : ComponentType) (v : JsonValue)
    → Holds (λ y. IsOfType component y.value) (enum_value component v)
value_in_range component v =
    ok_then _ (object_of Value v) _ (λ own.
    ok_then _ (text_at Value (last_of (codes "name") own)) _ (λ name.
    ok_with (IsOfType component) _ (whole_in component (last_of (codes "value") own)) _
    (ok_then _ (whole_at (last_of (codes "value") own)) (in_type component) (in_range component))
    (λ n within. ok_is _ _ within)))

enum_kept : (v : JsonValue) → Holds IsEnum (enumeration v)
enum_kept v =
    ok_then _ (object_of Enum v) _ (λ own.
    ok_then _ (value_type (last_of (codes "valueType") own)) _ (λ component.
    ok_with (All (λ y. IsOfType component y.value)) _
    (enum_values component (last_of (codes "values") own)) _
    (ok_then _ (or_cause (Shape Values) (last_of (codes "values") own) >>= list_of Values)
    (each (enum_value component)) (each_all _ _ (value_in_range component)))
    (λ values all. ok_is _ _ all)))

-- ---- classes

module _ (enums : List (List ℕ)) where
  named_number : (text : Option (List ℕ)) (number : ℕ)
      → option_and_then (λ name. position (bytes_eq name) enums) text ≡ Some number
      → number < length enums
  named_number None number h = cc
  named_number (Some name) number h = (position-Some (bytes_eq name) enums number [] h).0

  has_number : (value : Option JsonValue) (number : ℕ)
      → option_and_then (enum_number enums) value ≡ Some number → number < length enums
  has_number None number h = cc
  has_number (Some v) number h = named_number (parts.text_of v) number h

  numbers_kept : (component : Option ComponentType)
      → HasEnum (length enums) (numbers_of component)
  numbers_kept None = tt
  numbers_kept (Some component) = tt

  enum_kind_kept : (own : Members) → Holds (HasEnum (length enums)) (enum_kind enums own)
  enum_kind_kept own =
      let found = option_and_then (enum_number enums) (last_of (codes "enumType") own) in
      ok_with (λ number. number < length enums) _ (or_cause UnknownEnum found) _
      (ok_cause _ UnknownEnum found (has_number (last_of (codes "enumType") own)))
      (λ number within. ok_is _ _ within)

  scalar_kind_kept : (own : Members) → Holds (HasEnum (length enums)) (scalar_kind own)
  scalar_kind_kept own =
      ok_then _ (text_at ComponentField (last_of (codes "componentType") own)) _
      (λ component. ok_is _ _ (numbers_kept (component_named component)))

  kind_kept : (own : Members) → Holds (HasEnum (length enums)) (property_kind enums own)
  kind_kept own =
      ok_then _ (text_at «Type» (last_of (codes "type") own)) _ (λ name.
      ok_if _ (is_skipped own) _ _ (ok_is _ kind.Skipped tt)
      (ok_if _ (bytes_eq name (codes "SCALAR")) _ _ (scalar_kind_kept own)
      (ok_if _ (bytes_eq name (codes "BOOLEAN")) _ _ (ok_is _ kind.Boolean tt)
      (ok_if _ (bytes_eq name (codes "STRING")) _ _ (ok_is _ kind.Words tt)
      (ok_if _ (bytes_eq name (codes "ENUM")) _ _ (enum_kind_kept own)
      (ok_is _ kind.Skipped tt))))))

  property_kept : (member : List ℕ × JsonValue)
      → Holds (λ p. HasEnum (length enums) p.kind) (property enums member)
  property_kept member =
      ok_with (HasEnum (length enums)) _ (object_of Property member.1 >>= property_kind enums) _
      (ok_then _ (object_of Property member.1) (property_kind enums) kind_kept)
      (λ own_kind has. ok_is _ _ has)

  property_name : (member : List ℕ × JsonValue)
      → Holds (λ p. p.name ≡ member.0) (property enums member)
  property_name member =
      ok_then _ (object_of Property member.1 >>= property_kind enums) _
      (λ own_kind. ok_is _ _ refl)

  class_name : (member : List ℕ × JsonValue)
      → Holds (λ k. k.name ≡ member.0) (class_of enums member)
  class_name member =
      ok_then _ (object_of Class member.1) _ (λ own.
      ok_then _
      (named_at Properties (last_of (codes "properties") own) >>= each (property enums)) _
      (λ properties. ok_is _ _ refl))

-- ---- names of their own

abbrev AreApart : Members → Type 0
AreApart members = IsDistinct bytes_eq (names members)

none_apart : AreApart []
unfolding IsDistinct
none_apart = tt

named_apart : (field : Field) (value : Option JsonValue) → Holds AreApart (named_at field value)
named_apart field None = ok_is AreApart [] none_apart
named_apart field (Some v) =
    ok_then AreApart (object_of field v) _
    (λ members. ok_is AreApart (effective_members members) (names_apart members))

abbrev AreKept : ℕ → List PropertyParts → Type 0
AreKept enums ps =
    All (λ p. HasEnum enums p.kind) ps × IsDistinct bytes_eq (map (λ p. p.name) ps)

kept_then : (enums : ℕ) (ns : List (List ℕ)) (r : Read (List PropertyParts))
    → Holds (All (λ p. HasEnum enums p.kind)) r → Holds (λ ps. map (λ p. p.name) ps ≡ ns) r
    → IsDistinct bytes_eq ns → Holds (AreKept enums) r
unfolding Holds
kept_then enums ns (Err e) known same apart = tt
kept_then enums ns (Ok ps) known same apart =
    (known, subst (IsDistinct bytes_eq) (sym same) apart)

class_kept : (enums : List (List ℕ)) (member : List ℕ × JsonValue)
    → Holds (IsClass (length enums)) (class_of enums member)
class_kept enums member =
    ok_then _ (object_of Class member.1) _ (λ own.
    let value = last_of (codes "properties") own in
    ok_with (AreKept (length enums)) _ (named_at Properties value >>= each (property enums)) _
    (ok_with AreApart _ (named_at Properties value) (each (property enums))
    (named_apart Properties value)
    (λ members apart. kept_then (length enums) (names members) (each (property enums) members)
    (each_all _ (property enums) (property_kept enums) members)
    (each_same (property enums) (λ p. p.name) (λ m. m.0) (property_name enums) members)
    apart))
    (λ properties kept. ok_is _ _ (record { known = kept.0; apart = kept.1 })))

-- ---- the whole

abbrev enumerated : List ℕ × JsonValue → Read EnumParts
enumerated m = enumeration m.1

-- what the steps of a schema gave
pub schema_kept : (field : Field) (value : Option JsonValue) (members named : Members)
    (enums : List EnumParts) (classes : List ClassParts)
    → enums_of members ≡ Ok enums → named_at field value ≡ Ok named
    → each (class_of (names members)) named ≡ Ok classes
    → IsSchema (record { enums = enums; classes = classes })
schema_kept field value members named enums classes e n k =
    let many : length (names members) ≡ length enums =
    length-map members (λ m. m.0)
    ∙ sym (is_ok (λ ys. length ys ≡ length members) (enums_of members) enums e
    (each_many enumerated members)) in
    let ns = names members in
    let own : map (λ c. c.name) classes ≡ names named =
    is_ok (λ cs. map (λ c. c.name) cs ≡ names named) (each (class_of ns) named) classes k
    (each_same (class_of ns) (λ c. c.name) (λ m. m.0) (class_name ns) named) in
    record {
      enums =
          is_ok (All IsEnum) (enums_of members) enums e
          (each_all IsEnum enumerated (λ m. enum_kept m.1) members);
      classes =
          subst (λ count. All (IsClass count) classes) many
          (is_ok (All (IsClass (length ns))) (each (class_of ns) named) classes k
          (each_all _ (class_of ns) (class_kept ns) named));
      apart =
          subst (IsDistinct bytes_eq) (sym own)
          (is_ok AreApart (named_at field value) named n (named_apart field value));
    }
