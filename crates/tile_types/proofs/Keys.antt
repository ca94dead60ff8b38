-- Which keys are the same.
use Rattle.std.proofs.Common.{ℕ, ◌≡◌, ◌==◌, Bool, true, false, ◌&&◌, List, refl, sym, ◌∙◌, ap, eqb-true, eq-eqb}
use Rattle.std.specs.Bool.{beq}
use Rattle.std.specs.Cmp.Lexicographic.{pointwise, nat_list_eq_equiv, same_text as texts_agree}
use Rattle.tile_types.specs.declared.key.Key.{Key}
use Rattle.tile_types.specs.declared.key.Kind.{Kind}
use Rattle.tile_types.specs.declared.key.Kind.TheVariants.{Content, Tileset, Subtree}
use Rattle.tile_types.specs.contracts.key.KeyPartialEq.TheImpl.{eq-value}
use Rattle.tile_types.specs.Keys.{same_kind, same_key}

and_left : (a b : Bool) → (a && b) ≡ true → a ≡ true
and_left true b e = refl
and_left false b e = cc

and_right : (a b : Bool) → (a && b) ≡ true → b ≡ true
and_right true b e = e
and_right false b e = cc

abbrev key_with : Kind → List ℕ → Key
key_with kind address = record { kind = kind; address = address }

by_kinds : (a b : Kind) (x y : List ℕ)
    → eq-value.it (key_with a x) (key_with b y) ≡ same_key (key_with a x) (key_with b y)
by_kinds Content Content x y = refl
by_kinds Content Tileset x y = refl
by_kinds Content (Subtree o l c) x y = refl
by_kinds Tileset Content x y = refl
by_kinds Tileset Tileset x y = refl
by_kinds Tileset (Subtree o l c) x y = refl
by_kinds (Subtree o l c) Content x y = refl
by_kinds (Subtree o l c) Tileset x y = refl
by_kinds (Subtree o l c) (Subtree o' l' c') x y = refl

-- `==` of keys is what the definitions call the same
pub key_eq : (a b : Key) → eq-value.it a b ≡ same_key a b
key_eq a b = by_kinds a.kind b.kind a.address b.address

and_both : (a b : Bool) → a ≡ true → b ≡ true → (a && b) ≡ true
and_both a b p q = ap (λ x. x && b) p ∙ q

beq_is : (a b : Bool) → beq a b ≡ true → a ≡ b
beq_is true true e = refl
beq_is true false e = cc
beq_is false true e = cc
beq_is false false e = refl

beq_refl : (a : Bool) → beq a a ≡ true
beq_refl true = refl
beq_refl false = refl

kind_is : (a b : Kind) → same_kind a b ≡ true → a ≡ b
kind_is Content Content e = refl
kind_is Content Tileset e = cc
kind_is Content (Subtree o l c) e = cc
kind_is Tileset Content e = cc
kind_is Tileset Tileset e = refl
kind_is Tileset (Subtree o l c) e = cc
kind_is (Subtree o l c) Content e = cc
kind_is (Subtree o l c) Tileset e = cc
kind_is (Subtree o l c) (Subtree o' l' c') e =
    let rest : ((l == l') && (c == c')) ≡ true = and_right (beq o o') _ e in
    ap (λ x. Subtree x l c) (beq_is o o' (and_left _ _ e))
    ∙ ap (λ x. Subtree o' x c) (eqb-true l l' (and_left _ _ rest))
    ∙ ap (λ x. Subtree o' l' x) (eqb-true c c' (and_right (l == l') _ rest))

kind_refl : (a : Kind) → same_kind a a ≡ true
kind_refl Content = refl
kind_refl Tileset = refl
kind_refl (Subtree o l c) =
    and_both (beq o o) _ (beq_refl o) (and_both (l == l) _ (eq-eqb l l refl) (eq-eqb c c refl))

-- keys that are the same are equal, and each is the same as itself
pub key_is : (a b : Key) → same_key a b ≡ true → a ≡ b
key_is a b e =
    ap (λ k. key_with k a.address) (kind_is a.kind b.kind (and_left _ _ e))
    ∙ ap (key_with b.kind) (texts_agree a.address b.address
    (sym (and_right (same_kind a.kind b.kind) _ e)))

pub key_refl : (a : Key) → same_key a a ≡ true
key_refl a = and_both (same_kind a.kind a.kind) _ (kind_refl a.kind)
    (nat_list_eq_equiv.refl a.address)

pub key_turned : (a b : Key) → same_key a b ≡ false → same_key b a ≡ false
key_turned a b e = elim (same_key b a) as (λ r. same_key b a ≡ r → r ≡ false) [
  | true ↦ λ h. let same : same_key a b ≡ true = ap (same_key a) (key_is b a h) ∙ key_refl a in cc
  | false ↦ λ h. refl
] refl
