-- Addresses that are the same, and tests.
use Rattle.std.proofs.Common.{ℕ, ◌≡◌, Bool, true, false, not, ◌||◌, List, refl, sym, ap}
use Rattle.std.specs.Cmp.Lexicographic.{nat_list_eq_equiv, same_text as texts_agree}
use Rattle.tile_cache.specs.Residents.{same_text}

pub text_refl : (a : List ℕ) → same_text a a ≡ true
text_refl a = nat_list_eq_equiv.refl a

pub text_turned : (a b : List ℕ) → same_text a b ≡ same_text b a
text_turned a b = nat_list_eq_equiv.symm a b

pub text_is : (a b : List ℕ) → same_text a b ≡ true → a ≡ b
text_is a b e = texts_agree a b (sym e)

pub or_left : (a b : Bool) → a ≡ true → (a || b) ≡ true
or_left a b e = ap (λ x. x || b) e

pub or_right : (a b : Bool) → b ≡ true → (a || b) ≡ true
or_right true b e = refl
or_right false b e = e

pub not_true : (a : Bool) → not a ≡ true → a ≡ false
not_true true e = cc
not_true false e = refl
