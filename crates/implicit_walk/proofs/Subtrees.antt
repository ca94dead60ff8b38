-- Which subtree a tile is in.
use Rattle.std.proofs.Common.{◌≡◌, ℕ, zero, suc, ◌+◌, ◌-◌, ◌*◌, ◌/◌, ◌%◌, ◌<◌, ◌∙◌}
use Rattle.std.proofs.Common.{refl, arith, ap, sym, option_map}
use Rattle.std.proofs.Math.Nat.{mod-zero}
use Rattle.std.proofs.lemmas.Nat.{shr-shr, div-add-mod', mod_below, mod-mul-add}
use Rattle.tileset_schema.specs.Implicit.{ImplicitParts}
use Rattle.implicit_walk.specs.Places.{above, local_level, subtree_root}
use Rattle.implicit_walk.specs.Roots.{RootParts, address_at, key_of_subtree, subtree_key}
use Rattle.implicit_walk.specs.declared.place.Place.{Place}

pub same_place : {l x y z l' x' y' z' : ℕ} → l ≡ l' → x ≡ x' → y ≡ y' → z ≡ z'
    → (let p : Place = record { level = l; x = x; y = y; z = z } in p)
    ≡ record { level = l'; x = x'; y = y'; z = z' }
same_place a b c d = λ i. record { level = a i; x = b i; y = c i; z = d i }

-- the place above the one above
pub above_above : (i j : ℕ) (at : Place) → above i (above j at) ≡ above (j + i) at
above_above i j at =
    same_place (lower at.level i j) (shr-shr at.x j i) (shr-shr at.y j i) (shr-shr at.z j i) where
      lower : (n i j : ℕ) → n - j - i ≡ n - (j + i)
      lower n i j = omega arith

one_less : (n m : ℕ) → 0 < n % m → (n - 1) % m ≡ n % m - 1
one_less n zero g = rw (mod-zero (n - 1), mod-zero n) refl
one_less n (suc m) g =
    let within : n % suc m < suc m = mod_below n (suc m) (omega arith) in
    let split : n - 1 ≡ n / suc m * suc m + (n % suc m - 1) =
    parts n (n / suc m * suc m) (n % suc m) (div-add-mod' n (suc m)) g in
    rw split (mod-mul-add (n / suc m) (suc m) (n % suc m - 1) (omega arith)) where
      parts : (n a b : ℕ) → a + b ≡ n → 0 < b → n - 1 ≡ a + (b - 1)
      parts n a b e h = omega arith

-- unless a subtree begins with a tile, it is in the subtree of its parent
pub same_root : (part : ImplicitParts) (at : Place) → 0 < local_level part at
    → subtree_root part (above 1 at) ≡ subtree_root part at
same_root part at g =
    ap (λ n. above n (above 1 at)) (one_less at.level part.subtree_levels g)
    ∙ above_above (local_level part at - 1) 1 at
    ∙ ap (λ n. above n at) (whole (local_level part at) g) where
      whole : (k : ℕ) → 0 < k → 1 + (k - 1) ≡ k
      whole k h = omega arith

-- and so its key is the key of that
pub same_subtree : (root : RootParts) (at : Place) → 0 < local_level root.part at
    → subtree_key root at ≡ subtree_key root (above 1 at)
same_subtree root at g =
    ap (λ p. option_map (key_of_subtree root.part) (address_at root root.part.subtrees p))
    (sym (same_root root.part at g))
