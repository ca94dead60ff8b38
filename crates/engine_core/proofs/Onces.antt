-- Each key once, of lists that have each key once.
use Rattle.std.specs.Prelude.{if◌then◌else◌, max, min}
use Rattle.std.proofs.Common.{ℕ, ◌≡◌, Bool, true, false, ◌||◌, List, [], ◌∷◌, fold, refl, sym, ◌∙◌, ap, arith}
use Rattle.std.specs.List.{flat_map, list_any}
use Rattle.std.proofs.lemmas.Grind.{fold-append}
use Rattle.tile_types.specs.declared.key.Key.{Key}
use Rattle.tile_types.specs.declared.want.Want.{Want}
use Rattle.tile_types.specs.Keys.{same_key}
use Rattle.tile_types.specs.Wants.{Ranks}
use Rattle.tile_types.proofs.Keys.{key_is}
use Rattle.cut_core.specs.Wants.{each_once, joined, with_want}

-- ---- ranks

min_both : (a b c : ℕ) → min a (min b c) ≡ min (min a b) c
min_both a b c = omega arith

max_both : (a b c : ℕ) → max a (max b c) ≡ max (max a b) c
max_both a b c = omega arith

min_turned : (a b c : ℕ) → min (min a b) c ≡ min (min a c) b
min_turned a b c = omega arith

max_turned : (a b c : ℕ) → max (max a b) c ≡ max (max a c) b
max_turned a b c = omega arith

abbrev ranks_with : ℕ → ℕ → Ranks
ranks_with distance error = record { distance = distance; error = error }

joined_both : (a b c : Ranks) → joined a (joined b c) ≡ joined (joined a b) c
joined_both a b c =
    ap (λ d. ranks_with d (max a.error (max b.error c.error)))
    (min_both a.distance b.distance c.distance)
    ∙ ap (ranks_with (min (min a.distance b.distance) c.distance))
    (max_both a.error b.error c.error)

joined_turned : (a b c : Ranks) → joined (joined a b) c ≡ joined (joined a c) b
joined_turned a b c =
    ap (λ d. ranks_with d (max (max a.error b.error) c.error))
    (min_turned a.distance b.distance c.distance)
    ∙ ap (ranks_with (min (min a.distance c.distance) b.distance))
    (max_turned a.error b.error c.error)

-- ---- wants that join

abbrev want_of : Key → Ranks → Want
want_of key facts = record { key = key; facts = facts }

abbrev met : Want → Want → Want
met v w = want_of v.key (joined v.facts w.facts)

-- a want that joined another joins rest both do
with_met : (acc : List Want) (v w : Want) → same_key w.key v.key ≡ true
    → with_want acc (met v w) ≡ with_want (with_want acc v) w
with_met [] v w e = ap (λ b. if b then met v w ∷ [] else v ∷ w ∷ []) (sym e)
with_met (a ∷ rest) v w e =
    elim (same_key v.key a.key) as (λ b. same_key v.key a.key ≡ b
    → (if b then want_of a.key (joined a.facts (joined v.facts w.facts)) ∷ rest
    else a ∷ with_want rest (met v w))
    ≡ with_want (if b then met a v ∷ rest else a ∷ with_want rest v) w) [
      | true ↦ λ h.
          ap (λ r. want_of a.key r ∷ rest) (joined_both a.facts v.facts w.facts)
          ∙ ap (λ b. if b then met (met a v) w ∷ rest else met a v ∷ with_want rest w)
          (sym (same a.key ∙ h))
      | false ↦ λ h.
          ap (λ ws. a ∷ ws) (with_met rest v w e)
          ∙ ap (λ b. if b then met a w ∷ with_want rest v else a ∷ with_want (with_want rest v) w)
          (sym (same a.key ∙ h))
    ] refl
  where
    same : (k : Key) → same_key w.key k ≡ same_key v.key k
    same k = ap (λ j. same_key j k) (key_is w.key v.key e)

abbrev has_key : Key → List Want → Bool
has_key key ws = list_any (λ v. same_key key v.key) ws

or_true : (a b : Bool) → b ≡ true → (a || b) ≡ true
or_true true b h = refl
or_true false b h = h

right_of : (a b : Bool) → (a || b) ≡ true → a ≡ false → b ≡ true
right_of true b h e = cc
right_of false b h e = h

-- keys stay
key_stays : (key : Key) (acc : List Want) (w : Want) → has_key key acc ≡ true
    → has_key key (with_want acc w) ≡ true
key_stays key [] w h = cc
key_stays key (a ∷ rest) w h =
    elim (same_key w.key a.key) as (λ b. has_key key (if b then met a w ∷ rest
    else a ∷ with_want rest w) ≡ true) [
      | true ↦ h
      | false ↦ elim (same_key key a.key) as (λ b. same_key key a.key ≡ b
          → (b || has_key key (with_want rest w)) ≡ true) [
            | true ↦ λ e. refl
            | false ↦ λ e. key_stays key rest w (right_of (same_key key a.key) _ h e)
          ] refl
    ]

key_comes : (key : Key) (acc : List Want) (v : Want) → same_key key v.key ≡ true
    → has_key key (with_want acc v) ≡ true
key_comes key [] v e = ap (λ b. b || false) e
key_comes key (a ∷ rest) v e =
    elim (same_key v.key a.key) as (λ b. same_key v.key a.key ≡ b
    → has_key key (if b then met a v ∷ rest else a ∷ with_want rest v) ≡ true) [
      | true ↦ λ h. ap (λ b. b || has_key key rest) (ap (λ k. same_key k a.key) (key_is key v.key e) ∙ h)
      | false ↦ λ h. or_true (same_key key a.key) _ (key_comes key rest v e)
    ] refl

-- of two wants each joins the first one or goes on to the others
both_ways : (a : Want) (rest : List Want) (w u : Want) (x y : Bool) → same_key w.key a.key ≡ x
    → same_key u.key a.key ≡ y
    → (same_key w.key a.key ≡ false
    → with_want (with_want rest w) u ≡ with_want (with_want rest u) w)
    → with_want (with_want (a ∷ rest) w) u ≡ with_want (with_want (a ∷ rest) u) w
both_ways a rest w u x y e g ih =
    ap (λ b. with_want (if b then met a w ∷ rest else a ∷ with_want rest w) u) e
    ∙ ways x y e g
    ∙ ap (λ b. with_want (if b then met a u ∷ rest else a ∷ with_want rest u) w) (sym g)
  where
    ways : (x y : Bool) → same_key w.key a.key ≡ x → same_key u.key a.key ≡ y
        → with_want (if x then met a w ∷ rest else a ∷ with_want rest w) u
        ≡ with_want (if y then met a u ∷ rest else a ∷ with_want rest u) w
    ways true true e g =
        ap (λ b. if b then met (met a w) u ∷ rest else met a w ∷ with_want rest u) g
        ∙ ap (λ r. want_of a.key r ∷ rest) (joined_turned a.facts w.facts u.facts)
        ∙ ap (λ b. if b then met (met a u) w ∷ rest else met a u ∷ with_want rest w) (sym e)
    ways true false e g =
        ap (λ b. if b then met (met a w) u ∷ rest else met a w ∷ with_want rest u) g
        ∙ ap (λ b. if b then met a w ∷ with_want rest u
        else a ∷ with_want (with_want rest u) w) (sym e)
    ways false true e g =
        ap (λ b. if b then met a u ∷ with_want rest w
        else a ∷ with_want (with_want rest w) u) g
        ∙ ap (λ b. if b then met (met a u) w ∷ rest else met a u ∷ with_want rest w) (sym e)
    ways false false e g =
        ap (λ b. if b then met a u ∷ with_want rest w
        else a ∷ with_want (with_want rest w) u) g
        ∙ ap (λ ws. a ∷ ws) (ih e)
        ∙ ap (λ b. if b then met a w ∷ with_want rest u
        else a ∷ with_want (with_want rest u) w) (sym e)

-- a want whose key is there may join before another or after it
turned : (acc : List Want) (w u : Want) → has_key w.key acc ≡ true
    → with_want (with_want acc w) u ≡ with_want (with_want acc u) w
turned [] w u h = cc
turned (a ∷ rest) w u h =
    both_ways a rest w u (same_key w.key a.key) (same_key u.key a.key) refl refl
    (λ e. turned rest w u (right_of (same_key w.key a.key) _ h e))

-- and before others or after them
turned_all : (vs acc : List Want) (w : Want) → has_key w.key acc ≡ true
    → fold with_want (with_want acc w) vs ≡ with_want (fold with_want acc vs) w
turned_all [] acc w h = refl
turned_all (v ∷ vs) acc w h =
    ap (λ ws. fold with_want ws vs) (turned acc w v h)
    ∙ turned_all vs (with_want acc v) w (key_stays w.key acc v h)

-- ---- lists of wants

fold_one : (vs acc : List Want) (w : Want)
    → fold with_want acc (with_want vs w) ≡ with_want (fold with_want acc vs) w
fold_one [] acc w = refl
fold_one (v ∷ vs) acc w =
    elim (same_key w.key v.key) as (λ b. same_key w.key v.key ≡ b
    → fold with_want acc (if b then met v w ∷ vs else v ∷ with_want vs w)
    ≡ with_want (fold with_want (with_want acc v) vs) w) [
      | true ↦ λ e.
          ap (λ ws. fold with_want ws vs) (with_met acc v w e)
          ∙ turned_all vs (with_want acc v) w (key_comes w.key acc v e)
      | false ↦ λ e. fold_one vs (with_want acc v) w
    ] refl

fold_all : (ws start acc : List Want)
    → fold with_want acc (fold with_want start ws) ≡ fold with_want (fold with_want acc start) ws
fold_all [] start acc = refl
fold_all (w ∷ ws) start acc =
    fold_all ws (with_want start w) acc
    ∙ ap (λ us. fold with_want us ws) (fold_one start acc w)

-- what has each key once joins rest all of it does
pub fold_once : (ws acc : List Want) → fold with_want acc (each_once ws) ≡ fold with_want acc ws
fold_once ws acc = fold_all ws [] acc

module _ {A : Type 0} (f g : A → List Want) (same : (x : A) → g x ≡ each_once (f x)) where
  once_from : (xs : List A) (acc : List Want)
      → fold with_want acc (flat_map f xs) ≡ fold with_want acc (flat_map g xs)
  once_from [] acc = refl
  once_from (x ∷ xs) acc =
      fold-append with_want acc (f x) (flat_map f xs)
      ∙ ap (λ us. fold with_want us (flat_map f xs)) (sym (fold_once (f x) acc)
      ∙ ap (fold with_want acc) (sym (same x)))
      ∙ once_from xs (fold with_want acc (g x))
      ∙ sym (fold-append with_want acc (g x) (flat_map g xs))

  pub once_of_each : (xs : List A) → each_once (flat_map f xs) ≡ each_once (flat_map g xs)
  once_of_each xs = once_from xs []
