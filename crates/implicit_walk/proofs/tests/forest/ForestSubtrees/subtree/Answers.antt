use Rattle.std.proofs.Common.{◌≡◌, Bool, true, false, ◌&&◌, List, [], ◌∷◌, Option, Some, sym}
use Rattle.std.proofs.Common.{refl, cond}
use Rattle.std.specs.List.{find}
use Rattle.tile_types.specs.Keys.{same_key, same_kind}
use Rattle.implicit_walk.proofs.tests.forest.ForestSubtrees.subtree.Goals as goal

and_left : (a b : Bool) → (a && b) ≡ true → a ≡ true
and_left true b e = refl
and_left false b e = cc

found_step : {A : Type 0} (p : A → Bool) (x y : A) (b : Bool) (rest : Option A) → p y ≡ b
    → cond b (Some y) rest ≡ Some x → (rest ≡ Some x → p x ≡ true) → p x ≡ true
found_step p x y true rest h e later = let same : y ≡ x = cc in rw same at h
found_step p x y false rest h e later = later e

-- what is found is what was looked for
found_holds : {A : Type 0} (p : A → Bool) (xs : List A) (x : A) → find p xs ≡ Some x → p x ≡ true
found_holds p [] x e = cc
found_holds p (y ∷ ys) x e = found_step p x y (p y) (find p ys) refl e (found_holds p ys x)

pub returns-clause-counts : goal.returns-clause-counts
returns-clause-counts c octree levels contents e =
    let l = c.in_ok-loaded_for.field-0.now in
    let key = c.args.key.now in
    let found : same_key l.key key ≡ true =
    found_holds (λ l. same_key l.key key) c.args.self.now.loaded.items l
    (sym c.in_ok-loaded_for.ensures) in
    let same : same_kind l.key.kind key.kind ≡ true = and_left _ _ found in
    l.counts octree levels contents (rw e at same)
