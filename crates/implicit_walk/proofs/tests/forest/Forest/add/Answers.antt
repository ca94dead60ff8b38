use Rattle.std.proofs.Common.{◌≡◌, ◌==◌, ◌&&◌, ℕ, Bool, true, false, refl, length, eqb-true}
use Rattle.std.specs.Bool.{beq}
use Rattle.tile_types.specs.Keys.{same_kind}
use Rattle.tile_types.specs.declared.key.Kind.TheVariants.{Subtree}
use Rattle.subtree_binary.specs.Subtrees.{HasCounts, SubtreeParts}
use Rattle.implicit_walk.proofs.tests.forest.Forest.add.Goals as goal

and_left : (a b : Bool) → (a && b) ≡ true → a ≡ true
and_left true b e = refl
and_left false b e = cc

and_right : (a b : Bool) → (a && b) ≡ true → b ≡ true
and_right true b e = e
and_right false b e = cc

beq_is : (a b : Bool) → beq a b ≡ true → a ≡ b
beq_is true true e = refl
beq_is true false e = cc
beq_is false true e = cc
beq_is false false e = refl

-- subtrees of the same kind have the same counts
same_counts : (o o' : Bool) (l l' c c' : ℕ) (s : SubtreeParts)
    → same_kind (Subtree o l c) (Subtree o' l' c') ≡ true → HasCounts o l c s → HasCounts o' l' c' s
same_counts o o' l l' c c' s e h =
    let behind : ((l == l') && (c == c')) ≡ true = and_right (beq o o') _ e in
    let same_octree : o ≡ o' = beq_is o o' (and_left _ _ e) in
    let same_levels : l ≡ l' = eqb-true l l' (and_left _ _ behind) in
    let same_contents : c ≡ c' = eqb-true c c' (and_right (l == l') _ behind) in
    rw (← same_octree, ← same_levels, ← same_contents) h

pub invariant_of-push : goal.invariant_of-push
invariant_of-push c = record {
  counts = λ octree levels contents e.
      let key : c.in_ok-key.key.kind ≡ Subtree c.octree-octree.result c.subtree_levels-levels.result
      (length c.contents.result.now) =
      rw (c.octree-octree.ensures, c.subtree_levels-levels.ensures.value, c.contents.ensures.value)
      c.in_ok-key.ensures in
      same_counts _ octree _ levels _ contents c.in_ok-subtree.subtree (rw key at e)
      c.in_ok-subtree.ensures.counts;
}
