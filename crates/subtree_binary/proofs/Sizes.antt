-- There are few enough bits for their number to fit.
use Rattle.std.proofs.Common.{ℕ, ◌^◌, ◌<◌, ◌≤◌, Bool, true, false, arith}
use Rattle.std.proofs.Math.Nat.{pow-le-pow_right, one-le-pow}
use Rattle.subtree_binary.specs.Counts.{arity, level_limit}

pub few_children : (octree : Bool) (levels : ℕ) → levels ≤ level_limit octree
    → arity octree ^ levels < 2 ^ 64
few_children true levels h =
    let most : 8 ^ levels ≤ 8 ^ 8 = pow-le-pow_right (omega arith) h in omega arith
few_children false levels h =
    let most : 4 ^ levels ≤ 4 ^ 12 = pow-le-pow_right (omega arith) h in omega arith

pub some_children : (octree : Bool) (levels : ℕ) → 1 ≤ arity octree ^ levels
some_children true levels = one-le-pow levels 8 (omega arith)
some_children false levels = one-le-pow levels 4 (omega arith)
