-- Refusals of too many nodes.
use Rattle.std.proofs.Common.{ℕ, ◌≤◌, Option, Some, None, arith}
use Rattle.tree_nodes.specs.declared.error.ListError.{ListError}
use Rattle.tree_nodes.specs.declared.error.ListError.TheVariants.{TooLarge, OutOfMemory}
use Rattle.tree_nodes.specs.Growth.{Passes, Refuses}

passes_more : (limit : Option ℕ) (a b : ℕ) → a ≤ b → Passes limit a → Passes limit b
passes_more None a b h p = p
passes_more (Some limit) a b h p = omega arith

-- what is too much for some is too much for more
pub refuses_more : (limit : Option ℕ) (a b : ℕ) (e : ListError) → a ≤ b → Refuses limit a e
    → Refuses limit b e
refuses_more limit a b TooLarge h p = passes_more limit a b h p
refuses_more limit a b OutOfMemory h p = tt
