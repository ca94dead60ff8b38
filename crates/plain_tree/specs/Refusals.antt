-- Why a tree isn't listed.
use Rattle.std.specs.Prelude.{ℕ, ⊤, Option}
use Rattle.tree_nodes.specs.Growth.{Passes}
use Rattle.plain_tree.specs.declared.error.PlainError.{PlainError}
use Rattle.plain_tree.specs.declared.error.PlainError.TheVariants.{TooLarge, OutOfMemory}

-- where so many nodes are to be listed
abbrev pub Refuses : Option ℕ → ℕ → PlainError → Type 0
Refuses limit count TooLarge = Passes limit count
Refuses limit count OutOfMemory = ⊤
