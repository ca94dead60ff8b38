-- The tree that the documents of a store stand for together.
use Rattle.std.specs.Prelude.{ℕ, Option, Some, None, List, [], ◌∷◌}
use Rattle.doc_store.specs.Docs.{Loaded}
use Rattle.doc_store.specs.Store.{Stored, docs}
use Rattle.expanded_tree.specs.Tree.{Tree, tree_size}
use Rattle.tree_expansion.specs.Expansion.{expand}

-- the address of the first document, which is the root; each store has one
abbrev pub first_address : List Loaded → List ℕ
first_address [] = []
first_address (l ∷ ls) = l.key.address

abbrev pub root_address : Stored → List ℕ
root_address store = first_address store.loaded

-- the expanded tree of the root
unfoldable pub stored_tree : Stored → Option Tree
stored_tree store = expand (docs store) (root_address store)

-- how many nodes a tree has
abbrev pub size_of : Option Tree → ℕ
size_of None = 0
size_of (Some t) = tree_size t
