-- The expanded tile tree.
use Rattle.std.specs.Prelude.{ℕ, ◌+◌, Option, Some, None, List, [], ◌∷◌}
use Rattle.tile_types.specs.declared.key.Key.{Key}
use Rattle.expanded_tree.specs.Facts.{Facts}

-- where an implicit tile comes from: the address of the document that says so, the key of its
-- subtree, and the index of its bit there: OGC 22-025r4, "Subtrees"
pub record Origin : Type 0 where
  pub document : List ℕ
  pub subtree : Key
  pub index : ℕ

-- what is a tile's own: its name, its facts, the addresses of its contents, external tilesets left
-- out, and its origin, which a tile that a document writes out doesn't have
pub record TileParts : Type 0 where
  pub name : List ℕ
  pub facts : Facts
  pub contents : List (List ℕ)
  pub origin : Option Origin

-- a tile has parts of its own and children: OGC 22-025r4, "Tiles". A pending node has a name, facts
-- and the key of the document that it waits for
mutual
  pub data Tree : Type 0 where
    tile : TileParts → Trees → Tree
    pending : List ℕ → Facts → Key → Tree

  pub data Trees : Type 0 where
    no_trees : Trees
    more_trees : Tree → Trees → Trees

-- a tile that a document writes out, which has no origin
abbrev pub explicit_tile : List ℕ → Facts → List (List ℕ) → Trees → Tree
explicit_tile name facts contents children =
    tile (record { name = name; facts = facts; contents = contents; origin = None }) children

-- the trees as a list, and trees from a list
abbrev pub list_of : Trees → List Tree
list_of no_trees = []
list_of (more_trees t ts) = t ∷ list_of ts

abbrev pub from_list : List Tree → Trees
from_list [] = no_trees
from_list (t ∷ ts) = more_trees t (from_list ts)

abbrev pub name_of : Tree → List ℕ
name_of (tile parts children) = parts.name
name_of (pending name facts key) = name

abbrev pub facts_of : Tree → Facts
facts_of (tile parts children) = parts.facts
facts_of (pending name facts key) = facts

-- the addresses of a tile's own contents; a pending node has none
abbrev pub addresses_of : Tree → List (List ℕ)
addresses_of (tile parts children) = parts.contents
addresses_of (pending name facts key) = []

-- a pending node has no children
abbrev pub children_of : Tree → List Tree
children_of (tile parts children) = list_of children
children_of (pending name facts key) = []

-- the key that a pending node waits for; a tile waits for none
abbrev pub key_of : Tree → Option Key
key_of (tile parts children) = None
key_of (pending name facts key) = Some key

-- the number of nodes
abbrev mutual
  pub tree_size : Tree → ℕ
  tree_size (tile parts children) = trees_size children + 1
  tree_size (pending name facts key) = 1

  pub trees_size : Trees → ℕ
  trees_size no_trees = 0
  trees_size (more_trees t ts) = tree_size t + trees_size ts
