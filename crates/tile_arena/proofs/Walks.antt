-- How many children the opened nodes have.
use Rattle.std.proofs.Common.{◌≡◌, ◌≤◌, Bool, true, false, List, [], ◌∷◌, length, map, filter, refl, ap, arith}
use Rattle.expanded_tree.specs.declared.node.Node.{Node}
use Rattle.expanded_tree.specs.Standing.{Standing, StandIn, nothing, past, at}
use Rattle.expanded_tree.specs.Tree.{Tree, children_of}
use Rattle.tile_arena.specs.Children.{child_count}

-- nodes that stand for some of these trees have no more
pub some_children : (s : Standing) (ns : List Node) (ts : List Tree) → StandIn s ns ts
    → child_count (map s.node_tree ns) ≤ child_count ts
some_children s [] [] nothing = omega arith
some_children s (n ∷ ns) [] x = elim x [ ]
some_children s ns (t ∷ ts) (past rest) = omega (arith, some_children s ns ts rest)
some_children s (n ∷ ns) (t ∷ ts) (at stands rest) =
    omega (
      arith,
      some_children s ns ts rest,
      ap (λ u. length (children_of u)) stands.tree,
    )

-- some trees among these
fewer : (b : Bool) (p : Tree → Bool) (t : Tree) (ts : List Tree) → p t ≡ b
    → child_count (filter p ts) ≤ child_count ts
    → child_count (filter p (t ∷ ts)) ≤ child_count (t ∷ ts)
fewer true p t ts e h = rw e (omega (arith, h))
fewer false p t ts e h = rw e (omega (arith, h))

pub fewer_children : (p : Tree → Bool) (ts : List Tree)
    → child_count (filter p ts) ≤ child_count ts
fewer_children p [] = omega arith
fewer_children p (t ∷ ts) = fewer (p t) p t ts refl (fewer_children p ts)
