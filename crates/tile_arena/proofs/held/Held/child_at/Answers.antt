use Rattle.std.proofs.Common.{◌+◌, ◌∙◌, Some, ap, arith}
use Rattle.tree_nodes.specs.TreeIn.{tree_in}
use Rattle.tree_nodes.proofs.Growing.{length-node_trees}
use Rattle.tile_arena.specs.Standing.{trees_of}
use Rattle.tile_arena.proofs.Openings.{child_tree, child_within, read_children}
use Rattle.tile_arena.proofs.held.Held.child_at.Goals as goal

pub overflow_add-result : goal.overflow_add-result
overflow_add-result c =
    let held = c.args.self.now in
    let a = read_children (trees_of c.args._store.now held) held.children.items c.args.place
    c.index.result.now c.requires.held.children c.requires.at_hand c.index.ensures in
    omega (
      arith,
      c.from.ensures,
      child_within (trees_of c.args._store.now held) c.args.place c.index.result.now a c.args.i
          c.requires.within,
      length-node_trees c.args._store.now held.list,
      held.list.nodes.ok.0,
      held.list.nodes.small,
    )

pub returns-clause-within : goal.returns-clause-within
returns-clause-within c =
    let held = c.args.self.now in
    let a = read_children (trees_of c.args._store.now held) held.children.items c.args.place
    c.index.result.now c.requires.held.children c.requires.at_hand c.index.ensures in
    omega (
      arith,
      c.from.ensures,
      child_within (trees_of c.args._store.now held) c.args.place c.index.result.now a c.args.i
          c.requires.within,
      length-node_trees c.args._store.now held.list,
    )

pub returns-clause-tree : goal.returns-clause-tree
returns-clause-tree c =
    let held = c.args.self.now in
    let a = read_children (trees_of c.args._store.now held) held.children.items c.args.place
    c.index.result.now c.requires.held.children c.requires.at_hand c.index.ensures in
    child_tree (trees_of c.args._store.now held) c.args.place c.index.result.now a c.args.i
    c.requires.within
    ∙ ap (λ place. Some (tree_in (trees_of c.args._store.now held) place))
    (omega (arith, c.from.ensures, c.from-2.ensures))
