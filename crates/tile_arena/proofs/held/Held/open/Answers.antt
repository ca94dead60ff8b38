use Rattle.std.proofs.Common.{◌<◌, ◌-◌, ◌^◌, ◌∙◌, ◌++◌, ◌∷◌, [], ap, List, refl, rules, arith, true, None}
use Rattle.std.specs.Vec.{with_item}
use Rattle.expanded_tree.specs.declared.node.Node.{Node}
use Rattle.expanded_tree.specs.Tree.{children_of}
use Rattle.tree_nodes.specs.TreeIn.{tree_in}
use Rattle.tree_nodes.proofs.Growing.{grows_length}
use Rattle.tile_arena.specs.declared.children.Children.{Children}
use Rattle.tile_arena.specs.declared.held.Held.{Held}
use Rattle.tile_arena.specs.Standing.{trees_of}
use Rattle.tile_arena.proofs.Openings.{opened_again, opened_first}
use Rattle.tile_arena.proofs.Steps.{step_held, step_keeps}
use Rattle.tile_arena.proofs.held.Held.open.Goals as goal

pub returns-then-known-clause-held : goal.returns-then-known-clause-held
returns-then-known-clause-held c =
    let store = c.args.store.now in
    let old = c.args.self.now in
    let n = c.args.node in
    step_held store old _ [] (n ∷ [])
    (opened_again store old _ c.requires.held n refl c.make_room.ensures.same
    (c.push_reserved.ensures.items
    ∙ ap (λ (ns : List Node). ns ++ n ∷ []) c.reserve.ensures.items) c.requires.valid)
    c.requires.held

pub overflow_cast-count : goal.overflow_cast-count
overflow_cast-count c =
    let store = c.args.store.now in
    let old = c.args.self.now in
    let more = children_of (tree_in (trees_of store old) c.args.node.number) in
    let small : c.len.result - c.len-first.result < 2 ^ 32 =
    omega (
      arith,
      c.in_ok-open_children.ensures.few.children,
      grows_length store None old.list c.open_children.new.self more
          c.in_ok-open_children.ensures.grows,
      c.len.ensures,
      c.len-first.ensures,
      old.list.nodes.ok.0,
      c.open_children.new.self.nodes.ok.0,
    ) in
    search (rules, small)

pub returns-clause-held : goal.returns-clause-held
returns-clause-held c =
    let store = c.args.store.now in
    let old = c.args.self.now in
    let n = c.args.node in
    let more = children_of (tree_in (trees_of store old) n.number) in
    step_held store old _ more (n ∷ [])
    (opened_first store old _ c.requires.held n c.requires.valid c.make_room.new.children.items
    (record {
      at_hand = true;
      first = c.len-first.result;
      count = c.len.result - c.len-first.result;
    }) c.in_ok-make_room.ensures.there c.make_room.ensures.same refl
    (c.push_reserved-2.ensures.items
    ∙ ap (λ (ns : List Node). ns ++ n ∷ []) c.reserve.ensures.items)
    c.in_ok-open_children.ensures.grows refl
    (omega (arith, c.len-first.ensures, old.list.nodes.ok.0))
    (omega (
      arith,
      c.len.ensures,
      c.len-first.ensures,
      old.list.nodes.ok.0,
      c.open_children.new.self.nodes.ok.0,
    ))) c.requires.held

pub returns-clause-keeps : goal.returns-clause-keeps
returns-clause-keeps c =
    let store = c.args.store.now in
    let old = c.args.self.now in
    let n = c.args.node in
    let more = children_of (tree_in (trees_of store old) n.number) in
    let known : Children = record {
      at_hand = true;
      first = c.len-first.result;
      count = c.len.result - c.len-first.result;
    } in
    let new : Held = record {
      list = c.open_children.new.self;
      children = with_item c.make_room.new.children n.number known;
      opened = c.push_reserved-2.new.self;
    } in
    step_keeps store old new more (n ∷ [])
    (opened_first store old new c.requires.held n c.requires.valid c.make_room.new.children.items
    known c.in_ok-make_room.ensures.there c.make_room.ensures.same refl
    (c.push_reserved-2.ensures.items
    ∙ ap (λ (ns : List Node). ns ++ n ∷ []) c.reserve.ensures.items)
    c.in_ok-open_children.ensures.grows refl
    (omega (arith, c.len-first.ensures, old.list.nodes.ok.0))
    (omega (
      arith,
      c.len.ensures,
      c.len-first.ensures,
      old.list.nodes.ok.0,
      c.open_children.new.self.nodes.ok.0,
    )))

pub returns-clause-count : goal.returns-clause-count
returns-clause-count c =
    let store = c.args.store.now in
    let old = c.args.self.now in
    let more = children_of (tree_in (trees_of store old) c.args.node.number) in
    omega (
      arith,
      grows_length store None old.list c.open_children.new.self more
          c.in_ok-open_children.ensures.grows,
      c.len.ensures,
      c.len-first.ensures,
      old.list.nodes.ok.0,
      c.open_children.new.self.nodes.ok.0,
    )
