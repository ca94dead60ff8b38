use Rattle.std.proofs.Common.{arith}
use Rattle.tree_nodes.proofs.Extending.{extends_then, grows_extends}
use Rattle.tree_nodes.proofs.PlaceChildren.{all_places, can_now, is_below, is_row, none_yet, one_place, too_many}
use Rattle.tree_nodes.proofs.Places.{told_root}
use Rattle.tree_nodes.proofs.node_list.NodeList.push_places.Goals as goal

pub loop-child-init : goal.loop-child-init
loop-child-init c =
    none_yet c.args.store.now c.args.limit c.args.self.now c.args.handed c.args.top
    c.as_slice-child-items.result.now c.requires.sound

pub push_below-requires-clause-sound : goal.push_below-requires-clause-sound
push_below-requires-clause-sound c = c.loop-child.invariant.grows.sound

pub push_below-requires-clause-handed : goal.push_below-requires-clause-handed
push_below-requires-clause-handed c =
    let store = c.args.store.now in
    let old = c.args.self.now in
    let places = c.as_slice-child-items.result.now in
    let row = is_row store old c.args.top c.args.subtree c.args.at c.requires.tile c.root.result
    c.child_places-row.result places
    (told_root store old.tables c.args.top c.requires.tile.top c.requires.tile.is_top c.root.result
    c.root.ensures)
    c.child_places-row.ensures.value c.child_places-row.ensures.children
    c.as_slice-child-items.ensures in
    can_now store c.args.limit old c.loop-child.self c.args.handed c.args.top c.args.subtree
    c.args.at c.requires.tile places row c.loop-child.child-index c.loop-child.invariant c.requires.handed c.requires.some

pub push_below-requires-clause-below : goal.push_below-requires-clause-below
push_below-requires-clause-below c =
    let store = c.args.store.now in
    let old = c.args.self.now in
    let places = c.as_slice-child-items.result.now in
    let row = is_row store old c.args.top c.args.subtree c.args.at c.requires.tile c.root.result
    c.child_places-row.result places
    (told_root store old.tables c.args.top c.requires.tile.top c.requires.tile.is_top c.root.result
    c.root.ensures)
    c.child_places-row.ensures.value c.child_places-row.ensures.children
    c.as_slice-child-items.ensures in
    is_below store c.args.limit old c.loop-child.self c.args.handed c.args.top c.args.subtree
    c.args.at c.requires.tile places row c.loop-child.child-index c.loop-child.invariant (omega (arith, c.loop-child-test.true))

pub returns-in-Err : goal.returns-in-Err
returns-in-Err c =
    let store = c.args.store.now in
    let old = c.args.self.now in
    let places = c.as_slice-child-items.result.now in
    let row = is_row store old c.args.top c.args.subtree c.args.at c.requires.tile c.root.result
    c.child_places-row.result places
    (told_root store old.tables c.args.top c.requires.tile.top c.requires.tile.is_top c.root.result
    c.root.ensures)
    c.child_places-row.ensures.value c.child_places-row.ensures.children
    c.as_slice-child-items.ensures in (
      too_many store c.args.limit old c.loop-child.self c.args.handed c.args.top c.args.subtree
          c.args.at c.requires.tile places row c.loop-child.child-index c.loop-child.invariant (omega (arith, c.loop-child-test.true))
          c.in-Err.e c.in-Err.ensures.0,
      extends_then old c.loop-child.self c.push_below.new.self
          (grows_extends _ _ _ _ _ c.loop-child.invariant.grows) c.in-Err.ensures.1,
    )

pub loop-child-preserved : goal.loop-child-preserved
loop-child-preserved c =
    let store = c.args.store.now in
    let old = c.args.self.now in
    let places = c.as_slice-child-items.result.now in
    let row = is_row store old c.args.top c.args.subtree c.args.at c.requires.tile c.root.result
    c.child_places-row.result places
    (told_root store old.tables c.args.top c.requires.tile.top c.requires.tile.is_top c.root.result
    c.root.ensures)
    c.child_places-row.ensures.value c.child_places-row.ensures.children
    c.as_slice-child-items.ensures in
    one_place store c.args.limit old c.loop-child.self c.args.handed c.args.top c.args.subtree
    c.args.at c.requires.tile places row c.loop-child.child-index c.loop-child.invariant (omega (arith, c.loop-child-test.true))
    c.push_below.new.self c.in-Ok.ensures

pub returns : goal.returns
returns c =
    let store = c.args.store.now in
    let old = c.args.self.now in
    let places = c.as_slice-child-items.result.now in
    let row = is_row store old c.args.top c.args.subtree c.args.at c.requires.tile c.root.result
    c.child_places-row.result places
    (told_root store old.tables c.args.top c.requires.tile.top c.requires.tile.is_top c.root.result
    c.root.ensures)
    c.child_places-row.ensures.value c.child_places-row.ensures.children
    c.as_slice-child-items.ensures in
    all_places store c.args.limit old c.loop-child.self c.args.handed c.args.top c.args.subtree
    c.args.at c.requires.tile places row c.loop-child.child-index c.loop-child.invariant (omega (arith, c.loop-child-test.false))
