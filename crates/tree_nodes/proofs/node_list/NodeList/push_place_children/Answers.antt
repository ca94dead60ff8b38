use Rattle.std.proofs.Common.{arith, rules}
use Rattle.tree_nodes.proofs.Extending.{extends_then, grows_extends}
use Rattle.tree_nodes.proofs.PlaceExternals.{all_children, can_take, can_take_more, has_tile, no_children, some_more, still_parent, too_many, too_many_below, top_there}
use Rattle.tree_nodes.proofs.node_list.NodeList.push_place_children.Goals as goal

pub returns-in_default : goal.returns-in_default
returns-in_default c =
    no_children c.args.store.now c.args.self.now c.args.place c.args.node c.requires.sound
    c.requires.node c.args.number c.requires.source c.index-entry.result.now c.index-entry.ensures
    c.args.limit c.in_default.field-0 c.in_default.is

pub index-top-requires : goal.index-top-requires
index-top-requires c =
    let there = top_there c.args.store.now c.args.self.now c.args.place c.args.node
    c.requires.sound c.requires.node c.args.number c.requires.source c.index-entry.result.now
    c.index-entry.ensures in
    search (rules, there)

pub push_places-requires-clause-handed : goal.push_places-requires-clause-handed
push_places-requires-clause-handed c =
    can_take c.args.store.now c.args.self.now c.args.place c.args.node c.requires.sound
    c.requires.node c.args.number c.requires.source c.index-entry.result.now c.index-entry.ensures
    c.in-Read.subtree c.in-Read.is c.index-top.result.now c.index-top.ensures

pub push_places-requires-clause-tile : goal.push_places-requires-clause-tile
push_places-requires-clause-tile c =
    has_tile c.args.store.now c.args.self.now c.args.place c.args.node c.requires.sound
    c.requires.node c.args.number c.requires.source c.index-entry.result.now c.index-entry.ensures
    c.in-Read.subtree c.in-Read.is

pub push_place_external-requires-clause-handed : goal.push_place_external-requires-clause-handed
push_place_external-requires-clause-handed c =
    can_take_more c.args.store.now c.args.self.now c.args.place c.args.node c.requires.sound
    c.requires.node c.args.number c.requires.source c.index-entry.result.now c.index-entry.ensures
    c.in-Read.subtree c.in-Read.is c.index-top.result.now c.index-top.ensures c.args.limit
    c.push_places.new.self c.in-Ok.ensures

pub push_place_external-requires-clause-some : goal.push_place_external-requires-clause-some
push_place_external-requires-clause-some c =
    some_more c.args.store.now c.args.self.now c.args.place c.args.node c.requires.sound
    c.requires.node c.args.number c.requires.source c.index-entry.result.now c.index-entry.ensures
    c.in-Read.subtree c.in-Read.is c.index-top.result.now c.index-top.ensures c.args.limit
    c.push_places.new.self c.in-Ok.ensures

pub push_place_external-requires-clause-parent : goal.push_place_external-requires-clause-parent
push_place_external-requires-clause-parent c =
    still_parent c.args.store.now c.args.self.now c.args.place c.args.node c.requires.sound
    c.requires.node c.args.number c.requires.source c.index-entry.result.now c.index-entry.ensures
    c.in-Read.subtree c.in-Read.is c.index-top.result.now c.index-top.ensures c.args.limit
    c.push_places.new.self c.in-Ok.ensures

pub returns-in-Err : goal.returns-in-Err
returns-in-Err c = (
  too_many_below c.args.store.now c.args.self.now c.args.place c.args.node c.requires.sound
      c.requires.node c.args.number c.requires.source c.index-entry.result.now c.index-entry.ensures
      c.in-Read.subtree c.in-Read.is c.args.limit c.in-Err.e c.in-Err.ensures.0,
  c.in-Err.ensures.1,
)

pub returns-in-Err-push_place_external : goal.returns-in-Err-push_place_external
returns-in-Err-push_place_external c = (
  too_many c.args.store.now c.args.self.now c.args.place c.args.node c.requires.sound
      c.requires.node c.args.number c.requires.source c.index-entry.result.now c.index-entry.ensures
      c.in-Read.subtree c.in-Read.is c.index-top.result.now c.index-top.ensures c.args.limit
      c.push_places.new.self c.in-Ok.ensures c.in-Err-push_place_external.e
      c.in-Err-push_place_external.ensures.0,
  extends_then c.args.self.now c.push_places.new.self c.push_place_external.new.self
      (grows_extends _ _ _ _ _ c.in-Ok.ensures) c.in-Err-push_place_external.ensures.1,
)

pub returns-in-Ok-push_place_external : goal.returns-in-Ok-push_place_external
returns-in-Ok-push_place_external c =
    all_children c.args.store.now c.args.self.now c.args.place c.args.node c.requires.sound
    c.requires.node c.args.number c.requires.source c.index-entry.result.now c.index-entry.ensures
    c.in-Read.subtree c.in-Read.is c.index-top.result.now c.index-top.ensures c.args.limit
    c.push_places.new.self c.in-Ok.ensures c.push_place_external.new.self
    (omega (arith, c.if-entry.false)) c.in-Ok-push_place_external.ensures
