use Rattle.std.proofs.Common.{refl, subst}
use Rattle.tree_nodes.proofs.Extending.{extends_tables, extends_then}
use Rattle.tree_nodes.specs.Places.{IsFoundAt}
use Rattle.tree_nodes.proofs.PushedPlaces.{found_none, found_some, has_tile, refused}
use Rattle.tree_nodes.proofs.node_list.NodeList.push_found.Goals as goal

pub returns-in-No : goal.returns-in-No
returns-in-No c =
    found_none c.args.store.now c.args.limit c.args.self.now c.args.handed c.args.top c.args.at
    c.requires.sound
    (subst (IsFoundAt c.args.store.now c.args.self.now.tables c.args.top c.args.at) c.in-No.is
    c.requires.found)

pub make_tile-requires : goal.make_tile-requires
make_tile-requires c =
    has_tile c.args.store.now c.args.self.now c.args.top c.in-Read.subtree c.args.at
    (subst (IsFoundAt c.args.store.now c.args.self.now.tables c.args.top c.args.at) c.in-Read.is
    c.requires.found)

pub returns-in-Err : goal.returns-in-Err
returns-in-Err c = (
  refused c.args.store.now c.args.limit c.args.self.now c.args.handed c.args.top c.args.at
      c.requires.found.top c.requires.found.is_top
      (record c.args.self.now { tables = c.make_tile.new.self }) c.in-Ok.entry c.in-Ok.ensures.made
      c.in-Err.e refl
      c.in-Err.ensures.0,
  extends_then c.args.self.now (record c.args.self.now { tables = c.make_tile.new.self })
      c.push_place.new.self
      (extends_tables c.args.self.now _ refl c.make_tile.ensures.continues) c.in-Err.ensures.1,
)

pub returns-in-Ok-push_place : goal.returns-in-Ok-push_place
returns-in-Ok-push_place c =
    found_some c.args.store.now c.args.limit c.args.self.now c.args.handed c.args.top c.args.at
    c.requires.found.top c.requires.found.is_top _ c.in-Ok.entry c.in-Ok.ensures.made
    c.push_place.new.self c.requires.sound c.requires.handed refl
    c.in-Ok-push_place.ensures.0 c.in-Ok-push_place.ensures.1

pub returns-in-Err-push_place : goal.returns-in-Err-push_place
returns-in-Err-push_place c = (
  refused c.args.store.now c.args.limit c.args.self.now c.args.handed c.args.top c.args.at
      c.requires.found.top c.requires.found.is_top
      (record c.args.self.now { tables = c.make_awaited.new.self }) c.in-Ok-make_awaited.entry
      c.in-Ok-make_awaited.ensures.made c.in-Err-push_place.e refl c.in-Err-push_place.ensures.0,
  extends_then c.args.self.now (record c.args.self.now { tables = c.make_awaited.new.self })
      c.push_place-in-Awaited.new.self
      (extends_tables c.args.self.now _ refl c.make_awaited.ensures.continues)
      c.in-Err-push_place.ensures.1,
)

pub returns-in-Ok-push_place-2 : goal.returns-in-Ok-push_place-2
returns-in-Ok-push_place-2 c =
    found_some c.args.store.now c.args.limit c.args.self.now c.args.handed c.args.top c.args.at
    c.requires.found.top c.requires.found.is_top _ c.in-Ok-make_awaited.entry
    c.in-Ok-make_awaited.ensures.made c.push_place-in-Awaited.new.self c.requires.sound
    c.requires.handed refl c.in-Ok-push_place-2.ensures.0 c.in-Ok-push_place-2.ensures.1

pub returns-in_default : goal.returns-in_default
returns-in_default c =
    (tt, extends_tables c.args.self.now _ refl c.make_tile.ensures.continues)

pub returns-in_default-make_awaited : goal.returns-in_default-make_awaited
returns-in_default-make_awaited c =
    (tt, extends_tables c.args.self.now _ refl c.make_awaited.ensures.continues)
