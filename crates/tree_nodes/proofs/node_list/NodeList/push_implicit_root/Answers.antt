use Rattle.std.proofs.Common.{◌+◌, length, option_to_list, subst}
use Rattle.implicit_walk.specs.declared.place.Place.{Place}
use Rattle.tree_nodes.proofs.Extending.{extends_then}
use Rattle.tree_nodes.specs.Growth.{Grows, Refuses}
use Rattle.tree_nodes.specs.Places.{place_tree}
use Rattle.tree_nodes.proofs.TopsAdded.{found_there, grows_behind, has_part, refused, still_sound, still_takes}
use Rattle.tree_nodes.proofs.node_list.NodeList.push_implicit_root.Goals as goal

pub root-requires : goal.root-requires
root-requires c =
    let own = has_part c.args.own.now.parts c.requires.implicit in
    let adds = c.in-Ok.ensures.top own.part own.says in
    record { top = _; is_top = adds.is_top }

pub push_found-requires-clause-sound : goal.push_found-requires-clause-sound
push_found-requires-clause-sound c =
    let own = has_part c.args.own.now.parts c.requires.implicit in
    still_sound c.args.store.now c.args.limit c.args.self.now c.add_top.new.self c.args.handed
    c.args.document c.args.tile c.in-Ok.top c.args.own.now own.part c.requires.own own.says
    (c.in-Ok.ensures.top own.part own.says) c.requires.sound

pub push_found-requires-clause-handed : goal.push_found-requires-clause-handed
push_found-requires-clause-handed c =
    let own = has_part c.args.own.now.parts c.requires.implicit in
    still_takes c.args.store.now c.args.limit c.args.self.now c.add_top.new.self c.args.handed
    c.args.document c.args.tile c.in-Ok.top c.args.own.now own.part c.requires.own own.says
    (c.in-Ok.ensures.top own.part own.says) c.requires.handed

pub push_found-requires-clause-found : goal.push_found-requires-clause-found
push_found-requires-clause-found c =
    let own = has_part c.args.own.now.parts c.requires.implicit in
    found_there c.args.store.now c.args.limit c.args.self.now c.add_top.new.self c.args.handed
    c.args.document c.args.tile c.in-Ok.top c.args.own.now own.part c.requires.own own.says
    (c.in-Ok.ensures.top own.part own.says) c.root.result c.root-2.result c.in-Ok-find_root.found
    c.root.ensures c.root-2.ensures c.in-Ok-find_root.ensures

pub returns-in-Err : goal.returns-in-Err
returns-in-Err c =
    let own = has_part c.args.own.now.parts c.requires.implicit in (
      refused c.args.store.now c.args.limit c.args.self.now c.add_top.new.self c.args.handed
          c.args.document c.args.tile c.in-Ok.top c.args.own.now own.part c.requires.own own.says
          (c.in-Ok.ensures.top own.part own.says) c.in-Err.e
          (subst (λ (at : Place). Refuses c.args.limit (length c.add_top.new.self.nodes.items + length
          (option_to_list (place_tree c.args.store.now c.add_top.new.self.tables c.args.handed.levels
          c.in-Ok.top at))) c.in-Err.e) c.root-2.ensures c.in-Err.ensures.0),
      extends_then c.args.self.now c.add_top.new.self c.push_found.new.self
          c.add_top.ensures.extends c.in-Err.ensures.1,
    )

pub returns-in-Ok-push_found : goal.returns-in-Ok-push_found
returns-in-Ok-push_found c =
    let own = has_part c.args.own.now.parts c.requires.implicit in
    grows_behind c.args.store.now c.args.limit c.args.self.now c.add_top.new.self c.args.handed
    c.args.document c.args.tile c.in-Ok.top c.args.own.now own.part c.requires.own own.says
    (c.in-Ok.ensures.top own.part own.says) c.requires.sound c.push_found.new.self
    (subst (λ (at : Place). Grows c.args.store.now c.args.limit c.add_top.new.self
    c.push_found.new.self (option_to_list (place_tree c.args.store.now c.add_top.new.self.tables
    c.args.handed.levels c.in-Ok.top at))) c.root-2.ensures c.in-Ok-push_found.ensures)
