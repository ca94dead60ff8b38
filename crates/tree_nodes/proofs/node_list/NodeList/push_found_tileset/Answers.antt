use Rattle.std.proofs.Common.{◌+◌, Option, option_to_list, length, subst}
use Rattle.doc_store.specs.Store.{docs}
use Rattle.expanded_tree.specs.Tree.{Tree}
use Rattle.tree_expansion.specs.Expansion.{tilesets}
use Rattle.tree_nodes.specs.Found.{IsFound, IsFoundSome}
use Rattle.tree_nodes.specs.Growth.{Grows, Refuses, handed_holder, handed_name}
use Rattle.tree_nodes.proofs.Growing.{grows_pending}
use Rattle.tree_nodes.proofs.Tilesets.{of_waiting, root_there, root_written}
use Rattle.tree_nodes.proofs.node_list.NodeList.push_found_tileset.Goals as goal

pub returns-in-Ok : goal.returns-in-Ok
returns-in-Ok c address is =
    let store = c.args.store.now in
    let old = c.args.self.now in
    let w = subst (IsFound store address) c.in-Waiting.is is in
    subst (Grows store c.args.limit old c.push_pending.new.self)
    (of_waiting store (tilesets (docs store) c.args.handed.levels)
    (handed_name store old c.args.handed) (handed_holder old c.args.handed c.args.error)
    address c.in-Waiting.key w)
    (grows_pending store c.args.limit old c.push_pending.new.self c.args.handed
    (record { key = c.in-Waiting.key; error = c.args.error }) c.requires.sound c.requires.handed
    c.in-Ok.ensures.0 c.requires.error c.in-Ok.ensures.1)

pub tile_of-own-requires : goal.tile_of-own-requires
tile_of-own-requires c =
    let f = subst (IsFoundSome c.args.store.now) c.in-Here.is c.requires.found in
    root_there c.args.store.now f.address c.in-Here.document f.is f.is_address

pub push_written_tile-requires-clause-there : goal.push_written_tile-requires-clause-there
push_written_tile-requires-clause-there c =
    let f = subst (IsFoundSome c.args.store.now) c.in-Here.is c.requires.found in
    root_there c.args.store.now f.address c.in-Here.document f.is f.is_address

pub returns-in-Err-push_written_tile : goal.returns-in-Err-push_written_tile
returns-in-Err-push_written_tile c address is =
    let store = c.args.store.now in
    let old = c.args.self.now in
    let n = subst (IsFound store address) c.in-Here.is is in (
      subst (λ (o : Option Tree). Refuses c.args.limit
          (length old.nodes.items + length (option_to_list o)) c.in-Err-push_written_tile.e)
          (root_written store old c.args.handed c.args.error address c.in-Here.document n)
          c.in-Err-push_written_tile.ensures.0,
      c.in-Err-push_written_tile.ensures.1,
    )

pub returns-in-Ok-push_written_tile : goal.returns-in-Ok-push_written_tile
returns-in-Ok-push_written_tile c address is =
    let store = c.args.store.now in
    let old = c.args.self.now in
    let n = subst (IsFound store address) c.in-Here.is is in
    subst (λ (o : Option Tree). Grows store c.args.limit old c.push_written_tile.new.self
    (option_to_list o))
    (root_written store old c.args.handed c.args.error address c.in-Here.document n)
    c.in-Ok-push_written_tile.ensures
