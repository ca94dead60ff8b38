use Rattle.std.proofs.Common.{option_to_list, length, ◌+◌, subst}
use Rattle.tree_nodes.specs.Growth.{Grows, Refuses}
use Rattle.tree_nodes.proofs.RootTree.{empty_can, empty_sound, root_is}
use Rattle.tree_nodes.proofs.Staying.{empty_first, still_first}
use Rattle.tree_nodes.proofs.node_list.NodeList.push_root.Goals as goal

pub push_tileset-requires-clause-sound : goal.push_tileset-requires-clause-sound
push_tileset-requires-clause-sound c = empty_sound c.args.store.now c.args.self.now c.requires

pub push_tileset-requires-clause-handed : goal.push_tileset-requires-clause-handed
push_tileset-requires-clause-handed c = empty_can c.args.store.now c.args.self.now c.requires

pub clear-requires : goal.clear-requires
clear-requires c =
    still_first c.args.self.now c.push_tileset.new.self (empty_first c.args.self.now c.requires)
    c.in-Err.ensures.1

pub returns-in-Err-clause-refused : goal.returns-in-Err-clause-refused
returns-in-Err-clause-refused c =
    let list = c.args.self.now in
    subst (λ o. Refuses c.args.limit (length list.nodes.items + length (option_to_list o))
    c.in-Err.e)
    (root_is c.args.store.now list c.requires c.root.result.now c.root.ensures.value)
    c.in-Err.ensures.0

pub returns-in-Ok-clause-grows : goal.returns-in-Ok-clause-grows
returns-in-Ok-clause-grows c =
    let list = c.args.self.now in
    subst (λ o. Grows c.args.store.now c.args.limit list c.push_tileset.new.self
    (option_to_list o))
    (root_is c.args.store.now list c.requires c.root.result.now c.root.ensures.value)
    c.in-Ok.ensures
