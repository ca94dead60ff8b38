use Rattle.std.proofs.Common.{◌≡◌, refl, sym, ◌∙◌}
use Rattle.std.proofs.lemmas.Option.{slice_get_read}
use Rattle.std.proofs.lemmas.Result.{IfOk-weaker}
use Rattle.expanded_tree.specs.Tree.{name_of}
use Rattle.tree_nodes.specs.Nodes.{node_trees}
use Rattle.tree_nodes.specs.TreeIn.{tree_in}
use Rattle.tree_nodes.proofs.PlaceNames.{implicit_name}
use Rattle.tree_nodes.proofs.PlacesRead.{place_there}
use Rattle.tree_nodes.proofs.names.write_name.Goals as goal

pub name_of_place-requires : goal.name_of_place-requires
name_of_place-requires c =
    let store = c.args.store.now in
    let list = c.args.list.now in
    let n = c.index.result.now in
    let read = slice_get_read list.nodes.items _ c.args.place n refl c.requires.within
    c.index.ensures in
    place_there store list c.args.place n c.requires.sound read c.in-Implicit.place
    c.in-Implicit.is

pub returns-in-Implicit : goal.returns-in-Implicit
returns-in-Implicit c =
    let store = c.args.store.now in
    let list = c.args.list.now in
    let n = c.index.result.now in
    let read = slice_get_read list.nodes.items _ c.args.place n refl c.requires.within
    c.index.ensures in
    let p = place_there store list c.args.place n c.requires.sound read c.in-Implicit.place
    c.in-Implicit.is in
    let is = implicit_name store list c.args.place n c.requires.sound read c.in-Implicit.place
    c.in-Implicit.is p in
    IfOk-weaker c.name_of_place.result _
    (λ name. name ≡ name_of (tree_in (node_trees store list) c.args.place))
    (λ name named. named p ∙ sym is) c.name_of_place.ensures
