use Rattle.std.proofs.Common.{◌++◌, ap, codes, refl, sym, ◌∙◌}
use Rattle.std.proofs.lemmas.Option.{slice_get_read}
use Rattle.tree_nodes.proofs.PlaceNames.{implicit_name, numbered_source, root_name}
use Rattle.tree_nodes.proofs.PlacesRead.{place_there}
use Rattle.tree_nodes.proofs.names.write_start.Goals as goal

pub returns-in-Implicit : goal.returns-in-Implicit
returns-in-Implicit c =
    let store = c.args.store.now in
    let list = c.args.list.now in
    let n = c.index.result.now in
    let read = slice_get_read list.nodes.items _ c.args.place n refl c.requires.within
    c.index.ensures in
    let p = place_there store list c.args.place n c.requires.sound read c.in-Implicit.place
    c.in-Implicit.is in
    let is = implicit_name store list c.args.place n c.requires.sound read c.in-Implicit.place
    c.in-Implicit.is p in
    c.in_ok-write_place.ensures p ∙ sym is

pub returns : goal.returns
returns c =
    let store = c.args.store.now in
    let list = c.args.list.now in
    let n = c.index.result.now in
    let read = slice_get_read list.nodes.items _ c.args.place n refl c.requires.within
    c.index.ensures in
    c.in_ok-push_str.ensures.bytes
    ∙ ap (λ start. start ++ codes "r") c.clear.ensures.bytes
    ∙ root_name store list c.args.place n c.requires.sound read c.requires.starts
    (numbered_source n.source c.in_default.not-Implicit)
