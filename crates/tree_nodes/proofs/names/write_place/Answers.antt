use Rattle.std.specs.Prelude.{decimal}
use Rattle.std.proofs.Common.{◌≡◌, ◌++◌, ap, arith, codes, ◌∙◌, string_bytes}
use Rattle.tileset_schema.specs.Implicit.{ImplicitParts}
use Rattle.tree_expansion.specs.Expansion.{place_numbers}
use Rattle.tree_nodes.proofs.PlaceNames.{name_at_place}
use Rattle.tree_nodes.proofs.names.write_place.Goals as goal

pub returns : goal.returns
returns c = λ p.
    let store = c.args.store.now in
    let tables = c.args.tables.now in
    let entry = c.index-entry.result.now in
    let top = c.index.result.now in
    let name = string_bytes c.push_str.new.self in
    let start : string_bytes c.push_str.new.self ≡ c.index.result.now.name =
    c.in_ok-push_str.ensures.bytes
    ∙ ap (λ start. start ++ c.as_str.result.now) c.clear.ensures.bytes
    ∙ c.as_str.ensures.value in
    let octree = c.octree-octree.ensures
    ∙ ap (λ (part : ImplicitParts). part.octree) c.part.ensures.value in
    name_at_place store tables c.args.number p entry c.index-entry.ensures top
    c.index.ensures name start c.root.result c.root.ensures
    (string_bytes c.push_place.new.name)
    (c.in_ok-push_place.ensures
    ∙ ap (λ o. name ++ codes "!" ++ decimal entry.at.level ++ place_numbers o entry.at) octree)
    (omega (arith, c.if-entry-eq0.false))
