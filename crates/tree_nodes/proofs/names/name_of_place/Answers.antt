use Rattle.std.specs.Prelude.{decimal}
use Rattle.std.proofs.Common.{◌≡◌, ◌-◌, ◌++◌, ap, append_assoc, arith, codes, drop, refl, sym, ◌∙◌}
use Rattle.std.proofs.lemmas.List.{length-drop, take_all}
use Rattle.std.proofs.lemmas.Result.{IfOk-weaker}
use Rattle.tileset_schema.specs.Implicit.{ImplicitParts}
use Rattle.tree_expansion.specs.Expansion.{place_name, place_numbers}
use Rattle.tree_nodes.specs.Places.{IsPlaceAt}
use Rattle.tree_nodes.proofs.PlaceNames.{name_at_place}
use Rattle.tree_nodes.proofs.names.name_of_place.Goals as goal

pub returns : goal.returns
returns c =
    let store = c.args.store.now in
    let tables = c.args.tables.now in
    let entry = c.index-entry.result.now in
    let top = c.index-top.result.now in
    let octree = c.octree-octree.ensures
    ∙ ap (λ (part : ImplicitParts). part.octree) c.part.ensures.value in
    let start = c.place_at-start.result in
    let bytes = c.place_at-start.new.bytes in
    let behind = c.from_utf8_unchecked-behind.ensures
    ∙ take_all (44 - start) (drop start bytes)
    (omega (arith, length-drop start bytes, c.place_at-start.array_long))
    ∙ c.place_at-start.ensures.written in
    IfOk-weaker c.followed_by.result _
    (λ name. (p : IsPlaceAt store tables c.args.number) → name ≡ place_name p.has.top p.entry.at)
    (λ name is p. name_at_place store tables c.args.number p entry c.index-entry.ensures top
    c.index-top.ensures top.name refl c.root.result c.root.ensures name
    (is ∙ ap (λ t. top.name ++ t) behind
    ∙ ap (λ o. top.name ++ (codes "!" ++ decimal entry.at.level ++ place_numbers o entry.at)) octree
    ∙ sym (append_assoc (top.name ++ codes "!") (decimal entry.at.level)
    (place_numbers c.root.result.part.octree entry.at)
    ∙ append_assoc top.name (codes "!") (decimal entry.at.level ++ place_numbers c.root.result.part.octree entry.at)
    ∙ ap (λ t. top.name ++ t) (sym (append_assoc (codes "!") (decimal entry.at.level)
    (place_numbers c.root.result.part.octree entry.at)))))
    (omega (arith, c.if-entry-eq0.false))) c.followed_by.ensures.value
