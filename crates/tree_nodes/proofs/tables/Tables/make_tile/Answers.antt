use Rattle.std.proofs.Common.{◌≡◌, ◌++◌, refl, sym, subst, arith}
use Rattle.implicit_walk.specs.Places.{IsPlace}
use Rattle.implicit_walk.specs.Roots.{RootParts}
use Rattle.tree_expansion.specs.Expansion.{external_of, own_of}
use Rattle.tree_nodes.specs.PlaceContents.{contents_in}
use Rattle.tree_nodes.specs.Places.{IsSubtreeOf}
use Rattle.tree_nodes.proofs.FoundTiles.{parts_of_root}
use Rattle.tree_nodes.proofs.Fronts.{more_contents, Continues-same, IsFront-more}
use Rattle.tree_nodes.proofs.MadeEntries.{tile_made}
use Rattle.tree_nodes.proofs.Places.{entry_ok, root_same}
use Rattle.tree_nodes.proofs.tables.Tables.make_tile.Goals as goal

pub root-root-requires : goal.root-root-requires
root-root-requires c =
    entry_ok c.args.store.now c.args.self.now c.args.top c.requires.top c.requires.is_top
    c.index.result.now c.index.ensures

pub subtree_in-parts-requires : goal.subtree_in-parts-requires
subtree_in-parts-requires c =
    let same = root_same c.args.store.now c.args.self.now c.args.top c.requires.top
    c.requires.is_top c.index.result.now c.index.ensures c.root-root.result c.root-root.ensures in
    subst (λ root. IsSubtreeOf c.args.store.now root c.args.at c.args.subtree) (sym same)
    c.requires.tile.subtree

pub push_contents-requires-clause-place : goal.push_contents-requires-clause-place
push_contents-requires-clause-place c =
    let same = root_same c.args.store.now c.args.self.now c.args.top c.requires.top
    c.requires.is_top c.index.result.now c.index.ensures c.root-root.result c.root-root.ensures in
    subst (λ (root : RootParts). IsPlace root.part c.args.at) (sym same) c.requires.place

pub push_contents-requires-clause-subtree : goal.push_contents-requires-clause-subtree
push_contents-requires-clause-subtree c =
    let same = root_same c.args.store.now c.args.self.now c.args.top c.requires.top
    c.requires.is_top c.index.result.now c.index.ensures c.root-root.result c.root-root.ensures in
    let s = subst (λ root. IsSubtreeOf c.args.store.now root c.args.at c.args.subtree) (sym same)
    c.requires.tile.subtree in
    parts_of_root c.args.store.now c.root-root.result c.args.at c.args.subtree s
    c.subtree_in-parts.result.now (c.subtree_in-parts.ensures s)

pub returns-clause-made : goal.returns-clause-made
returns-clause-made c =
    let old = c.args.self.now in
    let parts = c.subtree_in-parts.result.now in
    let same = root_same c.args.store.now c.args.self.now c.args.top c.requires.top
    c.requires.is_top c.index.result.now c.index.ensures c.root-root.result c.root-root.ensures in
    let same_parts : parts ≡ c.requires.tile.subtree.parts =
    subst (λ root. (s : IsSubtreeOf c.args.store.now root c.args.at c.args.subtree)
    → parts ≡ s.parts) same c.subtree_in-parts.ensures c.requires.tile.subtree in
    let contents =
    subst (λ root. c.push_contents.new.contents.items
    ≡ old.contents.items ++ own_of (contents_in root parts c.args.at)) same
    c.in_ok-push_contents.ensures.contents in
    let external =
    subst (λ root. c.push_contents.new.external.items
    ≡ old.external.items ++ external_of (contents_in root parts c.args.at)) same
    c.in_ok-push_contents.ensures.external in
    let stay = Continues-same old in
    tile_made c.args.store.now old _ c.args.top c.args.subtree c.args.at c.requires parts
    same_parts
    (record {
      transforms = stay.transforms;
      waiting = stay.waiting;
      tops = stay.tops;
      places = stay.places;
      contents = IsFront-more _ _ _ contents;
      external = IsFront-more _ _ _ external;
    }) refl refl contents external c.in_ok-first.first c.in_ok-end.end
    c.in_ok-first_external.first_external c.in_ok-end_external.end_external
    (omega (arith, c.in_ok-first.ensures, c.len.ensures, old.contents.ok.0))
    (omega (arith, c.in_ok-end.ensures, c.len-3.ensures, c.push_contents.new.contents.ok.0))
    (omega (arith, c.in_ok-first_external.ensures, c.len-2.ensures, old.external.ok.0))
    (omega (
      arith,
      c.in_ok-end_external.ensures,
      c.len-4.ensures,
      c.push_contents.new.external.ok.0,
    ))

pub returns-in_err-push_contents-clause-continues : goal.returns-in_err-push_contents-clause-continues
returns-in_err-push_contents-clause-continues c =
    more_contents c.args.self.now _ refl c.push_contents.ensures.front
    c.push_contents.ensures.front_external

pub returns-in_err-end-clause-continues : goal.returns-in_err-end-clause-continues
returns-in_err-end-clause-continues c =
    more_contents c.args.self.now _ refl c.push_contents.ensures.front
    c.push_contents.ensures.front_external

pub returns-in_err-end_external-clause-continues : goal.returns-in_err-end_external-clause-continues
returns-in_err-end_external-clause-continues c =
    more_contents c.args.self.now _ refl c.push_contents.ensures.front
    c.push_contents.ensures.front_external

pub returns-clause-continues : goal.returns-clause-continues
returns-clause-continues c =
    more_contents c.args.self.now _ refl c.push_contents.ensures.front
    c.push_contents.ensures.front_external
