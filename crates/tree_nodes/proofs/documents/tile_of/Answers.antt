use Rattle.std.proofs.Common.{◌≡◌, Some, refl, sym, ◌∙◌, ap}
use Rattle.std.proofs.lemmas.Option.{slice_get_read}
use Rattle.tree_nodes.specs.Tiles.{document_rows}
use Rattle.tree_nodes.proofs.Rows.{read_row, row_within}
use Rattle.tree_nodes.proofs.documents.tile_of.Goals as goal

pub bounds-tiles-tile : goal.bounds-tiles-tile
bounds-tiles-tile c =
    row_within c.args.store.now c.args.document c.args.tile c.tiles-tiles.result.now c.requires
    (sym c.in-Some.ensures.tiles ∙ ap Some (sym c.tiles-tiles.ensures))

pub returns : goal.returns
returns c =
    let tiles = c.tiles-tiles.result.now in
    let read : document_rows c.args.store.now c.args.document ≡ Some tiles =
    sym c.in-Some.ensures.tiles ∙ ap Some (sym c.tiles-tiles.ensures) in
    read_row c.args.store.now c.args.document c.args.tile tiles c.requires read
    c.index-tiles-tile.result (slice_get_read tiles _ c.args.tile c.index-tiles-tile.result refl
    (row_within c.args.store.now c.args.document c.args.tile tiles c.requires read)
    c.index-tiles-tile.is)
