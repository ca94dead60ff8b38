use Rattle.std.proofs.Common.{refl, ◌∙◌, arith}
use Rattle.std.proofs.lemmas.Option.{slice_get_read}
use Rattle.tree_nodes.proofs.Rows.{some_tiles, whole_count}
use Rattle.tree_nodes.proofs.documents.tile_count.Goals as goal

pub bounds-tiles-0 : goal.bounds-tiles-0
bounds-tiles-0 c = some_tiles c.args.tiles.now c.requires

pub returns-clause-count : goal.returns-clause-count
returns-clause-count c =
    c.size.ensures ∙ whole_count c.args.tiles.now c.index-tiles-0.result c.requires
    (slice_get_read c.args.tiles.now _ 0 c.index-tiles-0.result refl
    (some_tiles c.args.tiles.now c.requires) c.index-tiles-0.is)

pub returns-clause-fits : goal.returns-clause-fits
returns-clause-fits c =
    omega (
      arith,
      c.size.ensures,
      c.size.type_inv,
      whole_count c.args.tiles.now c.index-tiles-0.result c.requires
          (slice_get_read c.args.tiles.now _ 0 c.index-tiles-0.result refl
          (some_tiles c.args.tiles.now c.requires) c.index-tiles-0.is),
    )
