-- The tree of the list of a tree.
use Rattle.std.proofs.Common.{◌≡◌, ◌+◌, ◌-◌, ◌<◌, ◌==◌, List, [], ◌∷◌, ◌++◌, Bool, false, if◌then◌else◌, refl, ap, sym, ◌∙◌, append_assoc, append-nil, arith, tests}
use Rattle.tileset_schema.specs.Preorder.{Row, rows, all_rows, split_trees, with_row, trees}
use Rattle.tileset_schema.specs.Tiles.{WrittenTile, WrittenTiles, written, no_tiles, more_tiles, tile_count, tiles_count}

abbrev pub tile_list : WrittenTiles → List WrittenTile
tile_list no_tiles = []
tile_list (more_tiles t ts) = t ∷ tile_list ts

counted : (t : WrittenTile) → 0 < tile_count t
counted (written own ts) = omega arith

-- trees of this size stand before others
split-list : (ts : WrittenTiles) (more : List WrittenTile)
    → split_trees (tiles_count ts) (tile_list ts ++ more) ≡ (ts, more)
split-list no_tiles [] = refl
split-list no_tiles (t ∷ more) = refl
split-list (more_tiles t ts) more =
    go (tile_count t + tiles_count ts == 0) (search (tests, arith, counted t))
    (ap (λ n. split_trees n (tile_list ts ++ more)) less ∙ split-list ts more)
  where
    less : (tile_count t + tiles_count ts) - tile_count t ≡ tiles_count ts
    less = omega arith

    rest : WrittenTiles × List WrittenTile
    rest = split_trees ((tile_count t + tiles_count ts) - tile_count t) (tile_list ts ++ more)

    both : WrittenTiles × List WrittenTile
    both = (ts, more)

    with_more : WrittenTiles × List WrittenTile → WrittenTiles × List WrittenTile
    with_more split = (more_tiles t split.0, split.1)

    go : (b : Bool) → b ≡ false → rest ≡ both
        → (if b then (no_tiles, t ∷ tile_list ts ++ more) else with_more rest) ≡ with_more both
    go b e below = rw e (ap with_more below)

mutual
  pub trees-rows : (t : WrittenTile) (more : List Row) → trees (rows t ++ more) ≡ t ∷ trees more
  trees-rows (written own ts) more =
      ap (with_row (record { parts = own; size = tile_count (written own ts) }))
      (trees-all_rows ts more)
      ∙ ap (λ n. with_children (split_trees n (tile_list ts ++ trees more))) one_less
      ∙ ap with_children (split-list ts (trees more))
    where
      with_children : WrittenTiles × List WrittenTile → List WrittenTile
      with_children split = written own split.0 ∷ split.1

      one_less : (tiles_count ts + 1) - 1 ≡ tiles_count ts
      one_less = omega arith

  pub trees-all_rows : (ts : WrittenTiles) (more : List Row)
      → trees (all_rows ts ++ more) ≡ tile_list ts ++ trees more
  trees-all_rows no_tiles more = refl
  trees-all_rows (more_tiles t ts) more =
      ap trees (append_assoc (rows t) (all_rows ts) more)
      ∙ trees-rows t (all_rows ts ++ more)
      ∙ ap (λ us. t ∷ us) (trees-all_rows ts more)

pub trees-alone : (t : WrittenTile) → trees (rows t) ≡ t ∷ []
trees-alone t = ap trees (sym (append-nil (rows t))) ∙ trees-rows t []
