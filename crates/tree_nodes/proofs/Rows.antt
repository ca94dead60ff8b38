-- Tiles in preorder, and the trees that they are the tiles of.
use Rattle.std.proofs.Common.{ℕ, zero, suc, ◌≡◌, ◌+◌, ◌-◌, ◌<◌, ◌≤◌, Option, Some, None, List, [], ◌∷◌, ◌++◌, length, drop, Bool, true, false, if◌then◌else◌, refl, sym, ap, subst, ◌∙◌, arith, append_assoc, append-nil, length-append, length-drop}
use Rattle.std.specs.List.{slice_get}
use Rattle.std.specs.Option.{option_and_then, option_map}
use Rattle.std.proofs.Math.Dec.{eqb-suc-zero}
use Rattle.tileset_schema.specs.Tiles.{WrittenTile, WrittenTiles, written, no_tiles, more_tiles, tile_count, tiles_count}
use Rattle.tileset_schema.specs.Preorder.{Row, rows, all_rows, split_trees, with_row, trees}
use Rattle.doc_store.specs.Docs.{Loaded, is_tileset, tileset_in}
use Rattle.doc_store.specs.States.{rows_in, rows_of}
use Rattle.doc_store.specs.Store.{Stored}
use Rattle.tree_nodes.proofs.Elements.{slice_get-drop}
use Rattle.tree_nodes.specs.Tiles.{StandsAt, IsDocument, IsTileAt, HasRow, document_rows, tile_among, tile_at, row_of}

-- ---- the trees of the tiles of trees

abbrev listed : WrittenTiles → List WrittenTile
listed no_tiles = []
listed (more_tiles t ts) = t ∷ listed ts

some_tile : (t : WrittenTile) → 1 ≤ tile_count t
some_tile (written own children) = omega arith

split_past : (size : ℕ) (t : WrittenTile) (ts : WrittenTiles) (us : List WrittenTile)
    → size ≡ tile_count t + tiles_count ts
    → split_trees (size - tile_count t) (listed ts ++ us) ≡ (ts, us)
    → split_trees size (t ∷ listed ts ++ us) ≡ (more_tiles t ts, us)
split_past zero t ts us e rest = absurd (omega (arith, some_tile t))
split_past (suc k) t ts us e rest = rw (eqb-suc-zero k, rest) refl

split-listed : (size : ℕ) (ts : WrittenTiles) (us : List WrittenTile) → size ≡ tiles_count ts
    → split_trees size (listed ts ++ us) ≡ (ts, us)
split-listed zero no_tiles [] e = refl
split-listed zero no_tiles (u ∷ us) e = refl
split-listed (suc k) no_tiles us e = absurd (omega (arith, e))
split-listed size (more_tiles t ts) us e =
    split_past size t ts us e (split-listed (size - tile_count t) ts us (omega (arith, e)))

mutual
  pub trees-rows : (t : WrittenTile) (behind : List Row)
      → trees (rows t ++ behind) ≡ t ∷ trees behind
  trees-rows (written own children) behind =
      let rest = trees-all_rows children behind in
      let split = split-listed (tiles_count children + 1 - 1) children (trees behind)
      (omega arith) in
      ap (with_row (record { parts = own; size = tiles_count children + 1 })) rest
      ∙ ap (λ (p : WrittenTiles × List WrittenTile). written own p.0 ∷ p.1) split

  trees-all_rows : (ts : WrittenTiles) (behind : List Row)
      → trees (all_rows ts ++ behind) ≡ listed ts ++ trees behind
  trees-all_rows no_tiles behind = refl
  trees-all_rows (more_tiles t ts) behind =
      ap trees (append_assoc (rows t) (all_rows ts) behind)
      ∙ trees-rows t (all_rows ts ++ behind)
      ∙ ap (λ us. t ∷ us) (trees-all_rows ts behind)

mutual
  pub length-rows : (t : WrittenTile) → length (rows t) ≡ tile_count t
  length-rows (written own children) = omega (arith, length-all_rows children)

  pub length-all_rows : (ts : WrittenTiles) → length (all_rows ts) ≡ tiles_count ts
  length-all_rows no_tiles = refl
  length-all_rows (more_tiles t ts) =
      omega (arith, length-append (rows t) (all_rows ts), length-rows t, length-all_rows ts)

-- ---- where a tile stands

first_tile : (t : WrittenTile) (behind : List Row)
    → slice_get (rows t ++ behind) 0 ≡ Some (row_of t)
first_tile (written own children) behind = refl

module _ (tiles : List Row) (number : ℕ) (t : WrittenTile) (s : StandsAt tiles number t) where
  pub tile_stands : tile_among tiles number ≡ Some t
  tile_stands = ap (λ rs. slice_get (trees rs) 0) s.here
      ∙ ap (λ ts. slice_get ts 0) (trees-rows t s.behind)

  pub row_stands : slice_get tiles number ≡ Some (row_of t)
  row_stands = ap (slice_get tiles) (none number) ∙ sym (slice_get-drop tiles number 0)
      ∙ ap (λ rs. slice_get rs 0) s.here ∙ first_tile t s.behind
    where
      none : (n : ℕ) → n ≡ n + 0
      none n = omega arith

  pub room_stands : number + tile_count t ≤ length tiles
  room_stands = omega (
    arith,
    some_tile t,
    length-drop number tiles,
    ap length s.here,
    length-append
        (rows t) s.behind,
    length-rows t,
  )

pub is_at : (store : Stored) (document number : ℕ) (tiles : List Row) (t : WrittenTile)
    → document_rows store document ≡ Some tiles → StandsAt tiles number t
    → tile_at store document number ≡ Some t
is_at store document number tiles t e s =
    ap (option_and_then (λ rs. tile_among rs number)) e ∙ tile_stands tiles number t s

-- ---- the children of a tile

-- those of these trees stand at this number
pub record AllStandAt (tiles : List Row) (number : ℕ) (ts : WrittenTiles) : Type 0 where
  pub behind : List Row
  pub here : drop number tiles ≡ all_rows ts ++ behind

one_past : (tiles : List Row) (number : ℕ) (r : Row) (rs : List Row)
    → drop number tiles ≡ r ∷ rs → drop (number + 1) tiles ≡ rs
one_past tiles zero r rs e = ap (drop 1) e
one_past [] (suc k) r rs e = cc
one_past (t ∷ ts) (suc k) r rs e = ap (λ j. drop j (t ∷ ts)) (next k) ∙ one_past ts k r rs e
  where
    next : (j : ℕ) → suc j + 1 ≡ suc (j + 1)
    next j = omega arith

pub children_stand : (tiles : List Row) (number : ℕ) (own : _) (children : WrittenTiles)
    → StandsAt tiles number (written own children) → AllStandAt tiles (number + 1) children
children_stand tiles number own children s = record {
  behind = s.behind;
  here = one_past tiles number (row_of (written own children))
      (all_rows children ++ s.behind) s.here;
}

pub first_stands : (tiles : List Row) (number : ℕ) (t : WrittenTile) (ts : WrittenTiles)
    → AllStandAt tiles number (more_tiles t ts) → StandsAt tiles number t
first_stands tiles number t ts s = record {
  behind = all_rows ts ++ s.behind;
  here = s.here ∙ append_assoc (rows t) (all_rows ts) s.behind;
}

drop_more : (tiles : List Row) (number : ℕ) (front rest : List Row)
    → drop number tiles ≡ front ++ rest → drop (number + length front) tiles ≡ rest
drop_more tiles number [] rest e = ap (λ j. drop j tiles) (none number) ∙ e
  where
    none : (n : ℕ) → n + 0 ≡ n
    none n = omega arith
drop_more tiles number (r ∷ front) rest e =
    ap (λ j. drop j tiles) (one (length front))
    ∙ drop_more tiles (number + 1) front rest (one_past tiles number r (front ++ rest) e)
  where
    one : (n : ℕ) → number + suc n ≡ number + 1 + n
    one n = omega arith

pub rest_stands : (tiles : List Row) (number : ℕ) (t : WrittenTile) (ts : WrittenTiles)
    → AllStandAt tiles number (more_tiles t ts) → AllStandAt tiles (number + tile_count t) ts
rest_stands tiles number t ts s = record {
  behind = s.behind;
  here = ap (λ k. drop (number + k) tiles) (sym (length-rows t))
      ∙ drop_more tiles number (rows t) (all_rows ts ++ s.behind)
      (s.here ∙ append_assoc (rows t) (all_rows ts) s.behind);
}

-- ---- the root of a document

pub root_stands : (t : WrittenTile) → StandsAt (rows t) 0 t
root_stands t = record { behind = []; here = sym (append-nil (rows t)) }

-- ---- what is read of a document

read_rows : (o : Option (List Row)) (tiles rs : List Row) → o ≡ Some tiles → o ≡ Some rs
    → rs ≡ tiles
read_rows o tiles rs e f = let same : Some rs ≡ Some tiles = sym f ∙ e in cc

module _ (store : Stored) (document number : ℕ) (tiles : List Row)
    (at : IsTileAt store document number) (read : document_rows store document ≡ Some tiles) where
  pub same_rows : at.tiles ≡ tiles
  same_rows = read_rows (document_rows store document) tiles at.tiles read at.read

  pub stands_in : StandsAt tiles number at.tree
  stands_in = subst (λ rs. StandsAt rs number at.tree) same_rows at.stands

  pub row_within : number < length tiles
  row_within = omega (arith, some_tile at.tree, room_stands tiles number at.tree stands_in)

  pub read_row : (row : Row) → slice_get tiles number ≡ Some row
      → HasRow store document number row
  read_row row e = record {
    tree = at.tree;
    at = is_at store document number tiles at.tree read stands_in;
    row_is = same row (sym e ∙ row_stands tiles number at.tree stands_in);
  }
    where
      same : (r : Row) → Some r ≡ Some (row_of at.tree) → r ≡ row_of at.tree
      same r f = cc

-- ---- a tile in a list

module _ (tiles : List Row) (number : ℕ) (t : WrittenTile) (s : StandsAt tiles number t) where
  pub within_stands : number < length tiles
  within_stands = omega (arith, some_tile t, room_stands tiles number t s)

  pub room_row : (row : Row) → slice_get tiles number ≡ Some row → number + row.size ≤ length tiles
  room_row row e =
      omega (arith, room_stands tiles number t s, same row (sym e ∙ row_stands tiles number t s))
    where
      of_tile : (u : WrittenTile) → (row_of u).size ≡ tile_count u
      of_tile (written own children) = refl

      same : (r : Row) → Some r ≡ Some (row_of t) → r.size ≡ tile_count t
      same r f = let is : r ≡ row_of t = cc in ap (λ (q : Row). q.size) is ∙ of_tile t

-- ---- whole documents

first_row : (root : WrittenTile) → slice_get (rows root) 0 ≡ Some (row_of root)
first_row (written own children) = refl

pub row_size : (t : WrittenTile) → (row_of t).size ≡ tile_count t
row_size (written own children) = refl

-- the first tile's tree has all tiles
pub whole_count : (tiles : List Row) (row : Row) → IsDocument tiles → slice_get tiles 0 ≡ Some row
    → row.size ≡ length tiles
whole_count tiles row d e =
    let first : Some row ≡ Some (row_of d.root) = sym e ∙ ap (λ rs. slice_get rs 0) d.whole
    ∙ first_row d.root in
    let same : row ≡ row_of d.root = cc in
    ap (λ (r : Row). r.size) same ∙ row_size d.root ∙ sym (ap length d.whole ∙ length-rows d.root)

pub some_tiles : (tiles : List Row) → IsDocument tiles → 0 < length tiles
some_tiles tiles d = omega (arith, ap length d.whole, length-rows d.root, some_tile d.root)

pub is_document : (store : Stored) (document : ℕ) (tiles : List Row)
    → document_rows store document ≡ Some tiles → IsDocument tiles
is_document store document tiles e = by_loaded (slice_get store.loaded document) e
  where
    by_tree : (o : Option WrittenTile) → option_map rows o ≡ Some tiles → IsDocument tiles
    by_tree None h = cc
    by_tree (Some root) h =
        record { root = root; whole = let same : tiles ≡ rows root = cc in same }

    by_kind : (b : Bool) (l : Loaded)
        → (if b then rows_in l.key.address l.bytes else None) ≡ Some tiles → IsDocument tiles
    by_kind true l h = by_tree (tileset_in l.key.address l.bytes) h
    by_kind false l h = cc

    by_loaded : (o : Option Loaded) → option_and_then rows_of o ≡ Some tiles → IsDocument tiles
    by_loaded None h = cc
    by_loaded (Some l) h = by_kind (is_tileset l.key) l h
