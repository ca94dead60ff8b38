-- Trees one after another, and their lists.
use Rattle.std.proofs.Common.{◌≡◌, ℕ, ◌+◌, length, List, [], ◌∷◌, ◌++◌, Some, Ok, Err, arith, refl, ap, sym, ◌∙◌, append_assoc, append-nil, length-append, slice_index_or, slice_set}
use Rattle.std.proofs.Math.Seq.{set-append_seam, get_or-append_seam}
use Rattle.json_decimal.specs.JsonValue.{JsonValue, values}
use Rattle.json_decimal.specs.Parts.{split_first}
use Rattle.json_decimal.proofs.Parted.{split_some}
use Rattle.tileset_schema.specs.Causes.{Read, ◌>>=◌, Fails}
use Rattle.tileset_schema.specs.Parts.{WrittenParts}
use Rattle.tileset_schema.specs.Preorder.{Row, rows, all_rows}
use Rattle.tileset_schema.specs.Tiles.{WrittenTile, WrittenTiles, written, no_tiles, more_tiles, tile, tiles, tile_count, tiles_count}
use Rattle.tileset_schema.specs.declared.error.DocumentError.{DocumentError}
use Rattle.tileset_schema.proofs.Chains.{fails_first, fails_same}

-- ---- how many

mutual
  pub length-rows : (t : WrittenTile) → length (rows t) ≡ tile_count t
  length-rows (written own ts) = omega (arith, length-all_rows ts)

  pub length-all_rows : (ts : WrittenTiles) → length (all_rows ts) ≡ tiles_count ts
  length-all_rows no_tiles = refl
  length-all_rows (more_tiles t ts) =
      length-append (rows t) (all_rows ts) ∙ omega (arith, length-rows t, length-all_rows ts)

-- ---- trees, and then those

abbrev pub then_tiles : WrittenTiles → WrittenTiles → WrittenTiles
then_tiles no_tiles us = us
then_tiles (more_tiles t ts) us = more_tiles t (then_tiles ts us)

abbrev one : WrittenTile → WrittenTiles
one t = more_tiles t no_tiles

then-none : (ts : WrittenTiles) → then_tiles ts no_tiles ≡ ts
then-none no_tiles = refl
then-none (more_tiles t ts) = ap (more_tiles t) (then-none ts)

then-then : (ts us ws : WrittenTiles)
    → then_tiles (then_tiles ts us) ws ≡ then_tiles ts (then_tiles us ws)
then-then no_tiles us ws = refl
then-then (more_tiles t ts) us ws = ap (more_tiles t) (then-then ts us ws)

rows-then : (ts : WrittenTiles) (t : WrittenTile)
    → all_rows (then_tiles ts (one t)) ≡ all_rows ts ++ rows t
rows-then no_tiles t = append-nil (rows t)
rows-then (more_tiles u ts) t =
    ap (λ rs. rows u ++ rs) (rows-then ts t) ∙ sym (append_assoc (rows u) (all_rows ts) _)

-- ---- one tree after another

-- what was added so far: the first trees of all; the rest is still to be read
pub record GoesOn (base : List ℕ) (old now : List Row) (all rest : List JsonValue) : Type 0 where
  pub front : WrittenTiles
  pub added : now ≡ old ++ all_rows front
  pub whole : tiles base (length old) (values all)
      ≡ (tiles base (length now) (values rest) >>= λ ts. Ok (then_tiles front ts))

pub starts : (base : List ℕ) (old : List Row) (all : List JsonValue) → GoesOn base old old all all
starts base old all = record {
  front = no_tiles;
  added = sym (append-nil old);
  whole = go (tiles base (length old) (values all));
}
  where
    go : (r : Read WrittenTiles) → r ≡ (r >>= λ ts. Ok ts)
    go (Ok ts) = refl
    go (Err e) = refl

module _ (base : List ℕ) (old now : List Row) (all rest left : List JsonValue) (v : JsonValue)
    (first : Some (v, left) ≡ split_first rest) (so_far : GoesOn base old now all rest) where
  abbrev behind_front : WrittenTiles → Read WrittenTiles
  behind_front ts = Ok (then_tiles so_far.front ts)

  at_first : tiles base (length old) (values all)
      ≡ (tiles base (length now) (values (v ∷ left)) >>= behind_front)
  at_first =
      so_far.whole
      ∙ ap (λ us. tiles base (length now) (values us) >>= behind_front)
      (split_some rest left v first)

  pub goes_on : (new : List Row) (t : WrittenTile) → tile base (length now) v ≡ Ok t
      → new ≡ now ++ rows t → GoesOn base old new all left
  goes_on new t read added = record {
    front = then_tiles so_far.front (one t);
    added =
        added ∙ ap (λ rs. rs ++ rows t) so_far.added ∙ append_assoc old _ _
        ∙ ap (λ rs. old ++ rs) (sym (rows-then so_far.front t));
    whole =
        at_first
        ∙ rw read (go (tiles base (length now + tile_count t) (values left)))
        ∙ ap (λ k. tiles base k (values left) >>= behind_both) (sym long);
  }
    where
      long : length new ≡ length now + tile_count t
      long = ap length added ∙ length-append now _ ∙ ap (λ k. length now + k) (length-rows t)

      behind_both : WrittenTiles → Read WrittenTiles
      behind_both ts = Ok (then_tiles (then_tiles so_far.front (one t)) ts)

      go : (r : Read WrittenTiles)
          → ((r >>= λ ts. Ok (more_tiles t ts)) >>= behind_front) ≡ (r >>= behind_both)
      go (Ok ts) = ap Ok (sym (then-then so_far.front (one t) ts))
      go (Err e) = refl

  pub stops : (e : DocumentError) → Fails e (tile base (length now) v)
      → Fails e (tiles base (length old) (values all))
  stops e h = fails_same e _ _ (sym at_first)
      (fails_first e (tiles base (length now) (values (v ∷ left))) _
      (fails_first e (tile base (length now) v) _ h))

-- at the end, what was added is the list of all trees
pub ends : (base : List ℕ) (old now : List Row) (all : List JsonValue)
    → GoesOn base old now all []
    → (ts : WrittenTiles)
    × (tiles base (length old) (values all) ≡ Ok ts)
    × (now ≡ old ++ all_rows ts)
ends base old now all so_far =
    (so_far.front, so_far.whole ∙ ap Ok (then-none so_far.front), so_far.added)

-- ---- a tile before those below it

pub longer : (old new : List Row) (own : Row) → new ≡ old ++ own ∷ []
    → length new ≡ length old + 1
longer old new own added = ap length added ∙ length-append old (own ∷ [])

module _ (old new more : List Row) (own : Row) (n : ℕ) (count : n ≡ length old)
    (added : new ≡ (old ++ own ∷ []) ++ more) where
  seam : new ≡ old ++ own ∷ more
  seam = added ∙ append_assoc old (own ∷ []) more

  still_here : (x : Row) → x ≡ slice_index_or new n x → x ≡ own
  still_here x h =
      h ∙ ap (λ k. slice_index_or new k x) count
      ∙ ap (λ rs. slice_index_or rs (length old) x) seam
      ∙ get_or-append_seam old own more x

  set_here : (x : Row) → slice_set new n x ≡ old ++ x ∷ more
  set_here x =
      ap (λ k. slice_set new k x) count ∙ ap (λ rs. slice_set rs (length old) x) seam
      ∙ set-append_seam old own more x

row_is : (r : Row) (own : WrittenParts) (size : ℕ) → r.parts ≡ own → r.size ≡ size
    → r ≡ record { parts = own; size = size }
row_is r own size e f = rw (← e, ← f) refl

-- the list of a tile with its children, put together from what was added
pub whole_tile : (old new : List Row) (own x here : Row) (n : ℕ) (ts : WrittenTiles)
    → n ≡ length old
    → new ≡ (old ++ own ∷ []) ++ all_rows ts → here ≡ slice_index_or new n here
    → x.parts ≡ here.parts → x.size + n ≡ length new
    → slice_set new n x ≡ old ++ rows (written own.parts ts)
whole_tile old new own x here n ts count added h e long =
    set_here old new _ own n count added x
    ∙ ap (λ r. old ++ r ∷ all_rows ts)
    (row_is x own.parts (tile_count (written own.parts ts)) (e ∙ ap (λ r. r.parts) same) counted)
  where
    same : here ≡ own
    same = still_here old new _ own n count added here h

    counted : x.size ≡ tiles_count ts + 1
    counted = omega (
      arith,
      long,
      count,
      ap length added,
      length-append (old ++ own ∷ [])
          (all_rows ts),
      length-append old (own ∷ []),
      length-all_rows ts,
    )
