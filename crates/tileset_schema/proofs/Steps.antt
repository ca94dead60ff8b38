-- The steps of a tile, one after another, with the children by their values.
use Rattle.std.proofs.Common.{◌≡◌, ℕ, ◌+◌, ◌<◌, nat_lt, List, [], ◌∷◌, ◌++◌, Result, Option, Some, None, Ok, Err, Bool, true, false, not, ◌&&◌, ◌||◌, if◌then◌else◌, bytes_eq, codes, arith, refl, ap, sym, ◌∙◌}
use Rattle.std.specs.Option.{is_some}
use Rattle.json_decimal.specs.JsonValue.{JsonValue, Pairs, null, truth, number, words, list, object, no_pairs, pair, values, list_of, pairs_of, last_of, later, values-list_of}
use Rattle.json_decimal.specs.Parts.{members_of}
use Rattle.json_decimal.specs.declared.json_items.JsonItems.{JsonItems}
use Rattle.tileset_schema.specs.Added.{AddsOne, alone, child_values, children_in, children_left, next_number, own_tile}
use Rattle.tileset_schema.specs.Causes.{Read, ◌>>=◌, or_cause, seen_by, Fails}
use Rattle.tileset_schema.specs.Parts.{Members, WrittenParts, parts}
use Rattle.tileset_schema.specs.Preorder.{Row}
use Rattle.tileset_schema.specs.Tiles.{WrittenTile, WrittenTiles, written, tile, children, listed, tiles, may_have, one_more, has_member}
use Rattle.tileset_schema.specs.declared.limits.TheConstants.{TILE_LIMIT}
use Rattle.tileset_schema.specs.declared.error.DocumentError.{DocumentError}
use Rattle.tileset_schema.specs.declared.error.DocumentError.TheVariants as cause
use Rattle.tileset_schema.specs.declared.field.Field.TheVariants.{Tile as TileField}
use Rattle.tileset_schema.proofs.Chains.{fails_first, fails_is, fails_same}

-- ---- the last member of a name

has-last : (name : List ℕ) (ms : Pairs)
    → has_member name ms ≡ is_some (last_of name (pairs_of ms))
has-last name no_pairs = refl
has-last name (pair key v ms) = ap (λ has. bytes_eq key name || has) (has-last name ms) ∙ go
    (bytes_eq key name) (last_of name (pairs_of ms))
  where
    go : (b : Bool) (o : Option JsonValue)
        → (b || is_some o) ≡ is_some (later o (if b then Some v else None))
    go true None = refl
    go true (Some w) = refl
    go false None = refl
    go false (Some w) = refl

-- ---- the children by their values

regroup : {A B C : Type 0} (r : Read A) (f : A → Read B) (g : B → Read C)
    → ((r >>= f) >>= g) ≡ (r >>= λ x. f x >>= g)
regroup (Ok x) f g = refl
regroup (Err e) f g = refl

-- the children that the value of `children` stands for
abbrev pub below : List ℕ → ℕ → Option JsonValue → Option JsonValue → Read WrittenTiles
below base n tiling value = child_values n tiling value >>= λ vs. tiles base (n + 1) (values vs)

listed-values : (base : List ℕ) (n : ℕ) (tiling : Option JsonValue) (v : JsonValue)
    → listed base n tiling v ≡ below base n tiling (Some v)
listed-values base n tiling null = refl
listed-values base n tiling (truth b) = refl
listed-values base n tiling (number s) = refl
listed-values base n tiling (words s) = refl
listed-values base n tiling (list vs) = go (may_have n tiling (list_of vs))
  where
    go : (r : Read (Unit {0}))
        → (r >>= λ u. tiles base (n + 1) vs)
        ≡ ((r >>= λ u. Ok (list_of vs)) >>= λ us. tiles base (n + 1) (values us))
    go (Ok u) = ap (tiles base (n + 1)) (sym (values-list_of vs))
    go (Err e) = refl
listed-values base n tiling (object ms) = refl

children-values : (base : List ℕ) (n : ℕ) (tiling : Option JsonValue) (ms : Pairs)
    → children base n tiling ms
    ≡ below base n tiling (last_of (codes "children") (pairs_of ms))
children-values base n tiling no_pairs = refl
children-values base n tiling (pair key v ms) =
    ap by_behind (has-last (codes "children") ms)
    ∙ go (bytes_eq key (codes "children")) (last_of (codes "children") (pairs_of ms))
    (children-values base n tiling ms)
  where
    by_behind : Bool → Read WrittenTiles
    by_behind has =
        if bytes_eq key (codes "children") && not has then listed base n tiling v
        else children base n tiling ms

    go : (b : Bool) (o : Option JsonValue) → children base n tiling ms ≡ below base n tiling o
        → (if b && not (is_some o) then listed base n tiling v else children base n tiling ms)
        ≡ below base n tiling (later o (if b then Some v else None))
    go true None h = listed-values base n tiling v
    go true (Some w) h = h
    go false None h = h
    go false (Some w) h = h

-- ---- what a tile says is read first, and then its children

-- the tile, by what it says and the values of its children
abbrev with_children : List ℕ → ℕ → WrittenParts × List JsonValue → Read WrittenTile
with_children base n own = tiles base (n + 1) (values own.1) >>= λ ts. Ok (written own.0 ts)

module _ (base : List ℕ) (n : ℕ) where
  no_tile : (r : Read (Unit {0})) (e : DocumentError)
      → (r >>= λ u. Err e) ≡ ((r >>= λ u. Err e) >>= with_children base n)
  no_tile (Ok u) e = refl
  no_tile (Err f) e = refl

  regrouped : (r : Read (Unit {0})) (p : Read WrittenParts) (k : Read (List JsonValue))
      → (r >>= λ u. p >>= λ own. (k >>= λ vs. tiles base (n + 1) (values vs))
      >>= λ ts. Ok (written own ts))
      ≡ ((r >>= λ u. p >>= λ own. k >>= λ vs. Ok (own, vs)) >>= with_children base n)
  regrouped (Ok u) (Ok own) (Ok vs) = refl
  regrouped (Ok u) (Ok own) (Err e) = refl
  regrouped (Ok u) (Err e) k = refl
  regrouped (Err e) p k = refl

  tile-own : (v : JsonValue) → tile base n v ≡ (own_tile base n v >>= with_children base n)
  tile-own null = no_tile (one_more n) _
  tile-own (truth b) = no_tile (one_more n) _
  tile-own (number s) = no_tile (one_more n) _
  tile-own (words s) = no_tile (one_more n) _
  tile-own (list vs) = no_tile (one_more n) _
  tile-own (object pairs) =
      let ms = pairs_of pairs in
      ap (λ kids. one_more n >>= λ u. parts base n ms >>= λ own. kids >>= λ ts. Ok (written own ts))
      (children-values base n (last_of (codes "implicitTiling") ms) pairs)
      ∙ regrouped (one_more n) (parts base n ms) (children_in n ms)

module _ (base : List ℕ) (n : ℕ) (v : JsonValue) where
  pub own_fails : (e : DocumentError) → Fails e (own_tile base n v) → Fails e (tile base n v)
  own_fails e h =
      fails_same e _ _ (sym (tile-own base n v)) (fails_first e (own_tile base n v) _ h)

  module _ (own : WrittenParts) (vs : List JsonValue)
      (read : own_tile base n v ≡ Ok (own, vs)) where
    below_own : tile base n v ≡ with_children base n (own, vs)
    below_own = tile-own base n v ∙ rw read refl

    pub below_fails : (e : DocumentError) → Fails e (tiles base (n + 1) (values vs))
        → Fails e (tile base n v)
    below_fails e h =
        fails_same e _ _ (sym below_own) (fails_first e (tiles base (n + 1) (values vs)) _ h)

    pub whole : (ts : WrittenTiles) → tiles base (n + 1) (values vs) ≡ Ok ts
        → tile base n v ≡ Ok (written own ts)
    whole ts h = below_own ∙ rw h refl

-- ---- the next number

pub next_is : (n k : ℕ) → Ok k ≡ next_number n → (k ≡ n) × (n < TILE_LIMIT)
next_is n k h = go (nat_lt n TILE_LIMIT) refl h
  where
    go : (b : Bool) → nat_lt n TILE_LIMIT ≡ b
        → Ok k ≡ ((if b then Ok (tt {0}) else Err cause.TooManyTiles) >>= λ u. Ok n)
        → (k ≡ n) × (n < TILE_LIMIT)
    go true e h = (cc, search (e, arith))
    go false e h = cc

-- ---- a tile's own steps, one after another

-- a tile that is read stands among the first ones, and its children are values in it
pub record IsOwn (n : ℕ) (v : JsonValue) (vs : List JsonValue) : Type 0 where
  pub few : n < TILE_LIMIT
  pub members : Members
  pub are : Some members ≡ members_of v
  pub children : Ok vs ≡ children_in n members

pub own_is : (base : List ℕ) (n : ℕ) (v : JsonValue) (own : WrittenParts) (vs : List JsonValue)
    → own_tile base n v ≡ Ok (own, vs) → IsOwn n v vs
own_is base n v own vs h = go (nat_lt n TILE_LIMIT) (members_of v) refl refl h
  where
    paired : WrittenParts → List JsonValue → Read (WrittenParts × List JsonValue)
    paired p us = Ok (p, us)

    ended : (ms : Members) → n < TILE_LIMIT → Some ms ≡ members_of v
        → (p : Read WrittenParts) (k : Read (List JsonValue))
        → children_in n ms ≡ k
        → (p >>= λ q. k >>= λ us. paired q us) ≡ paired own vs → IsOwn n v vs
    ended ms few are (Err e) k same h = cc
    ended ms few are (Ok p) (Err e) same h = cc
    ended ms few are (Ok p) (Ok us) same h =
        let both : (p, us) ≡ (own, vs) = cc in
        let is : us ≡ vs = ap (λ (x : WrittenParts × List JsonValue). x.1) both in
        record { few = few; members = ms; are = are; children = sym (same ∙ ap Ok is) }

    go : (b : Bool) (o : Option Members) → nat_lt n TILE_LIMIT ≡ b → members_of v ≡ o
        → ((if b then Ok (tt {0}) else Err cause.TooManyTiles) >>= λ u.
        or_cause (cause.Shape TileField n) o >>= λ ms.
        parts base n ms >>= λ p.
        children_in n ms >>= λ us.
        paired p us) ≡ paired own vs
        → IsOwn n v vs
    go false o e k h = cc
    go true None e k h = cc
    go true (Some ms) e k h = ended ms (search (e, arith)) (sym k) (parts base n ms)
        (children_in n ms) refl h

-- where there is room for it, and it is an object of these members
module _ (base : List ℕ) (n : ℕ) (v : JsonValue) (few : n < TILE_LIMIT) (ms : Members)
    (are : Some ms ≡ members_of v) where
  with_limit : {A : Type 0} (read : Read A) → (one_more n >>= λ u. read) ≡ read
  with_limit read = go (nat_lt n TILE_LIMIT) (search (few, arith))
    where
      go : (b : Bool) → b ≡ true
          → ((if b then Ok (tt {0}) else Err cause.TooManyTiles) >>= λ u. read) ≡ read
      go true e = refl
      go false e = cc

  at_parts : own_tile base n v
      ≡ (parts base n ms >>= λ own.
      children_in n ms >>= λ vs. Ok (own, vs))
  at_parts = with_limit _ ∙ rw (← are) refl

  pub parts_fail : (e : DocumentError) → Fails e (parts base n ms) → Fails e (own_tile base n v)
  parts_fail e h = fails_same e _ _ (sym at_parts) (fails_first e (parts base n ms) _ h)

  pub own_read : (own : WrittenParts) → parts base n ms ≡ Ok own
      → own_tile base n v
      ≡ (children_in n ms >>= λ vs. Ok (own, vs))
  own_read own h = at_parts ∙ rw h refl

pub adds_one : (old new : List Row) (result : Result (Option JsonItems) DocumentError)
    (read : Read (WrittenParts × List JsonValue)) (own : WrittenParts)
    (kids : Read (List JsonValue))
    → seen_by children_left result ≡ kids → read ≡ (kids >>= λ vs. Ok (own, vs))
    → new ≡ old ++ alone own ∷ [] → AddsOne old new result read
adds_one old new (Ok items) read own kids same is added = (own, is ∙ rw (← same) refl, added)
adds_one old new (Err e) read own kids same is added = fails_is e read (is ∙ rw (← same) refl)
