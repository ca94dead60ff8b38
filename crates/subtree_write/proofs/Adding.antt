-- Rows of bits are added one after another.
use Rattle.std.proofs.Common.{◌≡◌, ℕ, suc, ◌+◌, Bool, not, true, false, List, [], ◌∷◌, ◌++◌, length, refl, sym, ◌∙◌, ap, append_assoc, append-nil, length-append, add-zero, arith}
use Rattle.std.specs.List.{flat_map}
use Rattle.std.proofs.lemmas.Grind.{flat_map-append}
use Rattle.std.proofs.lemmas.List.Elements.{filter-append}
use Rattle.subtree_write.specs.Rows.{is_constant, packed, stream_bytes, streams, binary, views}
use Rattle.subtree_write.specs.StreamsSeen.{AddsRows, views_with, binary_with}
use Rattle.subtree_write.specs.declared.streams.Streams.{Streams}

pub no_stream : (s : Streams) (row : List Bool) → is_constant row ≡ true
    → AddsRows s s (row ∷ [])
unfolding binary
no_stream s row e = record {
  views = rw e (sym (append-nil s.views.items));
  binary = rw e (sym (append-nil s.binary.items));
}

pub one_stream : (old new : Streams) (row : List Bool) → is_constant row ≡ false
    → new.binary.items ≡ old.binary.items ++ stream_bytes row
    → new.views.items ≡ old.views.items
    ++ record { byte_offset = length old.binary.items; byte_length = length (packed row) } ∷ []
    → AddsRows old new (row ∷ [])
unfolding binary
one_stream old new row e bytes view = record {
  views = rw e view;
  binary = rw e (bytes ∙ ap (λ xs. old.binary.items ++ xs) (sym (append-nil (stream_bytes row))));
}

-- ---- one behind the other

pub views-append : (offset : ℕ) (ss ts : List (List Bool))
    → views offset (ss ++ ts) ≡ views offset ss ++ views (offset + length (binary ss)) ts
unfolding binary
views-append offset [] ts = rw add-zero refl
views-append offset (s ∷ ss) ts =
    let bytes = stream_bytes s in
    let behind : offset + length (bytes ++ flat_map stream_bytes ss)
    ≡ offset + length bytes + length (flat_map stream_bytes ss) =
    rw (length-append bytes (flat_map stream_bytes ss)) (omega arith) in
    ap (λ vs. record { byte_offset = offset; byte_length = length (packed s) } ∷ vs)
    (views-append (offset + length bytes) ss ts ∙ rw behind refl)

pub length-views : (offset : ℕ) (ss : List (List Bool)) → length (views offset ss) ≡ length ss
length-views offset [] = refl
length-views offset (s ∷ ss) = ap suc (length-views (offset + length (stream_bytes s)) ss)

pub binary-append : (ss ts : List (List Bool)) → binary (ss ++ ts) ≡ binary ss ++ binary ts
unfolding binary
binary-append ss ts = flat_map-append stream_bytes ss ts

pub streams-append : (rows more : List (List Bool))
    → streams (rows ++ more) ≡ streams rows ++ streams more
streams-append rows more = filter-append (λ row. not (is_constant row)) rows more

pub counts-append : (rows more : List (List Bool))
    → length (streams (rows ++ more)) ≡ length (streams rows) + length (streams more)
counts-append rows more =
    ap length (streams-append rows more) ∙ length-append (streams rows) (streams more)

module _ (old new : Streams) (rows : List (List Bool)) (adds : AddsRows old new rows) where
  pub counts : length new.views.items ≡ length old.views.items + length (streams rows)
  counts =
      let own = views (length old.binary.items) (streams rows) in
      ap length adds.views ∙ length-append old.views.items own
      ∙ rw (length-views (length old.binary.items) (streams rows)) refl

  module _ (more : List (List Bool)) where
    pub views_more : views_with new more ≡ views_with old (rows ++ more)
    views_more =
        let ss = streams rows in
        let ts = streams more in
        let start = length old.binary.items in
        let long : length new.binary.items ≡ start + length (binary ss) =
        ap length adds.binary ∙ length-append old.binary.items (binary ss) in
        rw (adds.views, long, streams-append rows more, views-append start ss ts)
        (append_assoc old.views.items (views start ss) (views (start + length (binary ss)) ts))

    pub binary_more : binary_with new more ≡ binary_with old (rows ++ more)
    binary_more =
        let ss = streams rows in
        let ts = streams more in
        rw (adds.binary, streams-append rows more, binary-append ss ts)
        (append_assoc old.binary.items (binary ss) (binary ts))

-- two additions
pub adds_then : (a b c : Streams) (rows more : List (List Bool)) → AddsRows a b rows
    → AddsRows b c more → AddsRows a c (rows ++ more)
adds_then a b c rows more one two = record {
  views = two.views ∙ views_more a b rows one more;
  binary = two.binary ∙ binary_more a b rows one more;
}

-- nothing is left to add
pub adds_all : (old new : Streams) (rows : List (List Bool))
    → views_with new [] ≡ views_with old rows → binary_with new [] ≡ binary_with old rows
    → AddsRows old new rows
unfolding binary
adds_all old new rows views bytes = record {
  views = sym (append-nil new.views.items) ∙ views;
  binary = sym (append-nil new.binary.items) ∙ bytes;
}

pub none_left : (old new : Streams) (rows rest : List (List Bool)) → length rest ≡ 0
    → views_with new rest ≡ views_with old rows → binary_with new rest ≡ binary_with old rows
    → AddsRows old new rows
none_left old new rows [] none views bytes = adds_all old new rows views bytes
none_left old new rows (row ∷ rest) none views bytes = absurd (omega arith)

pub none_added : (s : Streams) (rows : List (List Bool)) → length rows ≡ 0 → AddsRows s s rows
none_added s [] none = none_left s s [] [] refl refl refl
none_added s (row ∷ rows) none = absurd (omega arith)

-- the first row, and those behind it
pub adds_first : (a b c : Streams) (rows : List (List Bool)) (row : List Bool)
    (more : List (List Bool)) → rows ≡ row ∷ more → AddsRows a b (row ∷ []) → AddsRows b c more
    → AddsRows a c rows
adds_first a b c rows row more split one two = rw split (adds_then a b c (row ∷ []) more one two)

-- where there was no stream before
pub counts_all : (old new : Streams) (rows : List (List Bool)) → old.views.items ≡ []
    → AddsRows old new rows → length new.views.items ≡ length (streams rows)
counts_all old new rows none adds =
    let first : length old.views.items ≡ 0 = ap length none in
    omega (arith, counts old new rows adds)

module _ (old new : Streams) (rows : List (List Bool)) (no_views : old.views.items ≡ [])
    (no_bytes : old.binary.items ≡ []) (adds : AddsRows old new rows) where
  pub fresh_views : new.views.items ≡ views 0 (streams rows)
  fresh_views = adds.views ∙ rw (no_views, no_bytes) refl

  pub fresh_binary : new.binary.items ≡ binary (streams rows)
  fresh_binary = adds.binary ∙ rw no_bytes refl
