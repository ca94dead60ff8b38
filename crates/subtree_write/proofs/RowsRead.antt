-- Rows of bits are read as they were written.
use Rattle.std.proofs.Common.{◌≡◌, ℕ, suc, ◌+◌, ◌-◌, ◌^◌, ◌<◌, ◌≤◌, ◌&&◌, nat_le, Bool, true, false, if◌then◌else◌, List, [], ◌∷◌, ◌++◌, length, map, replicate, slice_range, slice_get, Some, Ok, refl, ap, ◌∙◌, subst, arith, append_assoc, append-nil, length-append}
use Rattle.std.specs.Bool.{beq}
use Rattle.std.specs.Int.{div_ceil}
use Rattle.std.specs.List.{All, list_all}
use Rattle.std.proofs.Math.Seq.{take-append_seam, drop-append_seam}
use Rattle.std.proofs.lemmas.Bool.Decides.{nat_tests}
use Rattle.std.proofs.lemmas.List.{length-map, map-append, take_all}
use Rattle.std.proofs.lemmas.List.Elements.{All-head, All-tail}
use Rattle.json_decimal.specs.JsonValue.{list_of-values}
use Rattle.subtree_binary.specs.Availability.{Storage, bits, contents_at, entries, in_range, long_enough, view_bits, with_absent}
use Rattle.subtree_binary.specs.Causes.{each}
use Rattle.subtree_binary.specs.declared.error.SubtreeField.{SubtreeField}
use Rattle.subtree_binary.specs.declared.error.SubtreeField.TheVariants.{ContentAvailability}
use Rattle.subtree_binary.specs.declared.views.View as read
use Rattle.subtree_write.specs.Rows.{binary, first_bit, is_constant, packed, padding, streams, views}
use Rattle.subtree_write.proofs.Adding.{streams-append, views-append, binary-append, length-views, counts-append}
use Rattle.subtree_write.proofs.Looked.{contents_value}
use Rattle.subtree_write.proofs.Numerals.{natural_is}
use Rattle.subtree_write.proofs.Packs.{length-packed}
use Rattle.subtree_write.proofs.Stored.{stored_view, stored_buffer}
use Rattle.subtree_write.proofs.Unpacked.{bits_are}
use Rattle.subtree_write.proofs.Values.{constant_value, bitstream_value, availability_value, availability_values}

-- the streams of the rows are held, and before and behind them there are others
pub record IsAround (storage : Storage) (n o : ℕ) (rows : List (List Bool)) : Type 0 where
  pub views_before : List read.View
  pub views_behind : List read.View
  pub views : storage.views
      ≡ views_before ++ (map stored_view (views o (streams rows)) ++ views_behind)
  pub number : length views_before ≡ n
  pub bytes_before : List ℕ
  pub bytes_behind : List ℕ
  pub binary : storage.binary ≡ bytes_before ++ (binary (streams rows) ++ bytes_behind)
  pub offset : length bytes_before ≡ o
  pub buffer : 0 < length storage.views
      → slice_get storage.buffers 0 ≡ Some (stored_buffer (length storage.binary))

module _ (storage : Storage) (n o : ℕ) (rows more : List (List Bool))
    (around : IsAround storage n o (rows ++ more)) where
  abbrev own : List read.View
  own = map stored_view (views o (streams rows))

  abbrev next : ℕ
  next = o + length (binary (streams rows))

  abbrev others : List read.View
  others = map stored_view (views next (streams more))

  views_are : map stored_view (views o (streams (rows ++ more))) ≡ own ++ others
  views_are = rw (streams-append rows more, views-append o (streams rows) (streams more))
      (map-append stored_view (views o (streams rows)) (views next (streams more)))

  bytes_are : binary (streams (rows ++ more)) ≡ binary (streams rows) ++ binary (streams more)
  bytes_are = ap binary (streams-append rows more) ∙ binary-append (streams rows) (streams more)

  pub around_front : IsAround storage n o rows
  around_front = record {
    views_before = around.views_before;
    views_behind = others ++ around.views_behind;
    views = around.views
        ∙ rw views_are
        (ap (λ vs. around.views_before ++ vs) (append_assoc own others around.views_behind));
    number = around.number;
    bytes_before = around.bytes_before;
    bytes_behind = binary (streams more) ++ around.bytes_behind;
    binary = around.binary
        ∙ rw bytes_are
        (ap (λ bs. around.bytes_before ++ bs)
        (append_assoc (binary (streams rows)) (binary (streams more)) around.bytes_behind));
    offset = around.offset;
    buffer = around.buffer;
  }

  pub around_back : IsAround storage (n + length (streams rows)) next more
  around_back = record {
    views_before = around.views_before ++ own;
    views_behind = around.views_behind;
    views = around.views ∙ rw views_are (simp append_assoc);
    number =
        let long = length-append around.views_before own in
        let same = length-map (views o (streams rows)) stored_view in
        let count = length-views o (streams rows) in
        omega (arith, around.number);
    bytes_before = around.bytes_before ++ binary (streams rows);
    bytes_behind = around.bytes_behind;
    binary = around.binary ∙ rw bytes_are (simp append_assoc);
    offset =
        let long = length-append around.bytes_before (binary (streams rows)) in
        omega (arith, around.offset);
    buffer = around.buffer;
  }

-- ---- bits that are all the same

same_bit : (b c : Bool) → beq b c ≡ true → b ≡ c
same_bit true true h = refl
same_bit false false h = refl
same_bit true false h = cc
same_bit false true h = cc

both : (a b : Bool) → (a && b) ≡ true → (a ≡ true) × (b ≡ true)
both true b h = (refl, h)
both false b h = cc

repeated : (b : Bool) (bits : List Bool) → list_all (beq b) bits ≡ true
    → replicate (length bits) b ≡ bits
repeated b [] h = refl
repeated b (c ∷ bits) h =
    let parts = both (beq b c) (list_all (beq b) bits) h in
    rw (same_bit b c parts.0) (ap (λ (xs : List Bool). c ∷ xs)
    (subst (λ d. replicate (length bits) d ≡ bits) (same_bit b c parts.0)
    (repeated b bits parts.1)))

constant_is : (storage : Storage) (field : SubtreeField) (count : ℕ) (bit : Bool)
    → bits storage field count (constant_value bit) ≡ Ok (replicate count bit)
constant_is storage field count true = refl
constant_is storage field count false = refl

-- ---- bits of a stream

at_place : {A : Type 0} (front : List A) (x : A) (back : List A)
    → slice_get (front ++ x ∷ back) (length front) ≡ Some x
at_place [] x back = refl
at_place (y ∷ front) x back = at_place front x back

stretch : (front middle back whole : List ℕ) (start : ℕ)
    → whole ≡ front ++ (middle ++ back) → length front ≡ start
    → slice_range whole start (start + length middle) ≡ middle
stretch front middle back whole start is place =
    let count : start + length middle - start ≡ length middle = omega arith in
    rw (count, is, ← place, drop-append_seam front (middle ++ back))
    (take-append_seam middle back)

within : (view : read.View) (n m : ℕ) → view.byte_offset + view.byte_length ≤ n
    → view.byte_offset + view.byte_length ≤ m → in_range view n m ≡ Ok tt
within view n m h k =
    let first : nat_le (view.byte_offset + view.byte_length) n ≡ true = grind (arith, nat_tests) in
    let second : nat_le (view.byte_offset + view.byte_length) m ≡ true =
    grind (arith, nat_tests) in
    rw (first, second) refl

enough : (view : read.View) (count : ℕ) → div_ceil count 8 ≤ view.byte_length
    → long_enough view count ≡ Ok tt
enough view count h =
    let yes : nat_le (div_ceil count 8) view.byte_length ≡ true = grind (arith, nat_tests) in
    rw yes refl

-- ---- one row

module _ (storage : Storage) (n o : ℕ) (row : List Bool)
    (around : IsAround storage n o (row ∷ [])) (mixed : is_constant row ≡ false) where
  abbrev stretch_of : read.View
  stretch_of = record { buffer = 0; byte_offset = o; byte_length = length (packed row) }

  seen : storage.views ≡ around.views_before ++ stretch_of ∷ around.views_behind
  seen = around.views ∙ rw mixed refl

  held : storage.binary
      ≡ around.bytes_before ++ (packed row
      ++ (replicate (padding (length (packed row))) 0 ++ around.bytes_behind))
  unfolding binary
  held = around.binary ∙ rw mixed (simp (append_assoc, append-nil))

  at_number : slice_get storage.views n ≡ Some stretch_of
  at_number = rw (seen, ← around.number)
      (at_place around.views_before stretch_of around.views_behind)

  some_views : 0 < length storage.views
  some_views =
      let long = ap length seen in
      let more = length-append around.views_before (stretch_of ∷ around.views_behind) in
      omega arith

  long_binary : o + length (packed row) ≤ length storage.binary
  long_binary =
      let rest = replicate (padding (length (packed row))) 0 ++ around.bytes_behind in
      let long = ap length held in
      let more = length-append around.bytes_before (packed row ++ rest) in
      let less = length-append (packed row) rest in
      omega (arith, around.offset)

  of_view : view_bits storage (length row) stretch_of ≡ Ok row
  of_view =
      let rest = replicate (padding (length (packed row))) 0 ++ around.bytes_behind in
      let range = within stretch_of (length storage.binary) (length storage.binary) long_binary
      long_binary in
      let own_bytes = stretch around.bytes_before (packed row) rest storage.binary o held
      around.offset in
      let long = enough stretch_of (length row) (rw (length-packed row) (omega arith)) in
      rw (around.buffer some_views, range, long, own_bytes, bits_are row) refl

module _ (storage : Storage) (n o count : ℕ) (row : List Bool) (few : n < 2 ^ 63)
    (around : IsAround storage n o (row ∷ [])) (long : length row ≡ count) where
  pub row_is : (field : SubtreeField)
      → bits storage field count (availability_value n row) ≡ Ok row
  row_is field = go (is_constant row) refl
    where
      go : (b : Bool) → is_constant row ≡ b
          → bits storage field count
          (if b then constant_value (first_bit row) else bitstream_value n) ≡ Ok row
      go true e =
          constant_is storage field count (first_bit row)
          ∙ ap Ok (rw (← long) (repeated (first_bit row) row e))
      go false e = rw (natural_is n few, at_number storage n o row around e, ← long)
          (of_view storage n o row around e)

-- ---- the rows of contents

module _ (storage : Storage) (count : ℕ) where
  rows_are : (n o : ℕ) (rows : List (List Bool)) → n + length (streams rows) < 2 ^ 63
      → IsAround storage n o rows → All (λ row. length row ≡ count) rows
      → each (bits storage ContentAvailability count) (availability_values n rows) ≡ Ok rows
  rows_are n o [] few around long = refl
  rows_are n o (row ∷ rows) few around long =
      let all = counts-append (row ∷ []) rows in
      let first = around_front storage n o (row ∷ []) rows around in
      let behind = around_back storage n o (row ∷ []) rows around in
      let Full = λ (row : List Bool). length row ≡ count in
      let one = row_is storage n o count row (omega arith) first (All-head Full row rows long)
      ContentAvailability in
      let rest = rows_are (n + length (streams (row ∷ [])))
      (o + length (binary (streams (row ∷ [])))) rows (omega arith) behind
      (All-tail Full row rows long) in
      rw (one, rest) refl

  length-values : (n : ℕ) (rows : List (List Bool))
      → length (availability_values n rows) ≡ length rows
  length-values n [] = refl
  length-values n (row ∷ rows) = ap suc (length-values (n + length (streams (row ∷ []))) rows)

  entries_are : (n : ℕ) (rows : List (List Bool))
      → entries (contents_value n rows) ≡ Ok (availability_values n rows)
  entries_are n [] = refl
  entries_are n (row ∷ rows) = ap Ok (list_of-values (availability_values n (row ∷ rows)))

  nothing_absent : (rows : List (List Bool)) → with_absent count (length rows) rows ≡ rows
  nothing_absent rows =
      let none : length rows - length rows ≡ 0 = omega arith in rw none (append-nil rows)

  pub contents_are : (n o : ℕ) (rows : List (List Bool)) → n + length (streams rows) < 2 ^ 63
      → IsAround storage n o rows → All (λ row. length row ≡ count) rows
      → contents_at storage count (length rows) (contents_value n rows) ≡ Ok rows
  contents_are n o rows few around long =
      let all = take_all (length rows) (availability_values n rows)
      (rw (length-values n rows) (omega arith)) in
      rw (entries_are n rows, all, rows_are n o rows few around long, nothing_absent rows) refl
