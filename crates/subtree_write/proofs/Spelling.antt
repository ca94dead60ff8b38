-- The JSON chunk spells the value.
use Rattle.std.proofs.Common.{◌≡◌, ℕ, zero, suc, ◌+◌, ◌^◌, ◌<◌, ◌≤◌, if◌then◌else◌, Bool, true, false, List, [], ◌∷◌, ◌++◌, length, map, replicate, codes, decimal, Some, inl, refl, ap, sym, subst, arith, append_assoc, append-nil}
use Rattle.std.specs.List.{All, list_all}
use Rattle.std.proofs.lemmas.Fmt.{decimal_digit}
use Rattle.std.proofs.lemmas.List.Elements.{All-head, All-tail}
use Rattle.json_decimal.specs.Ascii.{colon, comma, left_square_bracket, right_square_bracket, left_curly_bracket, right_curly_bracket, space}
use Rattle.json_decimal.specs.Grammar.{IsWhitespace, IsNumber, IsValue, AreMoreValues, IsMembers}
use Rattle.json_decimal.specs.JsonValue.{JsonValue, Pairs, number, list, object, no_values, value, no_pairs, pair, values, depth, values_depth, pairs_depth}
use Rattle.json_decimal.specs.Reading.{value_in}
use Rattle.json_decimal.proofs.Complete.{value_in_complete}
use Rattle.json_decimal.proofs.Rules.{joined}
use Rattle.subtree_write.specs.Rows.{binary, first_bit, is_constant, padded, padding, streams, views}
use Rattle.subtree_write.specs.Texts.{availability_text, availability_texts, available_text, bitstream_text, constant_text, contents_text, further, json_text, list_text, storage_text, streams_of, view_text}
use Rattle.subtree_write.specs.declared.spec.SubtreeSpec.{SubtreeSpec}
use Rattle.subtree_write.specs.declared.streams.View.{View}
use Rattle.subtree_write.proofs.Adding.{counts-append}
use Rattle.subtree_write.proofs.Grammar.{is_plain, quoted, member_is, last_member, more_members, object_is, more_values, list_is}
use Rattle.subtree_write.proofs.Numerals.{decimal_is_number}
use Rattle.subtree_write.proofs.Values.{constant_value, bitstream_value, availability_value, availability_values, view_value, buffer_value, storage_pairs, contents_pairs, child_pairs, available_pairs, all_pairs, json_value}

-- ---- numbers

digit_is : (n : ℕ) → n < 10 → IsNumber ((48 + n) ∷ [])
digit_is n h = subst IsNumber (decimal_digit n h) (decimal_is_number n (omega arith))

-- an object of one number
one_number : (name text : List ℕ) → list_all is_plain name ≡ true → IsNumber text
    → IsValue (object (pair name (number text) no_pairs))
    (left_curly_bracket ∷ ((quoted name ++ colon ∷ text) ++ right_curly_bracket ∷ []))
one_number name text plain is =
    object_is (pair name (number text) no_pairs) (quoted name ++ colon ∷ text)
    (last_member name (number text) (quoted name ++ colon ∷ text)
    (member_is name (number text) text plain (refl, is)))

-- ---- availabilities

constant_is : (bit : Bool) → IsValue (constant_value bit) (constant_text bit)
constant_is true = one_number (codes "constant") (codes "1") refl (digit_is 1 (omega arith))
constant_is false = one_number (codes "constant") (codes "0") refl (digit_is 0 (omega arith))

bitstream_is : (n : ℕ) → n < 2 ^ 64 → IsValue (bitstream_value n) (bitstream_text n)
bitstream_is n h = one_number (codes "bitstream") (decimal n) refl (decimal_is_number n h)

availability_is : (n : ℕ) (row : List Bool) → n < 2 ^ 64
    → IsValue (availability_value n row) (availability_text n row)
availability_is n row h = go (is_constant row)
  where
    go : (b : Bool)
        → IsValue (if b then constant_value (first_bit row) else bitstream_value n)
        (if b then constant_text (first_bit row) else bitstream_text n)
    go true = constant_is (first_bit row)
    go false = bitstream_is n h

availabilities_are : (n : ℕ) (rows : List (List Bool)) → n + length (streams rows) < 2 ^ 64
    → AreMoreValues (values (availability_values n rows)) (further (availability_texts n rows))
availabilities_are n [] h = refl
availabilities_are n (row ∷ rows) h =
    let next = n + length (streams (row ∷ [])) in
    let few : next + length (streams rows) < 2 ^ 64 =
    omega (arith, counts-append (row ∷ []) rows) in
    more_values (availability_value n row) (values (availability_values next rows))
    (availability_text n row) (further (availability_texts next rows))
    (availability_is n row (omega arith)) (availabilities_are next rows few)

-- ---- buffer views

-- its numbers can be written
pub record IsSmall (view : View) : Type 0 where
  pub byte_offset : view.byte_offset < 2 ^ 63
  pub byte_length : view.byte_length < 2 ^ 63

view_is : (view : View) → IsSmall view → IsValue (view_value view) (view_text view)
view_is view small =
    let o = decimal view.byte_offset in
    let n = decimal view.byte_length in
    rw (append_assoc o (codes ",\"byteLength\":") n)
    (object_is
    (pair (codes "buffer") (number (codes "0"))
    (pair (codes "byteOffset") (number o) (pair (codes "byteLength") (number n) no_pairs)))
    ((quoted (codes "buffer") ++ colon ∷ codes "0")
    ++ comma
    ∷ ((quoted (codes "byteOffset") ++ colon ∷ o)
    ++ comma ∷ (quoted (codes "byteLength") ++ colon ∷ n)))
    (more_members (codes "buffer") (codes "byteOffset") (number (codes "0")) (number o)
    (pair (codes "byteLength") (number n) no_pairs)
    (quoted (codes "buffer") ++ colon ∷ codes "0")
    ((quoted (codes "byteOffset") ++ colon ∷ o)
    ++ comma ∷ (quoted (codes "byteLength") ++ colon ∷ n))
    (member_is (codes "buffer") (number (codes "0")) (codes "0") refl
    (refl, digit_is 0 (omega arith)))
    (more_members (codes "byteOffset") (codes "byteLength") (number o) (number n) no_pairs
    (quoted (codes "byteOffset") ++ colon ∷ o) (quoted (codes "byteLength") ++ colon ∷ n)
    (member_is (codes "byteOffset") (number o) o refl
    (refl, decimal_is_number view.byte_offset (omega arith)))
    (last_member (codes "byteLength") (number n) (quoted (codes "byteLength") ++ colon ∷ n)
    (member_is (codes "byteLength") (number n) n refl
    (refl, decimal_is_number view.byte_length (omega arith)))))))

views_are : (views : List View) → All IsSmall views
    → AreMoreValues (values (map view_value views)) (further (map view_text views))
views_are [] small = refl
views_are (view ∷ views) small =
    more_values (view_value view) (values (map view_value views)) (view_text view)
    (further (map view_text views)) (view_is view (All-head IsSmall view views small))
    (views_are views (All-tail IsSmall view views small))

-- a list of them
list_of_views : (view : View) (views : List View) → All IsSmall (view ∷ views)
    → IsValue (list (values (map view_value (view ∷ views))))
    (list_text (map view_text (view ∷ views)))
list_of_views view views small =
    list_is (view_value view) (values (map view_value views)) (view_text view)
    (further (map view_text views)) (view_is view (All-head IsSmall view views small))
    (views_are views (All-tail IsSmall view views small))

-- the members of storage, put together from the left and from the right
storage_alike : (q tail s text : List ℕ)
    → (((q ++ right_curly_bracket ∷ right_square_bracket ∷ comma ∷ tail) ++ s) ++ comma ∷ [])
    ++ text
    ≡ (((q ++ right_curly_bracket ∷ []) ++ []) ++ right_square_bracket ∷ [])
    ++ comma ∷ (tail ++ (s ++ comma ∷ text))
storage_alike q tail s text = simp (append_assoc, append-nil)

-- the members of storage, and others behind them
module _ (bytes : ℕ) (few : bytes < 2 ^ 63) (name : List ℕ) (v : JsonValue) (ps : Pairs)
    (text : List ℕ) (are : IsMembers (pair name v ps) text) where
  storage_is : (views : List View) → All IsSmall views
      → IsMembers (storage_pairs views bytes (pair name v ps)) (storage_text views bytes ++ text)
  storage_is [] small = are
  storage_is (view ∷ views) small =
      let q = decimal bytes in
      let s = list_text (map view_text (view ∷ views)) in
      let own = left_curly_bracket
      ∷ ((quoted (codes "byteLength") ++ colon ∷ q) ++ right_curly_bracket ∷ []) in
      let buffers = left_square_bracket ∷ ((own ++ []) ++ right_square_bracket ∷ []) in
      let held = list (value (buffer_value bytes) no_values) in
      let seen = list (values (map view_value (view ∷ views))) in
      let one = quoted (codes "buffers") ++ colon ∷ buffers in
      let two = quoted (codes "bufferViews") ++ colon ∷ s in
      let more =
      more_members (codes "bufferViews") name seen v ps two text
      (member_is (codes "bufferViews") seen s refl (list_of_views view views small)) are in
      let whole =
      more_members (codes "buffers") (codes "bufferViews") held seen (pair name v ps) one
      (two ++ comma ∷ text)
      (member_is (codes "buffers") held buffers refl
      (list_is (buffer_value bytes) no_values own []
      (one_number (codes "byteLength") q refl (decimal_is_number bytes (omega arith))) refl))
      more in
      let same = ap (λ t. codes "\"buffers\":[{\"byteLength\":" ++ t)
      (storage_alike q (codes "\"bufferViews\":") s text) in
      subst (IsMembers (storage_pairs (view ∷ views) bytes (pair name v ps))) (sym same) whole

-- ---- the availability of all

without_contents : (t tail x : List ℕ)
    → ((t ++ []) ++ comma ∷ tail) ++ x ≡ t ++ comma ∷ (tail ++ x)
without_contents t tail x = simp (append_assoc, append-nil)

with_contents : (t front l tail x : List ℕ)
    → ((t ++ comma ∷ (front ++ l)) ++ comma ∷ tail) ++ x
    ≡ t ++ comma ∷ ((front ++ l) ++ comma ∷ (tail ++ x))
with_contents t front l tail x = simp append_assoc

module _ (tile child : JsonValue) (t x : List ℕ) (tile_is : IsValue tile t)
    (child_is : IsValue child x) where
  last : IsMembers (pair (codes "childSubtreeAvailability") child no_pairs)
      (quoted (codes "childSubtreeAvailability") ++ colon ∷ x)
  last = last_member (codes "childSubtreeAvailability") child
      (quoted (codes "childSubtreeAvailability") ++ colon ∷ x)
      (member_is (codes "childSubtreeAvailability") child x refl child_is)

  rows_are : (n : ℕ) (rows : List (List Bool)) → n + length (streams rows) < 2 ^ 64
      → IsMembers
      (pair (codes "tileAvailability") tile
      (contents_pairs n rows (pair (codes "childSubtreeAvailability") child no_pairs)))
      ((((codes "\"tileAvailability\":" ++ t) ++ contents_text n rows)
      ++ codes ",\"childSubtreeAvailability\":") ++ x)
  rows_are n [] few =
      let one = quoted (codes "tileAvailability") ++ colon ∷ t in
      let two = quoted (codes "childSubtreeAvailability") ++ colon ∷ x in
      let whole =
      more_members (codes "tileAvailability") (codes "childSubtreeAvailability") tile child
      no_pairs one two (member_is (codes "tileAvailability") tile t refl tile_is) last in
      let same = ap (λ u. codes "\"tileAvailability\":" ++ u)
      (without_contents t (codes "\"childSubtreeAvailability\":") x) in
      subst
      (IsMembers
      (pair (codes "tileAvailability") tile
      (pair (codes "childSubtreeAvailability") child no_pairs))) (sym same) whole
  rows_are n (row ∷ rows) few =
      let next = n + length (streams (row ∷ [])) in
      let fewer : next + length (streams rows) < 2 ^ 64 =
      omega (arith, counts-append (row ∷ []) rows) in
      let l = list_text (availability_texts n (row ∷ rows)) in
      let held = list (values (availability_values n (row ∷ rows))) in
      let one = quoted (codes "tileAvailability") ++ colon ∷ t in
      let two = quoted (codes "contentAvailability") ++ colon ∷ l in
      let three = quoted (codes "childSubtreeAvailability") ++ colon ∷ x in
      let listed =
      list_is (availability_value n row) (values (availability_values next rows))
      (availability_text n row) (further (availability_texts next rows))
      (availability_is n row (omega arith)) (availabilities_are next rows fewer) in
      let more =
      more_members (codes "contentAvailability") (codes "childSubtreeAvailability") held child
      no_pairs two three (member_is (codes "contentAvailability") held l refl listed) last in
      let whole =
      more_members (codes "tileAvailability") (codes "contentAvailability") tile held
      (pair (codes "childSubtreeAvailability") child no_pairs) one (two ++ comma ∷ three)
      (member_is (codes "tileAvailability") tile t refl tile_is) more in
      let same = ap (λ u. codes "\"tileAvailability\":" ++ u)
      (with_contents t (codes "\"contentAvailability\":") l
      (codes "\"childSubtreeAvailability\":") x) in
      subst
      (IsMembers
      (pair (codes "tileAvailability") tile
      (contents_pairs n (row ∷ rows) (pair (codes "childSubtreeAvailability") child no_pairs))))
      (sym same) whole

available_are : (spec : SubtreeSpec) → length (streams_of spec) < 2 ^ 63
    → IsMembers (available_pairs spec) (available_text spec)
unfolding available_text
available_are spec few =
    let n = length (streams (spec.tiles ∷ [])) in
    let m = length (streams (spec.tiles ∷ spec.contents)) in
    let all = counts-append (spec.tiles ∷ spec.contents) (spec.children ∷ []) in
    let front = counts-append (spec.tiles ∷ []) spec.contents in
    rows_are (availability_value 0 spec.tiles) (availability_value m spec.children)
    (availability_text 0 spec.tiles) (availability_text m spec.children)
    (availability_is 0 spec.tiles (omega arith)) (availability_is m spec.children (omega arith)) n
    spec.contents (omega arith)

-- ---- how deep it nests

values_shallow : (d : ℕ) (vs : List JsonValue) → All (λ v. depth v ≤ d) vs
    → values_depth (values vs) ≤ d
values_shallow d [] h = omega arith
values_shallow d (v ∷ vs) h =
    let first = All-head (λ v. depth v ≤ d) v vs h in
    let rest = values_shallow d vs (All-tail (λ v. depth v ≤ d) v vs h) in
    omega arith

availability_shallow : (n : ℕ) (row : List Bool) → depth (availability_value n row) ≤ 1
availability_shallow n row = go (is_constant row)
  where
    go : (b : Bool) → depth (if b then constant_value (first_bit row) else bitstream_value n) ≤ 1
    go true = omega arith
    go false = omega arith

availabilities_shallow : (n : ℕ) (rows : List (List Bool))
    → values_depth (values (availability_values n rows)) ≤ 1
availabilities_shallow n [] = omega arith
availabilities_shallow n (row ∷ rows) =
    let first = availability_shallow n row in
    let rest = availabilities_shallow (n + length (streams (row ∷ []))) rows in
    omega arith

views_shallow : (views : List View) → values_depth (values (map view_value views)) ≤ 1
views_shallow [] = omega arith
views_shallow (view ∷ views) = let rest = views_shallow views in omega arith

storage_shallow : (views : List View) (bytes : ℕ) (ps : Pairs) → pairs_depth ps ≤ 2
    → pairs_depth (storage_pairs views bytes ps) ≤ 2
storage_shallow [] bytes ps h = h
storage_shallow (view ∷ views) bytes ps h =
    let listed = views_shallow (view ∷ views) in omega arith

contents_shallow : (n : ℕ) (rows : List (List Bool)) (ps : Pairs) → pairs_depth ps ≤ 2
    → pairs_depth (contents_pairs n rows ps) ≤ 2
contents_shallow n [] ps h = h
contents_shallow n (row ∷ rows) ps h =
    let listed = availabilities_shallow n (row ∷ rows) in omega arith

all_shallow : (spec : SubtreeSpec) → depth (json_value spec) ≤ 3
unfolding json_value
all_shallow spec =
    let m = length (streams (spec.tiles ∷ spec.contents)) in
    let child = availability_shallow m spec.children in
    let last : pairs_depth (child_pairs spec) ≤ 2 = omega arith in
    let tile = availability_shallow 0 spec.tiles in
    let middle = contents_shallow (length (streams (spec.tiles ∷ []))) spec.contents
    (child_pairs spec) last in
    let own : pairs_depth (available_pairs spec) ≤ 2 = omega arith in
    let whole = storage_shallow (views 0 (streams_of spec)) (length (binary (streams_of spec)))
    (available_pairs spec) own in
    omega arith

-- ---- the whole

spaces : (n : ℕ) → IsWhitespace (replicate n space)
spaces zero = tt
spaces (suc n) = (refl, spaces n)

module _ (spec : SubtreeSpec) (few : length (streams_of spec) < 2 ^ 63)
    (short : length (binary (streams_of spec)) < 2 ^ 63)
    (small : All IsSmall (views 0 (streams_of spec))) where
  json_is : IsValue (json_value spec) (json_text spec)
  unfolding json_value json_text
  json_is =
      let bytes = length (binary (streams_of spec)) in
      let seen = views 0 (streams_of spec) in
      object_is (all_pairs spec) (storage_text seen bytes ++ available_text spec)
      (storage_is bytes short (codes "tileAvailability") (availability_value 0 spec.tiles)
      (contents_pairs (length (streams (spec.tiles ∷ []))) spec.contents (child_pairs spec))
      (available_text spec) (available_are spec few) seen small)

  -- the bytes of the chunk read as the value
  pub text_is : value_in (padded space (json_text spec)) ≡ Some (json_value spec)
  text_is =
      let blank = replicate (padding (length (json_text spec))) space in
      let shallow = all_shallow spec in
      value_in_complete (padded space (json_text spec)) (json_value spec) record {
        front = [];
        back = padded space (json_text spec);
        is_front = inl refl;
        is_back = record {
          text = record {
            front = [];
            back = padded space (json_text spec);
            is_front = tt;
            is_back = joined (IsValue (json_value spec)) IsWhitespace (json_text spec) blank
                json_is (spaces (padding (length (json_text spec))));
            spelled = refl;
          };
          nesting = omega arith;
        };
        spelled = refl;
      }
