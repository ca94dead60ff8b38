-- A subtree that is read has as many bits as it has to have.
use Rattle.std.proofs.Common.{◌≡◌, ℕ, suc, ◌-◌, ◌≤◌, Bool, false, List, [], ◌∷◌, length, take, replicate, Option, Ok, refl, ap, sym, ◌∙◌, subst, arith, codes, length-append}
use Rattle.std.specs.List.{All}
use Rattle.std.proofs.lemmas.List.{length-replicate, length-take}
use Rattle.std.proofs.lemmas.List.Elements.{All-nil, All-cons, All-append, All-replicate}
use Rattle.std.proofs.lemmas.List.FromFn.{length-map-range_with_len}
use Rattle.avail_bits.specs.Bitstreams.{bit_of, bits_of}
use Rattle.json_decimal.specs.JsonValue.{JsonValue, last_of}
use Rattle.json_decimal.specs.Parts.{members_of}
use Rattle.json_decimal.specs.Reading.{value_in}
use Rattle.subtree_binary.specs.Availability.{Storage, Members, availability, bits, bits_by, bits_at, entries, contents_at, internal_length, in_range, long_enough, view_bytes, view_bits, with_absent}
use Rattle.subtree_binary.specs.Causes.{or_cause, each}
use Rattle.subtree_binary.specs.Counts.{tile_count, child_count}
use Rattle.subtree_binary.specs.Reading.{available, in_chunks}
use Rattle.subtree_binary.specs.Reading.{storage as storage_of}
use Rattle.subtree_binary.specs.Subtrees.{SubtreeParts, HasCounts}
use Rattle.subtree_binary.specs.declared.availability.Availability.{Availability}
use Rattle.subtree_binary.specs.declared.availability.Availability.TheVariants.{Constant, Bitstream}
use Rattle.subtree_binary.specs.declared.error.SubtreeError.TheVariants.{NotJson, Shape}
use Rattle.subtree_binary.specs.declared.error.SubtreeField.{SubtreeField}
use Rattle.subtree_binary.specs.declared.error.SubtreeField.TheVariants.{Top, TileAvailability, ContentAvailability, ChildAvailability}
use Rattle.subtree_binary.specs.declared.header.Chunks.{Chunks}
use Rattle.subtree_binary.specs.declared.views.View.{View}
use Rattle.subtree_binary.proofs.Chains.{then_ok}

length-bits_of : (bytes : List ℕ) (count : ℕ) → length (bits_of bytes count) ≡ count
unfolding bits_of
length-bits_of bytes count = length-map-range_with_len (bit_of bytes) 0 count

module _ (storage : Storage) (count : ℕ) where
  of_view : (view : View) (xs : List Bool) → view_bits storage count view ≡ Ok xs
      → length xs ≡ count
  of_view view xs h = then_ok (internal_length storage.buffers view) _ xs h
      λ buffer e h. then_ok (in_range view buffer (length storage.binary)) _ xs h
      λ u e h. then_ok (long_enough view count) _ xs h
      λ u e h.
      let bytes = view_bytes view storage.binary in
      let same : bits_of bytes count ≡ xs = cc in
      ap length (sym same) ∙ length-bits_of bytes count

  by : (a : Availability) (xs : List Bool) → bits_by storage count a ≡ Ok xs → length xs ≡ count
  by (Constant value) xs h =
      let same : replicate count value ≡ xs = cc in
      ap length (sym same) ∙ length-replicate count value
  by (Bitstream view) xs h = of_view view xs h

  of_value : (field : SubtreeField) (v : JsonValue) (xs : List Bool)
      → bits storage field count v ≡ Ok xs → length xs ≡ count
  of_value field v xs h = then_ok (availability field storage.views v) _ xs h λ a e h. by a xs h

  of_member : (field : SubtreeField) (value : Option JsonValue) (xs : List Bool)
      → bits_at storage field count value ≡ Ok xs → length xs ≡ count
  of_member field value xs h =
      then_ok (or_cause (Shape field) value) _ xs h λ v e h. of_value field v xs h

  -- ---- contents

  abbrev Full : List Bool → Type 0
  Full xs = length xs ≡ count

  each_of : (vs : List JsonValue) (all : List (List Bool))
      → each (bits storage ContentAvailability count) vs ≡ Ok all
      → (length all ≡ length vs) × All Full all
  each_of [] all h = let same : [] ≡ all = cc in rw (← same) (refl, All-nil Full)
  each_of (v ∷ vs) all h =
      then_ok (bits storage ContentAvailability count v) _ all h
      λ xs e h. then_ok (each (bits storage ContentAvailability count) vs) _ all h
      λ rest f h.
      let same : xs ∷ rest ≡ all = cc in
      let below = each_of vs rest f in
      rw (← same)
      (ap suc below.0, All-cons Full xs rest (of_value ContentAvailability v xs e) below.1)

  filled : (contents : ℕ) (given : List (List Bool)) → length given ≤ contents → All Full given
      → (length (with_absent count contents given) ≡ contents)
      × All Full (with_absent count contents given)
  filled contents given few h =
      let more = contents - length given in
      let none = replicate count false in
      let long : length (replicate more none) ≡ more = length-replicate more none in (
        length-append given (replicate more none) ∙ omega arith,
        All-append Full given (replicate more none) h
            (All-replicate Full more none (length-replicate count false)),
      )

  of_contents : (contents : ℕ) (value : Option JsonValue) (all : List (List Bool))
      → contents_at storage count contents value ≡ Ok all
      → (length all ≡ contents) × All Full all
  of_contents contents value all h = then_ok (entries value) _ all h
      λ vs e h. then_ok (each (bits storage ContentAvailability count) (take contents vs)) _ all h
      λ given f h.
      let same : with_absent count contents given ≡ all = cc in
      let each = each_of (take contents vs) given f in
      let few : length given ≤ contents = omega (arith, each.0, length-take contents vs) in
      let whole = filled contents given few each.1 in
      (ap length (sym same) ∙ whole.0, subst (All Full) same whole.1)

module _ (octree : Bool) (levels contents : ℕ) where
  counted : (json : JsonValue) (members : Members) (storage : Storage) (s : SubtreeParts)
      → available octree levels contents json members storage ≡ Ok s
      → HasCounts octree levels contents s
  counted json members storage s h =
      let count = tile_count octree levels in
      let value = last_of (codes "tileAvailability") members in
      let value_2 = last_of (codes "contentAvailability") members in
      let value_3 = last_of (codes "childSubtreeAvailability") members in
      then_ok (bits_at storage TileAvailability count value) _ s h
      λ tiles e h. then_ok (contents_at storage count contents value_2) _ s h
      λ all f h. then_ok
      (bits_at storage ChildAvailability (child_count octree levels) value_3) _ s h
      λ children g h.
      let parts : SubtreeParts = record {
        tiles = tiles;
        contents = all;
        children = children;
        json = json;
        binary = storage.binary;
      } in
      let same : parts ≡ s = cc in
      let whole = of_contents storage count contents value_2 all f in
      subst (HasCounts octree levels contents) same record {
        tiles = of_member storage count TileAvailability value tiles e;
        contents = whole.0;
        each = whole.1;
        children = of_member storage (child_count octree levels) ChildAvailability value_3 children
            g;
      }

  pub counted_in : (chunks : Chunks) (s : SubtreeParts)
      → in_chunks octree levels contents chunks ≡ Ok s → HasCounts octree levels contents s
  counted_in chunks s h = then_ok (or_cause NotJson (value_in chunks.json)) _ s h
      λ json e h. then_ok (or_cause (Shape Top) (members_of json)) _ s h
      λ members e h. then_ok (storage_of chunks.binary members) _ s h
      λ storage e h. counted json members storage s h
