-- What the members of the written value are.
use Rattle.std.proofs.Common.{◌≡◌, ℕ, Bool, List, [], ◌∷◌, map, codes, Option, Some, None, refl}
use Rattle.json_decimal.specs.JsonValue.{JsonValue, list, no_values, value, no_pairs, pair, values, pairs_of, last_of}
use Rattle.subtree_binary.specs.Availability.{Members}
use Rattle.subtree_write.specs.declared.streams.View.{View}
use Rattle.subtree_write.proofs.Values.{availability_values, buffer_value, storage_pairs, contents_pairs, view_value}

abbrev pub buffers_value : List View → ℕ → Option JsonValue
buffers_value [] bytes = None
buffers_value (view ∷ views) bytes = Some (list (value (buffer_value bytes) no_values))

abbrev pub views_value : List View → Option JsonValue
views_value [] = None
views_value (view ∷ views) = Some (list (values (map view_value (view ∷ views))))

abbrev pub contents_value : ℕ → List (List Bool) → Option JsonValue
contents_value before [] = None
contents_value before (row ∷ rows) =
    Some (list (values (availability_values before (row ∷ rows))))

module _ (bytes before : ℕ) (tile child : JsonValue) where
  abbrev pub members : List View → List (List Bool) → Members
  members views rows =
      pairs_of
      (storage_pairs views bytes
      (pair (codes "tileAvailability") tile
      (contents_pairs before rows (pair (codes "childSubtreeAvailability") child no_pairs))))

  pub buffers_at : (views : List View) (rows : List (List Bool))
      → last_of (codes "buffers") (members views rows) ≡ buffers_value views bytes
  buffers_at [] [] = refl
  buffers_at [] (row ∷ rows) = refl
  buffers_at (view ∷ views) [] = refl
  buffers_at (view ∷ views) (row ∷ rows) = refl

  pub views_at : (views : List View) (rows : List (List Bool))
      → last_of (codes "bufferViews") (members views rows) ≡ views_value views
  views_at [] [] = refl
  views_at [] (row ∷ rows) = refl
  views_at (view ∷ views) [] = refl
  views_at (view ∷ views) (row ∷ rows) = refl

  pub tiles_at : (views : List View) (rows : List (List Bool))
      → last_of (codes "tileAvailability") (members views rows) ≡ Some tile
  tiles_at [] [] = refl
  tiles_at [] (row ∷ rows) = refl
  tiles_at (view ∷ views) [] = refl
  tiles_at (view ∷ views) (row ∷ rows) = refl

  pub contents_at : (views : List View) (rows : List (List Bool))
      → last_of (codes "contentAvailability") (members views rows) ≡ contents_value before rows
  contents_at [] [] = refl
  contents_at [] (row ∷ rows) = refl
  contents_at (view ∷ views) [] = refl
  contents_at (view ∷ views) (row ∷ rows) = refl

  pub children_at : (views : List View) (rows : List (List Bool))
      → last_of (codes "childSubtreeAvailability") (members views rows) ≡ Some child
  children_at [] [] = refl
  children_at [] (row ∷ rows) = refl
  children_at (view ∷ views) [] = refl
  children_at (view ∷ views) (row ∷ rows) = refl
