-- The metadata of the tree of loaded documents is that of the library's whole tree.
use Rattle.std.proofs.Common.{◌≡◌, ◌∙◌, ℕ, true, false, not, ◌&&◌, Option, Some, None, Ok, Err, is_none, option_map, List, [], ◌∷◌, ◌++◌, All, refl, sym, ap}
use Rattle.std.specs.Prelude.{⊤, if◌then◌else◌}
use Rattle.std.specs.List.{filter_map, flat_map}
use Rattle.std.specs.Option.{option_and_then}
use Rattle.std.proofs.lemmas.List.Elements.{All-head, All-tail}
use Rattle.source_port.specs.Library.{Library}
use Rattle.tile_types.specs.declared.key.Key.{Key}
use Rattle.tileset_schema.specs.Documents.{schema as document_schema}
use Rattle.tileset_schema.specs.Implicit.{ImplicitParts}
use Rattle.subtree_binary.specs.Found.{Found, waiting, lost, here}
use Rattle.subtree_binary.specs.Subtrees.{SubtreeParts}
use Rattle.implicit_walk.specs.declared.place.Place.{Place}
use Rattle.implicit_walk.specs.declared.presence.Presence.TheVariants.{No, Tile}
use Rattle.implicit_walk.specs.Places.{begins_subtree, number_in_subtree}
use Rattle.implicit_walk.specs.Presences.{has_child_bit, own_presence, presence, presence_by, presence_in}
use Rattle.implicit_walk.specs.Roots.{subtree_key}
use Rattle.doc_store.specs.Docs.{Docs, found, found_in, subtree_at, subtree_for, tileset_in, tileset_key}
use Rattle.doc_store.specs.States.{schema_at}
use Rattle.expanded_tree.specs.Tree.{Origin, Tree}
use Rattle.meta_schema.specs.Reading.{schema}
use Rattle.meta_schema.specs.declared.error.SchemaError.{SchemaError}
use Rattle.plain_tree.specs.Preorder.{nodes_of}
use Rattle.tree_expansion.specs.Expansion.{RootTile, expand, place_name, place_origin}
use Rattle.tree_expansion.specs.Whole.{AgreesWith, IsWhole, document_of, full, whole_docs}
use Rattle.tree_expansion.proofs.Wholes.{whole_is_full}
use Rattle.tile_metadata.specs.Metadata.{ReadSchema, cause_of, first_cause, first_of, lines_of, metadata, origin_lines, schema_cause, schema_lines, schema_of, subtree_lines}
use Rattle.stream_cli.proofs.Origins.{IsThere, expanded_holds}

module _ (library : Library) (docs : Docs) (agrees : AgreesWith library docs) where
  abbrev whole : Docs
  whole = whole_docs library

  -- ---- what is read of the loaded documents is read of the library's

  module _ {A : Type 0} (read : List ℕ → Option A) (key : Key) (a : A) where
    bytes_same : (o : Option (List ℕ)) → docs.loaded key ≡ o → found_in read o ≡ here a
        → o ≡ document_of library key
    bytes_same None e h = cc
    bytes_same (Some bytes) e h = sym (agrees.loaded key bytes e)

    loaded_same : found read docs key ≡ here a → docs.loaded key ≡ document_of library key
    loaded_same e =
        elim (docs.gone key) as (λ b. (if b then lost else found_in read (docs.loaded key)) ≡ here a
        → docs.loaded key ≡ document_of library key) [
          | true ↦ λ h. cc
          | false ↦ λ h. bytes_same (docs.loaded key) refl h
        ] e

    read_same : (o : Option (List ℕ)) → docs.loaded key ≡ o → found_in read o ≡ here a
        → found_in read o ≡ found read whole key
    read_same None e h = cc
    read_same (Some bytes) e h =
        ap (λ o. if is_none o then lost else found_in read o) (sym (agrees.loaded key bytes e))

    found_same : found read docs key ≡ here a → found read docs key ≡ found read whole key
    found_same e =
        elim (docs.gone key) as (λ b. (if b then lost else found_in read (docs.loaded key)) ≡ here a
        → (if b then lost else found_in read (docs.loaded key)) ≡ found read whole key) [
          | true ↦ λ h. cc
          | false ↦ λ h. read_same (docs.loaded key) refl h
        ] e

  schema_same : (base : List ℕ) → IsThere docs base → schema_at docs base ≡ schema_at whole base
  schema_same base there =
      ap (option_and_then document_schema)
      (loaded_same (tileset_in base) (tileset_key base) there.0 there.1)

  -- ---- so each node has the same lines and the same cause

  pub record IsSame (t : Tree) : Type 0 where
    pub lines : lines_of docs t ≡ lines_of whole t
    pub cause : schema_cause docs t ≡ schema_cause whole t

  abbrev causes_at : Docs → Option Origin → Option SchemaError
  causes_at d o = option_and_then (λ origin. cause_of (schema_of d origin)) o

  -- an origin in a loaded document, and in a subtree that is read
  record IsRead (origin : Origin) : Type 0 where
    base : IsThere docs origin.document
    parts : SubtreeParts
    subtree : subtree_at docs origin.subtree ≡ here parts

  -- the origin of a tile, if it has one, is such a one
  abbrev AreRead : Option Origin → Type 0
  AreRead None = ⊤
  AreRead (Some origin) = IsRead origin

  same_by : (name : List ℕ) (origin : Origin)
      → subtree_at docs origin.subtree ≡ subtree_at whole origin.subtree → (r : Option ReadSchema)
      → schema_lines docs name origin r ≡ schema_lines whole name origin r
  same_by name origin e None = refl
  same_by name origin e (Some (Err cause)) = refl
  same_by name origin e (Some (Ok read)) = ap (subtree_lines read name origin.index) e

  of_schema : (origin : Origin) → IsRead origin → schema_of docs origin ≡ schema_of whole origin
  of_schema origin r = ap (option_map schema) (schema_same origin.document r.base)

  lines_same : (name : List ℕ) (o : Option Origin) → AreRead o
      → origin_lines docs name o ≡ origin_lines whole name o
  lines_same name None r = refl
  lines_same name (Some origin) r =
      same_by name origin
      (found_same (subtree_for origin.subtree.kind) origin.subtree r.parts r.subtree)
      (schema_of docs origin)
      ∙ ap (schema_lines whole name origin) (of_schema origin r)

  causes_same : (o : Option Origin) → AreRead o → causes_at docs o ≡ causes_at whole o
  causes_same None r = refl
  causes_same (Some origin) r = ap cause_of (of_schema origin r)

  -- ---- the origin of an implicit tile

  here_by : (part : ImplicitParts) (at : Place) (key : Key) (f : Found SubtreeParts)
      → presence_by part at key f ≡ Tile → (s : SubtreeParts) × (f ≡ here s)
  here_by part at key waiting e = cc
  here_by part at key lost e = cc
  here_by part at key (here s) e = (s, refl)

  own_tile : (top : RootTile) (at : Place) → presence top.root (subtree_at docs) at ≡ Tile
      → own_presence top.root (subtree_at docs) at ≡ Tile
  own_tile top at e =
      elim (begins_subtree top.root.part at && not (has_child_bit top.root (subtree_at docs) at))
      as (λ b. (if b then No else own_presence top.root (subtree_at docs) at) ≡ Tile
      → own_presence top.root (subtree_at docs) at ≡ Tile) [
        | true ↦ λ h. cc
        | false ↦ λ h. h
      ] e

  place_read : (top : RootTile) (at : Place) → IsThere docs top.root.base
      → presence top.root (subtree_at docs) at ≡ Tile → AreRead (place_origin top at)
  place_read top at base e =
      elim (subtree_key top.root at) as (λ k. presence_in top.root.part (subtree_at docs) at k ≡ Tile
      → AreRead (option_map (λ key. record {
        document = top.root.base;
        subtree = key;
        index = number_in_subtree top.root.part at;
      }) k)) [
        | None ↦ λ h. tt
        | Some key ↦ λ h.
            let s = here_by top.root.part at key (subtree_at docs key) h in
            record { base = base; parts = s.0; subtree = s.1 }
      ] (own_tile top at e)

  all_same : (root : List ℕ) → All IsSame (nodes_of (expand docs root))
  all_same root = expanded_holds docs IsSame (record {
    waits = λ name facts key. record { lines = refl; cause = refl };
    written = λ name facts contents children. record { lines = refl; cause = refl };
    placed = λ top at contents children base e. record {
      lines = lines_same (place_name top at) (place_origin top at) (place_read top at base e);
      cause = causes_same (place_origin top at) (place_read top at base e);
    };
  }) root

  flat_same : (nodes : List Tree) → All IsSame nodes
      → flat_map (lines_of docs) nodes ≡ flat_map (lines_of whole) nodes
  flat_same [] all = refl
  flat_same (t ∷ ts) all =
      ap (λ lines. lines ++ flat_map (lines_of docs) ts) (All-head IsSame t ts all).lines
      ∙ ap (λ lines. lines_of whole t ++ lines) (flat_same ts (All-tail IsSame t ts all))

  cause_same : (nodes : List Tree) → All IsSame nodes
      → filter_map (schema_cause docs) nodes ≡ filter_map (schema_cause whole) nodes
  cause_same [] all = refl
  cause_same (t ∷ ts) all =
      let rest = cause_same ts (All-tail IsSame t ts all) in
      let first = (All-head IsSame t ts all).cause in
      elim (schema_cause whole t) as (λ c. schema_cause docs t ≡ c → schema_cause whole t ≡ c
      → filter_map (schema_cause docs) (t ∷ ts) ≡ filter_map (schema_cause whole) (t ∷ ts)) [
        | None ↦ λ e f. rw (e, f) rest
        | Some cause ↦ λ e f. rw (e, f) (ap (λ causes. cause ∷ causes) rest)
      ] first refl

  pub metadata_is_full : (root : List ℕ) → IsWhole (expand docs root)
      → metadata docs (expand docs root) ≡ metadata whole (full library root)
  metadata_is_full root is_whole =
      flat_same (nodes_of (expand docs root)) (all_same root)
      ∙ ap (metadata whole) (whole_is_full library docs agrees root is_whole)

  pub first_cause_is_full : (root : List ℕ) → IsWhole (expand docs root)
      → first_cause docs (nodes_of (expand docs root))
      ≡ first_cause whole (nodes_of (full library root))
  first_cause_is_full root is_whole =
      ap first_of (cause_same (nodes_of (expand docs root)) (all_same root))
      ∙ ap (λ tree. first_cause whole (nodes_of tree))
      (whole_is_full library docs agrees root is_whole)
