-- What is read from what is loaded under a number.
use Rattle.std.specs.Prelude.{if◌then◌else◌, option_map, IfSome}
use Rattle.std.proofs.Common.{Bor, ℕ, ◌≡◌, Bool, Option, Some, None, List, map, slice_get}
use Rattle.std.proofs.Common.{refl, sym, ◌∙◌, ap, subst}
use Rattle.std.specs.List.{AllByRecursion}
use Rattle.std.specs.Map.{lookup}
use Rattle.std.specs.Option.{option_and_then}
use Rattle.std.proofs.lemmas.Option.{slice_get-map}
use Rattle.tile_types.specs.declared.key.Key.{Key}
use Rattle.tile_types.specs.declared.key.Kind.TheVariants as kind
use Rattle.tile_types.specs.Keys.{same_key}
use Rattle.tileset_schema.specs.declared.document.Document.{Document}
use Rattle.tileset_schema.specs.Documents.{schema}
use Rattle.tileset_schema.specs.Tiles.{WrittenTile}
use Rattle.tileset_schema.specs.Preorder.{rows}
use Rattle.subtree_binary.specs.declared.subtree.Subtree.{Subtree}
use Rattle.subtree_binary.specs.Subtrees.{HasCounts, SubtreeParts}
use Rattle.doc_store.specs.Docs.{Docs, as_read, found_in, here_of, lost}
use Rattle.doc_store.specs.Docs.{subtree_at, subtree_for, tileset_in, tileset_key}
use Rattle.doc_store.specs.Store.{Stored, docs}
use Rattle.doc_store.specs.States.{number_in, rows_at, rows_found, schema_at, schema_of}
use Rattle.doc_store.specs.declared.loaded_document.LoadedDocument.{LoadedDocument}
use Rattle.doc_store.specs.Kept.{Entry, HasCountsOf, IsLoaded, IsNotGone, IsRead, loaded_of}
use Rattle.doc_store.specs.Kept.{IsNumbered, subtree_kept, tileset_kept}
use Rattle.doc_store.proofs.Entries.{lookup_finds}
use Rattle.doc_store.proofs.Numbers.{number_names}

-- ---- of what is loaded for a key

rows_as_read : (o : Option WrittenTile) → rows_found (as_read o) ≡ option_map rows o
rows_as_read None = refl
rows_as_read (Some root) = refl

rows_of_copy : (r : Option (Bor Document))
    → option_map (λ d. d.now.rows) r ≡ option_map (λ d. d.rows) (option_map (λ d. d.now) r)
rows_of_copy None = refl
rows_of_copy (Some d) = refl

rows_of_loaded : (docs : Docs) (address : List ℕ) (l : LoadedDocument)
    → IsLoaded docs (tileset_key address) l → (r : Option (Bor Document))
    → option_map (λ d. d.now) r ≡ tileset_kept l.reading
    → option_map (λ d. d.now.rows) r ≡ rows_at docs address
rows_of_loaded docs address l is r e =
    rows_of_copy r ∙ ap (option_map (λ d. d.rows)) e ∙ is.read.tiles
    ∙ sym (ap (λ b. rows_found (if b then lost
    else found_in (tileset_in address) (docs.loaded (tileset_key address)))) is.present
    ∙ ap (λ o. rows_found (found_in (tileset_in address) o)) is.loaded
    ∙ rows_as_read (tileset_in address l.bytes))

here_as_read : (o : Option SubtreeParts) → here_of (as_read o) ≡ o
here_as_read None = refl
here_as_read (Some s) = refl

subtree_of_loaded : (docs : Docs) (key : Key) (l : LoadedDocument) → IsLoaded docs key l
    → subtree_kept l.reading ≡ here_of (subtree_at docs key)
subtree_of_loaded docs key l is =
    is.read.subtree
    ∙ sym (ap (λ b. here_of (if b then lost
    else found_in (subtree_for key.kind) (docs.loaded key))) is.present
    ∙ ap (λ o. here_of (found_in (subtree_for key.kind) o)) is.loaded
    ∙ here_as_read (subtree_for key.kind l.bytes))

-- ---- of what is loaded under a number

pub is_numbered : (es : List Entry) (gone : List Key) (spare : ℕ) → AllByRecursion IsRead es
    → AllByRecursion (IsNotGone gone) es → (n : ℕ) (own : Key) (l : LoadedDocument)
    → Some (own, l) ≡ slice_get es n → (is : Key → Bool) → is ≡ same_key own
    → lookup is es ≡ Some l
    → IsNumbered (record { loaded = map loaded_of es; gone = gone; spare = spare }) n l
is_numbered es gone spare read apart n own l at is same found = record {
  own = own;
  at = slice_get-map loaded_of es n ∙ ap (option_map loaded_of) (sym at);
  loaded =
      lookup_finds es gone read apart own (Some l) (ap (λ p. lookup p es) (sym same) ∙ found);
  named = λ key e. number_names es key n (own, l) e (sym at);
}

module _ (store : Stored) (n : ℕ) (l : LoadedDocument) (is : IsNumbered store n l) where
  named_loaded : (key : Key) → number_in store key ≡ Some n → IsLoaded (docs store) key l
  named_loaded key e = subst (λ k. IsLoaded (docs store) k l) (sym (is.named key e)) is.loaded

  pub named_rows : (r : Option (Bor Document))
      → option_map (λ d. d.now) r ≡ tileset_kept l.reading → (address : List ℕ)
      → number_in store (tileset_key address) ≡ Some n
      → option_map (λ d. d.now.rows) r ≡ rows_at (docs store) address
  named_rows r copied address e =
      rows_of_loaded (docs store) address l (named_loaded (tileset_key address) e) r copied

  pub numbered_schema : (r : Option (Bor Document))
      → option_map (λ d. d.now) r ≡ tileset_kept l.reading
      → IfSome r (λ d. Some d.now.schema ≡ option_map schema_of (slice_get store.loaded n))
  numbered_schema None copied = tt
  numbered_schema (Some d) copied =
      ap Some (subst (λ o. IfSome o (λ d. d.schema ≡ schema l.bytes)) (sym copied)
      is.loaded.read.schema)
      ∙ sym (ap (option_map schema_of) is.at)

  pub keyed_schema : (r : Option (Bor Document))
      → option_map (λ d. d.now) r ≡ tileset_kept l.reading → (address : List ℕ)
      → option_map (λ l. l.key) (slice_get store.loaded n) ≡ Some (tileset_key address)
      → IfSome r (λ d. d.now.schema ≡ schema_at (docs store) address)
  keyed_schema None copied address at = tt
  keyed_schema (Some d) copied address at =
      let own : Some is.own ≡ Some (tileset_key address) =
      sym (ap (option_map (λ l. l.key)) is.at) ∙ at in
      let loaded : (docs store).loaded (tileset_key address) ≡ Some l.bytes =
      subst (λ k. (docs store).loaded k ≡ Some l.bytes) (cc) is.loaded.loaded in
      subst (λ o. IfSome o (λ d. d.schema ≡ schema l.bytes)) (sym copied) is.loaded.read.schema
      ∙ sym (ap (option_and_then schema) loaded)

  pub named_subtree : (r : Option (Bor Subtree))
      → option_map (λ s. s.now) r ≡ subtree_kept l.reading → (key : Key)
      → number_in store key ≡ Some n
      → option_map (λ s. s.now) r ≡ here_of (subtree_at (docs store) key)
  named_subtree r copied key e =
      copied ∙ subtree_of_loaded (docs store) key l (named_loaded key e)

  pub numbered_counts : (r : Option (Bor Subtree))
      → option_map (λ s. s.now) r ≡ subtree_kept l.reading
      → IfSome r (λ s. (octree : Bool) (levels contents : ℕ)
      → option_map (λ l. l.key.kind) (slice_get store.loaded n)
      ≡ Some (kind.Subtree octree levels contents) → HasCounts octree levels contents s.now)
  numbered_counts None copied = tt
  numbered_counts (Some s) copied = λ octree levels contents e.
      let own_kind : Some is.own.kind ≡ Some (kind.Subtree octree levels contents) =
      sym (ap (option_map (λ l. l.key.kind)) is.at) ∙ e in
      subst (λ o. IfSome o (HasCountsOf is.own.kind)) (sym copied) is.loaded.read.counts octree
      levels contents (cc)
