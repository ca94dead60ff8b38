-- What is found among the documents that are kept.
use Rattle.std.specs.Prelude.{if◌then◌else◌}
use Rattle.std.proofs.Common.{Bor, ◌≡◌, true, false, Bool, cond, Option, Some, None, MatchOption}
use Rattle.std.proofs.Common.{List, [], ◌∷◌, map, refl, sym, ◌∙◌, ap, subst}
use Rattle.std.specs.Option.{option_copied}
use Rattle.std.specs.List.{AllByRecursion}
use Rattle.std.specs.Map.{lookup}
use Rattle.tile_types.specs.declared.key.Key.{Key}
use Rattle.tile_types.specs.Keys.{same_key}
use Rattle.doc_store.specs.Docs.{bytes_of, docs_of}
use Rattle.doc_store.specs.declared.loaded_document.LoadedDocument.{LoadedDocument}
use Rattle.doc_store.specs.Kept.{Entry, loaded_of, IsRead, IsNotGone, IsLoaded, IsNotLoaded}
use Rattle.tile_types.proofs.Keys.{key_is, key_refl}

-- the entry of a key is what is loaded for it
entry_is_loaded : (x : Entry) (xs : List Entry) (gone : List Key) → IsRead x → IsNotGone gone x
    → (key : Key) → key ≡ x.0 → IsLoaded (docs_of (map loaded_of (x ∷ xs)) gone) key x.1
entry_is_loaded x xs gone r p key e =
    subst (λ k. IsLoaded (docs_of (map loaded_of (x ∷ xs)) gone) k x.1) (sym e)
    (record {
      present = p;
      loaded =
          ap (λ b. if b then Some x.1.bytes else bytes_of (map loaded_of xs) x.0) (key_refl x.0);
      read = r;
    })

-- behind an entry of another key the same is loaded for it
skipped : (x : Entry) (xs : List Entry) (gone : List Key) (key : Key) → same_key key x.0 ≡ false
    → (l : LoadedDocument) → IsLoaded (docs_of (map loaded_of xs) gone) key l
    → IsLoaded (docs_of (map loaded_of (x ∷ xs)) gone) key l
skipped x xs gone key other l k = record {
  present = k.present;
  loaded =
      ap (λ b. if b then Some x.1.bytes else bytes_of (map loaded_of xs) key) other ∙ k.loaded;
  read = k.read;
}

pub lookup_finds : (es : List Entry) (gone : List Key) → AllByRecursion IsRead es
    → AllByRecursion (IsNotGone gone) es → (key : Key) (o : Option LoadedDocument)
    → lookup (same_key key) es ≡ o
    → MatchOption o (IsNotLoaded (docs_of (map loaded_of es) gone) key)
    (IsLoaded (docs_of (map loaded_of es) gone) key)
lookup_finds [] gone r p key None e = refl
lookup_finds [] gone r p key (Some l) e = cc
lookup_finds (x ∷ xs) gone r p key None e =
    elim (same_key key x.0) as (λ b.
    cond b (Some x.1) (lookup (same_key key) xs) ≡ None
    → (if b then Some x.1.bytes else bytes_of (map loaded_of xs) key) ≡ None) [
      | true ↦ λ h. cc
      | false ↦ λ h. lookup_finds xs gone r.1 p.1 key None h
    ] e
lookup_finds (x ∷ xs) gone r p key (Some l) e =
    elim (same_key key x.0) as (λ b. same_key key x.0 ≡ b
    → cond b (Some x.1) (lookup (same_key key) xs) ≡ Some l
    → IsLoaded (docs_of (map loaded_of (x ∷ xs)) gone) key l) [
      | true ↦ λ same h. let is : x.1 ≡ l = cc in
          subst (IsLoaded (docs_of (map loaded_of (x ∷ xs)) gone) key) is
          (entry_is_loaded x xs gone r.0 p.0 key (key_is key x.0 same))
      | false ↦ λ other h. skipped x xs gone key other l
          (lookup_finds xs gone r.1 p.1 key (Some l) h)
    ] refl e

-- the same of a reference to what is found, by a test that tells keys apart as the definitions do
pub found_finds : (es : List Entry) (gone : List Key) → AllByRecursion IsRead es
    → AllByRecursion (IsNotGone gone) es → (key : Key) (is : Key → Bool) → is ≡ same_key key
    → (r : Option (Bor LoadedDocument)) → option_copied r ≡ lookup is es
    → MatchOption r (IsNotLoaded (docs_of (map loaded_of es) gone) key)
    (λ l. IsLoaded (docs_of (map loaded_of es) gone) key l.now)
found_finds es gone r p key is same None e =
    lookup_finds es gone r p key None (sym (e ∙ ap (λ f. lookup f es) same))
found_finds es gone r p key is same (Some l) e =
    lookup_finds es gone r p key (Some l.now) (sym (e ∙ ap (λ f. lookup f es) same))
