-- Documents that agree with a library: what is known of a key there is known in the whole library.
use Rattle.std.proofs.Common.{ℕ, ◌≡◌, ◌⊎◌, inl, inr, true, false, Option, Some, None, is_none, List, refl, sym, ap}
use Rattle.std.specs.Prelude.{if◌then◌else◌}
use Rattle.tile_types.specs.declared.key.Key.{Key}
use Rattle.source_port.specs.Library.{Library}
use Rattle.subtree_binary.specs.Found.{waiting, lost}
use Rattle.doc_store.specs.Docs.{Docs, found, found_in, tileset_in, tileset_key, subtree_for}
use Rattle.tree_expansion.specs.Expansion.{expand}
use Rattle.tree_expansion.specs.Growth.{Extends, RootGrown}
use Rattle.tree_expansion.specs.Whole.{AgreesWith, full, whole_docs}
use Rattle.tree_expansion.proofs.Grows.{expanded_grows}

loaded_stays : {A : Type 0} (read : List ℕ → Option A) (library : Library) (docs : Docs) (key : Key)
    → AgreesWith library docs → (o : Option (List ℕ)) → docs.loaded key ≡ o
    → (found_in read o ≡ waiting) ⊎ (found_in read o ≡ found read (whole_docs library) key)
loaded_stays read library docs key a None e = inl refl
loaded_stays read library docs key a (Some bytes) e =
    inr (ap (λ o. if is_none o then lost else found_in read o) (sym (a.loaded key bytes e)))

found_stays : {A : Type 0} (read : List ℕ → Option A) (library : Library) (docs : Docs) (key : Key)
    → AgreesWith library docs → (found read docs key ≡ waiting)
    ⊎ (found read docs key ≡ found read (whole_docs library) key)
found_stays read library docs key a =
    elim (docs.gone key) as (λ b. docs.gone key ≡ b
    → ((if b then lost else found_in read (docs.loaded key)) ≡ waiting)
    ⊎ ((if b then lost else found_in read (docs.loaded key))
    ≡ found read (whole_docs library) key)) [
      | true ↦ λ g. inr (ap (λ o. if is_none o then lost else found_in read o) (sym (a.gone key g)))
      | false ↦ λ g. loaded_stays read library docs key a (docs.loaded key) refl
    ] refl

library_extends : (library : Library) (docs : Docs) → AgreesWith library docs
    → Extends docs (whole_docs library)
library_extends library docs a = record {
  tilesets = λ address. found_stays (tileset_in address) library docs (tileset_key address) a;
  subtrees = λ key. found_stays (subtree_for key.kind) library docs key a;
}

pub grows_into_full : (library : Library) (docs : Docs) → AgreesWith library docs
    → (root : List ℕ) → RootGrown (whole_docs library) (expand docs root) (full library root)
unfolding full
grows_into_full library docs a root =
    expanded_grows docs (whole_docs library) (library_extends library docs a) root
