-- A store of the root document.
use Rattle.std.specs.Prelude.{if◌then◌else◌}
use Rattle.std.proofs.Common.{ℕ, ◌≡◌, ◌≤◌, true, Some, None, Ok, Err, List, [], ◌∷◌, length, refl}
use Rattle.std.proofs.Common.{sym, ◌∙◌, ap, subst}
use Rattle.std.specs.Cmp.Lexicographic.{nat_list_eq_equiv}
use Rattle.tile_uri.specs.declared.address.TheConstants.{ADDRESS_LIMIT}
use Rattle.tile_uri.specs.Addresses.{is_address}
use Rattle.tile_uri.proofs.OwnTexts.{own_text}
use Rattle.tileset_schema.specs.Tiles.{WrittenTile}
use Rattle.tileset_schema.specs.Documents.{document}
use Rattle.tileset_schema.specs.Preorder.{Row, rows_read}
use Rattle.doc_store.specs.Docs.{Loaded, as_read, here, docs_of, found_in, read_at, if_read}
use Rattle.doc_store.specs.Docs.{tileset_at, tileset_in, tileset_key}
use Rattle.doc_store.specs.Store.{Stored, IsAlone, IsOpened}
use Rattle.doc_store.specs.States.{rows_in}
use Rattle.doc_store.proofs.Tilesets.{below_address, read_rows}

-- at an address the document is that of these bytes
pub rows_at_root : (root text bytes : List ℕ) (rs : List Row) → is_address root ≡ true
    → length root ≤ ADDRESS_LIMIT → text ≡ root → rows_read (document bytes root) ≡ Ok rs
    → Some rs ≡ rows_in text bytes
rows_at_root root text bytes rs address short same read =
    sym (ap (λ t. rows_in t bytes) same
    ∙ below_address root bytes root (own_text root (record { address = address; short = short }))
    ∙ read_rows (document bytes root) rs read)

root_is_read : (root bytes : List ℕ) (tree : WrittenTile) → is_address root ≡ true
    → length root ≤ ADDRESS_LIMIT → document bytes root ≡ Ok tree
    → tileset_in root bytes ≡ Some tree
unfolding tileset_in
root_is_read root bytes tree address short is =
    ap (read_at bytes) (own_text root (record { address = address; short = short }))
    ∙ ap if_read is

abbrev alone : List ℕ → List ℕ → Loaded
alone root bytes = record { key = tileset_key root; bytes = bytes }

-- where a tileset alone is loaded, it is what stands at its address
alone_is_here : (root bytes : List ℕ) (tree : WrittenTile) → tileset_in root bytes ≡ Some tree
    → tileset_at (docs_of (alone root bytes ∷ []) []) root ≡ here tree
alone_is_here root bytes tree e =
    ap (λ b. found_in (tileset_in root) (if b then Some bytes else None))
    (nat_list_eq_equiv.refl root)
    ∙ ap as_read e

pub is_opened : (store : Stored) (root text bytes : List ℕ) (rs : List Row) → is_address root ≡ true
    → length root ≤ ADDRESS_LIMIT → text ≡ root → IsAlone store text bytes
    → rows_read (document bytes root) ≡ Ok rs → IsOpened store root bytes
is_opened store root text bytes rs address short same only read =
    let here_alone : IsAlone store root bytes = subst (λ t. IsAlone store t bytes) same only in
    elim (document bytes root) as (λ r. document bytes root ≡ r → rows_read r ≡ Ok rs
    → IsOpened store root bytes) [
      | Ok tree ↦ λ is e. record {
        alone = here_alone;
        tree = tree;
        read = is;
        at_root =
            ap (λ ls. tileset_at (docs_of ls store.gone) root) here_alone.loaded
            ∙ ap (λ ks. tileset_at (docs_of (alone root bytes ∷ []) ks) root) here_alone.gone
            ∙ alone_is_here root bytes tree (root_is_read root bytes tree address short is);
      }
      | Err cause ↦ λ is e. cc
    ] refl read
