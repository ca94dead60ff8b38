-- What the store tells of a key by its number.
use Rattle.std.specs.Prelude.{if◌then◌else◌, nat_lt}
use Rattle.std.proofs.Common.{ℕ, suc, ◌≡◌, ◌+◌, ◌≤◌, Some, None, true, false, not, cond, List, [], ◌∷◌, length, get_or, refl, sym, ◌∙◌, ap, arith}
use Rattle.std.specs.List.{prefix_len, slice_get}
use Rattle.std.specs.Option.{option_map_or}
use Rattle.std.proofs.lemmas.Bool.{ltb-false}
use Rattle.std.proofs.lemmas.List.Quantifiers.{position-Some}
use Rattle.std.proofs.lemmas.Option.{slice_get-get_or}
use Rattle.tile_types.specs.declared.key.Key.{Key}
use Rattle.tile_types.specs.declared.key.Kind.{Kind}
use Rattle.tile_types.specs.declared.key.Kind.TheVariants.{Tileset}
use Rattle.tile_types.specs.Keys.{same_key}
use Rattle.tileset_schema.specs.Tiles.{WrittenTile}
use Rattle.tileset_schema.specs.Preorder.{Row, rows}
use Rattle.doc_store.specs.Docs.{Found, Loaded, waiting, lost, here, here_of, bytes_of, found_in, subtree_at, subtree_for, tileset_at, tileset_in, tileset_key}
use Rattle.doc_store.specs.Store.{Stored, docs}
use Rattle.doc_store.specs.States.{number_in, rows_at, rows_found}
use Rattle.tile_types.proofs.Keys.{key_is}
use Rattle.tree_nodes.specs.Found.{IsNumber}
use Rattle.tree_nodes.specs.Tiles.{document_rows}

not_loaded : (ls : List Loaded) (key : Key)
    → length ls ≤ prefix_len (λ l. not (same_key key l.key)) ls
    → bytes_of ls key ≡ None
not_loaded [] key h = refl
not_loaded (l ∷ ls) key h =
    elim (same_key key l.key) as (λ b. suc (length ls) ≤ cond (not b)
    (1 + prefix_len (λ l. not (same_key key l.key)) ls) 0
    → (if b then Some l.bytes else bytes_of ls key) ≡ None) [
      | true ↦ λ g. absurd (omega arith)
      | false ↦ λ g. not_loaded ls key (omega arith)
    ] h

none_loaded : (store : Stored) (key : Key) → number_in store key ≡ None
    → bytes_of store.loaded key ≡ None
none_loaded store key h = not_loaded store.loaded key (past h)
  where
    past : number_in store key ≡ None
        → length store.loaded ≤ prefix_len (λ l. not (same_key key l.key)) store.loaded
    past e =
        elim (nat_lt (prefix_len (λ l. not (same_key key l.key)) store.loaded)
        (length store.loaded)) as (λ b. nat_lt
        (prefix_len (λ l. not (same_key key l.key)) store.loaded) (length store.loaded) ≡ b
        → cond b (Some (prefix_len (λ l. not (same_key key l.key)) store.loaded)) None ≡ None
        → length store.loaded ≤ prefix_len (λ l. not (same_key key l.key)) store.loaded) [
          | true ↦ λ f g. cc
          | false ↦ λ f g. ltb-false _ _ f
        ] refl e

-- ---- keys without numbers

pub no_number : (store : Stored) (address : List ℕ)
    → number_in store (tileset_key address) ≡ None → rows_at (docs store) address ≡ None
no_number store address h =
    elim ((docs store).gone (tileset_key address)) as (λ b. rows_found
    (if b then lost else found_in (tileset_in address)
    (bytes_of store.loaded (tileset_key address))) ≡ None) [
      | true ↦ refl
      | false ↦ ap (λ o. rows_found (found_in (tileset_in address) o))
          (none_loaded store (tileset_key address) h)
    ]

pub no_subtree : (store : Stored) (key : Key) → number_in store key ≡ None
    → here_of (subtree_at (docs store) key) ≡ None
no_subtree store key h =
    elim ((docs store).gone key) as (λ b. here_of
    (if b then lost else found_in (subtree_for key.kind) (bytes_of store.loaded key)) ≡ None) [
      | true ↦ refl
      | false ↦ ap (λ o. here_of (found_in (subtree_for key.kind) o)) (none_loaded store key h)
    ]

pub is_here : {A : Type 0} (f : Found A) (a : A) → Some a ≡ here_of f → f ≡ here a
is_here waiting a e = cc
is_here lost a e = cc
is_here (here b) a e = let same : a ≡ b = cc in ap here (sym same)

-- ---- numbers

-- the document of a key's number has this key
pub record IsNamed (store : Stored) (key : Key) (number : ℕ) : Type 0 where
  pub loaded : Loaded
  pub at : slice_get store.loaded number ≡ Some loaded
  pub key_is : key ≡ loaded.key

pub is_named : (store : Stored) (key : Key) (number : ℕ) → number_in store key ≡ Some number
    → IsNamed store key number
is_named store key number e =
    let none : Loaded = record { key = key; bytes = [] } in
    let first = position-Some (λ l. same_key key l.key) store.loaded number none e in
    record {
      loaded = get_or store.loaded number none;
      at = slice_get-get_or store.loaded number none first.0;
      key_is = key_is key (get_or store.loaded number none).key first.1;
    }

rows_here : (f : Found WrittenTile) (rs : List Row) → rows_found f ≡ Some rs
    → (root : WrittenTile) × (f ≡ here root) × (rs ≡ rows root)
rows_here waiting rs e = cc
rows_here lost rs e = cc
rows_here (here root) rs e = (root, refl, cc)

-- a tileset that is read has this number
pub is_number : (store : Stored) (address : List ℕ) (number : ℕ) (rs : List Row)
    → number_in store (tileset_key address) ≡ Some number
    → Some rs ≡ document_rows store number → Some rs ≡ rows_at (docs store) address
    → IsNumber store address number
is_number store address number rs e read at =
    let root = rows_here (tileset_at (docs store) address) rs (sym at) in
    let named = is_named store (tileset_key address) number e in
    record {
      root = root.0;
      read = root.1;
      tiles = sym read ∙ ap Some root.2;
      stands = ap (λ o. option_map_or (λ l. l.key.address) o []) named.at
          ∙ sym (ap (λ (k : Key). k.address) named.key_is);
    }

abbrev key_with : Kind → List ℕ → Key
key_with kind address = record { kind = kind; address = address }

-- a tileset's key is that of its address
pub is_tileset_key : (key : Key) → key.kind ≡ Tileset → key ≡ tileset_key key.address
is_tileset_key key e = ap (λ k. key_with k key.address) e
