-- The keys of contents and of documents among the absent ones, with one key more.
use Rattle.std.proofs.Common.{ℕ, ◌≡◌, true, false, not, cond, List, [], ◌∷◌, ◌++◌, map, ◌∙◌, ap}
use Rattle.std.proofs.lemmas.List.{append-nil, map-append}
use Rattle.std.proofs.lemmas.List.Elements.{filter-append}
use Rattle.tile_types.specs.declared.key.Key.{Key}
use Rattle.doc_store.specs.Docs.{is_content}
use Rattle.engine_state.specs.State.{contents, documents}

-- the addresses of the contents' keys
abbrev pub addresses_in : List Key → List (List ℕ)
addresses_in keys = map (λ key. key.address) (contents keys)

-- ---- one key more

module _ (keys : List Key) (key : Key) where
  pub contents_more : is_content key ≡ true → contents (keys ++ key ∷ []) ≡ contents keys ++ key ∷ []
  contents_more c =
      filter-append is_content keys (key ∷ [])
      ∙ ap (λ b. contents keys ++ cond b (key ∷ []) []) c

  pub contents_stay : is_content key ≡ false → contents (keys ++ key ∷ []) ≡ contents keys
  contents_stay c =
      filter-append is_content keys (key ∷ [])
      ∙ ap (λ b. contents keys ++ cond b (key ∷ []) []) c
      ∙ append-nil (contents keys)

  pub documents_more : is_content key ≡ false
      → documents (keys ++ key ∷ []) ≡ documents keys ++ key ∷ []
  documents_more c =
      filter-append (λ k. not (is_content k)) keys (key ∷ [])
      ∙ ap (λ b. documents keys ++ cond (not b) (key ∷ []) []) c

  pub documents_stay : is_content key ≡ true → documents (keys ++ key ∷ []) ≡ documents keys
  documents_stay c =
      filter-append (λ k. not (is_content k)) keys (key ∷ [])
      ∙ ap (λ b. documents keys ++ cond (not b) (key ∷ []) []) c
      ∙ append-nil (documents keys)

  pub addresses_more : is_content key ≡ true
      → addresses_in (keys ++ key ∷ []) ≡ addresses_in keys ++ key.address ∷ []
  addresses_more c =
      ap (map (λ k. k.address)) (contents_more c)
      ∙ map-append (λ k. k.address) (contents keys) (key ∷ [])
