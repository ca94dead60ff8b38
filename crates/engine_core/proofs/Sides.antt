-- The parts of a core and the state that its journal leaves have the same contents and the same tree.
use Rattle.std.proofs.Common.{ℕ, ◌≡◌, true, false, ◌&&◌, ◌||◌, cond, Some, List, [], ◌∷◌, map, slice_get, refl, sym, ◌∙◌, ap}
use Rattle.std.specs.List.{list_any}
use Rattle.std.specs.Option.{option_map}
use Rattle.tile_types.specs.declared.key.Key.{Key}
use Rattle.tile_types.specs.declared.key.Kind.{Kind}
use Rattle.tile_types.specs.declared.key.Kind.TheVariants.{Content, Tileset, Subtree}
use Rattle.tile_types.specs.Keys.{same_key, same_kind}
use Rattle.doc_store.specs.Docs.{Loaded, docs_of, is_content}
use Rattle.cut_core.specs.Visits.{content_key}
use Rattle.tile_cache.specs.Residents.{same_text}
use Rattle.tree_expansion.specs.Expansion.{expand}
use Rattle.tree_nodes.specs.Trees.{first_address, stored_tree}
use Rattle.view_notes.specs.Changes.{SameHoldings}
use Rattle.engine_state.specs.State.{contents}
use Rattle.engine_state.specs.Frames.{has_address, holdings, tree}
use Rattle.engine_state.proofs.Rooms.{address_known}
use Rattle.engine_core.specs.declared.parts.Parts.{Parts}
use Rattle.engine_core.specs.Holding.{holdings_of}
use Rattle.engine_core.specs.Mirrors.{Lives, state_of}

content_kind : (kind : Kind) → same_kind kind Content ≡ true → same_kind Content kind ≡ true
content_kind Content e = refl
content_kind Tileset e = cc
content_kind (Subtree octree levels contents) e = cc

-- an address is that of an absent content where it is among their addresses
absent_alike : (keys : List Key) (x : List ℕ)
    → list_any (same_text x) (map (λ key. key.address) (contents keys))
    ≡ list_any (same_key (content_key x)) (contents keys)
absent_alike [] x = refl
absent_alike (k ∷ ks) x =
    elim (is_content k) as (λ b. is_content k ≡ b
    → list_any (same_text x) (map (λ key. key.address) (cond b (k ∷ contents ks) (contents ks)))
    ≡ list_any (same_key (content_key x)) (cond b (k ∷ contents ks) (contents ks))) [
      | true ↦ λ e.
          ap (λ b. same_text x k.address || b) (absent_alike ks x)
          ∙ ap (λ b. b && same_text x k.address
          || list_any (same_key (content_key x)) (contents ks)) (sym (content_kind k.kind e))
      | false ↦ λ e. absent_alike ks x
    ] refl

-- the contents of a core are those of its state
pub holdings_are : (p : Parts) → Lives p
    → SameHoldings (holdings (state_of p)) (holdings_of p.cache.residents p.absent.keys)
holdings_are p l =
    let s = state_of p in
    record {
      resident = λ x. sym (address_known p.cache.residents x)
          ∙ ap (λ rs. has_address rs x) (sym l.mirrors.shows.residents_is);
      absent = λ x. ap (list_any (same_text x)) l.mirrors.knows.contents_is
          ∙ absent_alike s.absent x;
    }

first_is : (loaded : List Loaded) (root : List ℕ)
    → option_map (λ l. l.key.address) (slice_get loaded 0) ≡ Some root
    → first_address loaded ≡ root
first_is [] root e = cc
first_is (l ∷ ls) root e = cc

-- the tree of a core is that of its state
pub tree_is : (p : Parts) → Lives p → stored_tree p.arena.store ≡ tree (state_of p)
unfolding stored_tree tree
tree_is p l =
    let s = state_of p in
    let k = l.mirrors.knows in
    let store = p.arena.store in
    ap (expand (docs_of store.loaded store.gone))
    (ap first_address k.loaded_is ∙ first_is s.loaded s.root k.root_is)
    ∙ ap (λ loaded. expand (docs_of loaded store.gone) s.root) k.loaded_is
    ∙ ap (λ gone. expand (docs_of s.loaded gone) s.root) k.documents_is
