-- Entries that are made for places.
use Rattle.std.proofs.Common.{ℕ, ◌≡◌, ◌-◌, Option, None, List, [], ◌∷◌, ◌++◌, length, refl, sym, ◌∙◌, ap, subst, arith, length-append}
use Rattle.std.specs.List.{filter_map, range_with_len, slice_get}
use Rattle.subtree_binary.specs.Found.{Found}
use Rattle.subtree_binary.specs.Subtrees.{SubtreeParts}
use Rattle.implicit_walk.specs.declared.place.Place.{Place}
use Rattle.implicit_walk.specs.declared.presence.Presence.{Presence}
use Rattle.implicit_walk.specs.declared.presence.Presence.TheVariants as presence
use Rattle.implicit_walk.specs.Presences.{content_by, of_tile, presence as presence_at, subtree_at as found_at}
use Rattle.implicit_walk.specs.Roots.{RootParts}
use Rattle.doc_store.specs.Docs.{subtree_at}
use Rattle.doc_store.specs.Store.{Stored, docs}
use Rattle.tile_types.specs.declared.key.Key.{Key}
use Rattle.tree_expansion.specs.Expansion.{RootTile, external_of, own_of, place_contents}
use Rattle.tree_nodes.specs.declared.found.FoundTile.TheVariants.{Awaited}
use Rattle.tree_nodes.specs.declared.node.Waiting.{Waiting}
use Rattle.tree_nodes.specs.declared.place_entry.SubtreeState.TheVariants as state
use Rattle.tree_nodes.specs.declared.tables.Tables.{Tables}
use Rattle.tree_nodes.specs.Entries.{IsEntry}
use Rattle.tree_nodes.specs.PlaceContents.{contents_in}
use Rattle.tree_nodes.specs.Places.{HasTile, IsFoundAt, IsTileIn, IsStretch}
use Rattle.tree_nodes.specs.Fronts.{Continues}
use Rattle.tree_nodes.proofs.Elements.{slice_get-last}
use Rattle.tree_nodes.proofs.Places.{stretch_empty, stretch_made, top_stays}

-- ---- contents by the presence of the place

abbrev listed_by : RootParts → Place → Presence → Found SubtreeParts → List (List ℕ)
listed_by root at present found =
    filter_map (λ which. of_tile present (content_by root at which found))
    (range_with_len 0 (length root.part.contents))

pub of_subtree : (store : Stored) (top : RootTile) (at : Place) (number : ℕ)
    (t : IsTileIn store top.root at number)
    → place_contents (docs store) top at ≡ contents_in top.root t.subtree.parts at
of_subtree store top at number t =
    ap (λ p. listed_by top.root at p (found_at top.root (subtree_at (docs store)) at)) t.present
    ∙ ap (listed_by top.root at presence.Tile) t.subtree.found

abbrev no_content : ℕ → Option (List ℕ)
no_content which = None

none_listed : (xs : List ℕ) → filter_map no_content xs ≡ []
none_listed [] = refl
none_listed (x ∷ xs) = none_listed xs

-- a place that waits has none yet
pub none_awaited : (store : Stored) (top : RootTile) (at : Place) (key : Key)
    → presence_at top.root (subtree_at (docs store)) at ≡ presence.Waiting key
    → place_contents (docs store) top at ≡ []
none_awaited store top at key e =
    ap (λ p. listed_by top.root at p (found_at top.root (subtree_at (docs store)) at)) e
    ∙ none_listed (range_with_len 0 (length top.root.part.contents))

-- ---- entries

module _ (store : Stored) (old new : Tables) (number subtree : ℕ) (at : Place)
    (h : HasTile store old number subtree at) (parts : SubtreeParts)
    (same : parts ≡ h.tile.subtree.parts) where
  listed : place_contents (docs store) h.top at ≡ contents_in h.top.root parts at
  listed = of_subtree store h.top at subtree h.tile
      ∙ ap (λ p. contents_in h.top.root p at) (sym same)

  pub tile_made : (tables : Continues old new) → new.places.items ≡ old.places.items
      → new.waiting.items ≡ old.waiting.items
      → new.contents.items ≡ old.contents.items ++ own_of (contents_in h.top.root parts at)
      → new.external.items ≡ old.external.items ++ external_of (contents_in h.top.root parts at)
      → (first end first' end' : ℕ)
      → first ≡ length old.contents.items → end ≡ length new.contents.items
      → first' ≡ length old.external.items → end' ≡ length new.external.items
      → IsEntry store old new number at (record {
        at = at;
        top = number;
        state = state.Read subtree;
        contents = record { first = first; count = end - first };
        external = record { first = first'; count = end' - first' };
      })
  tile_made tables places waiting contents external first end first' end' e f e' f' = record {
    tables = tables;
    places = places;
    waits = omega (arith, ap length waiting);
    place = refl;
    number_is = refl;
    has = record {
      top = h.top;
      placed = record {
        is_top = top_stays store old new tables number h.top h.is_top;
        place = h.place;
        state = h.tile;
        contents = subst (IsStretch new.contents.items (record { first = first; count = end - first }))
            (ap own_of (sym listed))
            (stretch_made old.contents.items new.contents.items _ first end contents e f);
        external = subst (IsStretch new.external.items (record { first = first'; count = end' - first' }))
            (ap external_of (sym listed))
            (stretch_made old.external.items new.external.items _ first' end' external e' f');
      };
    };
  }

pub awaited_made : (store : Stored) (old new : Tables) (number : ℕ) (at : Place) (w : Waiting)
    (h : IsFoundAt store old number at (Awaited w.key)) → (tables : Continues old new)
    → new.places.items ≡ old.places.items
    → new.waiting.items ≡ old.waiting.items ++ w ∷ []
    → (waiting : ℕ) → waiting ≡ length old.waiting.items
    → IsEntry store old new number at (record {
      at = at;
      top = number;
      state = state.Awaited waiting;
      contents = record { first = 0; count = 0 };
      external = record { first = 0; count = 0 };
    })
awaited_made store old new number at w h tables places more waiting e =
    let none = none_awaited store h.top at w.key h.is in
    record {
      tables = tables;
      places = places;
      waits = omega (arith, ap length more, length-append old.waiting.items (w ∷ []));
      place = refl;
      number_is = refl;
      has = record {
        top = h.top;
        placed = record {
          is_top = top_stays store old new tables number h.top h.is_top;
          place = h.place;
          state = record {
            entry = w;
            there = ap (slice_get new.waiting.items) e
                ∙ ap (λ ws. slice_get ws (length old.waiting.items)) more
                ∙ slice_get-last old.waiting.items w;
            waits = h.is;
          };
          contents = stretch_empty new.contents.items _ (ap own_of none);
          external = stretch_empty new.external.items _ (ap external_of none);
        };
      };
    }
