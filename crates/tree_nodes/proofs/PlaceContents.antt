-- The contents of the tile at a place, one after the other.
use Rattle.std.proofs.Common.{ℕ, ◌≡◌, ◌+◌, Option, Some, None, option_to_list, List, [], ◌∷◌, ◌++◌, filter, Bool, refl, sym, ◌∙◌, ap, append_assoc, arith}
use Rattle.std.specs.List.{cons_option}
use Rattle.std.specs.List.{filter_map, range_with_len}
use Rattle.std.proofs.lemmas.List.Elements.{filter-append, filter_map-append}
use Rattle.std.proofs.lemmas.List.{map-id}
use Rattle.std.proofs.lemmas.List.FromFn.{map-range_with_len_more}
use Rattle.subtree_binary.specs.Subtrees.{SubtreeParts}
use Rattle.implicit_walk.specs.declared.place.Place.{Place}
use Rattle.implicit_walk.specs.Presences.{content_in}
use Rattle.implicit_walk.specs.Roots.{RootParts}
use Rattle.tree_nodes.specs.PlaceContents.{first_contents}

one_of : {A B : Type 0} (h : A → Option B) (x : A) → filter_map h (x ∷ []) ≡ option_to_list (h x)
one_of {A} {B} h x = by_value (h x)
  where
    by_value : (o : Option B) → cons_option o [] ≡ option_to_list o
    by_value None = refl
    by_value (Some y) = refl

range_more : (n : ℕ) → range_with_len 0 (n + 1) ≡ range_with_len 0 n ++ n ∷ []
range_more n =
    sym (map-id (range_with_len 0 (n + 1)))
    ∙ map-range_with_len_more (λ x. x) 0 n n (omega arith)
    ∙ ap (λ xs. xs ++ n ∷ []) (map-id (range_with_len 0 n))

-- those of one template more
pub contents_more : (root : RootParts) (subtree : SubtreeParts) (at : Place) (count : ℕ)
    → first_contents root subtree at (count + 1)
    ≡ first_contents root subtree at count ++ option_to_list (content_in root subtree at count)
contents_more root subtree at count =
    ap (filter_map (content_in root subtree at)) (range_more count)
    ∙ filter_map-append (content_in root subtree at) (range_with_len 0 count) (count ∷ [])
    ∙ ap (λ cs. first_contents root subtree at count ++ cs) (one_of (content_in root subtree at) count)

-- some pass, and then some more
pub passed_more : (p : List ℕ → Bool) (old now new front more whole : List (List ℕ))
    → now ≡ old ++ filter p front → new ≡ now ++ filter p more → whole ≡ front ++ more
    → new ≡ old ++ filter p whole
passed_more p old now new front more whole e f g =
    f ∙ ap (λ xs. xs ++ filter p more) e ∙ append_assoc old (filter p front) (filter p more)
    ∙ ap (λ xs. old ++ xs) (sym (filter-append p front more) ∙ ap (filter p) (sym g))
