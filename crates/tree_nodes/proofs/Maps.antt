-- Lists of computed transforms.
use Rattle.std.proofs.Common.{ℕ, ◌≡◌, ◌+◌, ◌<◌, ◌∷◌, ◌++◌, List, [], length, get_or, refl, sym, ap, ◌∙◌, arith, length-append}
use Rattle.std.proofs.lemmas.List.{get_or_append_left, get_or-append-add}
use Rattle.std.proofs.lemmas.Option.{slice_get_read, get_or_from_slice_get}
use Rattle.fixed_geometry.specs.Maps.{Map, identity, after, IsBounded}
use Rattle.fixed_geometry.proofs.IdentityLaw.{after-identity_right}
use Rattle.tree_nodes.specs.declared.tables.Tables.{Tables}
use Rattle.tree_nodes.specs.Places.{map_in, transform_in}
use Rattle.tree_nodes.specs.Fronts.{Continues}
use Rattle.tree_nodes.specs.Growth.{IsBelow}
use Rattle.tree_nodes.proofs.Fronts.{IsFront-same}

pub map_left : (ms ns : List Map) (i : ℕ) → i < length ms → map_in (ms ++ ns) i ≡ map_in ms i
map_left ms ns i h = get_or_append_left ms ns identity i h

pub map_read : (ms : List Map) (i : ℕ) (m : Map) → i < length ms → m ≡ get_or ms i m
    → map_in ms i ≡ m
map_read ms i m h e =
    get_or_from_slice_get ms i m identity (slice_get_read ms (length ms) i m refl h e)

-- where the tile has no transform
pub same_below : (ms : List Map) (above : ℕ) (own : Map) → above < length ms → own ≡ identity
    → IsBounded (map_in ms above) → IsBelow ms ms above own above
same_below ms above own there own_is bounded = record {
  front = IsFront-same ms;
  there = there;
  transform =
      sym (ap (after (map_in ms above)) own_is ∙ after-identity_right (map_in ms above) bounded);
}

-- where it has one
pub more_below : (ms ns : List Map) (above : ℕ) (own : Map) (number : ℕ) → number ≡ length ms
    → ns ≡ ms ++ after (map_in ms above) own ∷ [] → IsBelow ms ns above own number
more_below ms ns above own number at is = record {
  front = record { behind = after (map_in ms above) own ∷ []; whole = is };
  there = omega (arith, at, ap length is, length-append ms (after (map_in ms above) own ∷ []));
  transform = ap (λ k. map_in ns k) (at ∙ end (length ms))
      ∙ ap (λ xs. map_in xs (length ms + 0)) is
      ∙ get_or-append-add ms (after (map_in ms above) own ∷ []) 0 identity;
}
  where
    end : (n : ℕ) → n ≡ n + 0
    end n = omega arith

-- while tables grow
pub transform_stays : (old new : Tables) → Continues old new → (number : ℕ)
    → number < length old.transforms.items → transform_in new number ≡ transform_in old number
transform_stays old new c number h =
    ap (λ ms. map_in ms number) c.transforms.whole
    ∙ map_left old.transforms.items c.transforms.behind number h
