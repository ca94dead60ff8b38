-- The external tilesets of a tile, one after the other.
use Rattle.std.proofs.Common.{ℕ, zero, suc, ◌≡◌, ◌+◌, ◌-◌, ◌<◌, ◌≤◌, true, false, cond, Option, Some, option_to_list, List, [], ◌∷◌, ◌++◌, length, drop, get_or, refl, sym, ◌∙◌, ap, subst, arith, append_assoc, append-nil, length-append}
use Rattle.std.specs.List.{slice_get}
use Rattle.std.proofs.lemmas.List.{drop_all}
use Rattle.std.proofs.lemmas.Option.{slice_get-get_or}
use Rattle.volumes.specs.Moves.{moved_error}
use Rattle.tile_uri.specs.Addresses.{is_external}
use Rattle.tileset_schema.specs.Parts.{WrittenParts}
use Rattle.doc_store.specs.Docs.{Docs}
use Rattle.doc_store.specs.Store.{Stored, docs}
use Rattle.expanded_tree.specs.Tree.{Tree, name_of}
use Rattle.tree_expansion.specs.Expansion.{Holder, child_name, external_of, externals, tileset, tilesets}
use Rattle.tree_nodes.specs.declared.error.ListError.{ListError}
use Rattle.tree_nodes.specs.declared.node.Handed.{Handed}
use Rattle.tree_nodes.specs.declared.node_list.NodeList.{NodeList}
use Rattle.tree_nodes.specs.Places.{map_in}
use Rattle.tree_nodes.specs.Nodes.{IsSoundList, node_trees}
use Rattle.tree_nodes.specs.Growth.{CanTake, Grows, Refuses, external_trees, handed_holder, handed_name, parent_name}
use Rattle.tree_nodes.proofs.Fronts.{IsFront-length}
use Rattle.tree_nodes.proofs.Growing.{grows_left, grows_length, grows_map, grows_none, grows_then}
use Rattle.tree_nodes.proofs.NodeTrees.{name_below}
use Rattle.tree_nodes.proofs.Refusals.{refuses_more}

-- ---- what is left of a list

pub drop_some : {A : Type 0} (xs : List A) (i : ℕ) (x : A) → slice_get xs i ≡ Some x
    → drop i xs ≡ x ∷ drop (i + 1) xs
drop_some [] i x e = cc
drop_some (y ∷ ys) zero x e = let same : y ≡ x = cc in ap (λ z. z ∷ ys) same
drop_some (y ∷ ys) (suc i) x e =
    drop_some ys i x e ∙ ap (λ k. x ∷ drop k (y ∷ ys)) (next i)
  where
    next : (n : ℕ) → suc (n + 1) ≡ suc n + 1
    next n = omega arith

pub external_next : (x : List ℕ) (xs : List (List ℕ)) → is_external x ≡ true
    → external_of (x ∷ xs) ≡ x ∷ external_of xs
external_next x xs e = ap (λ b. cond b (x ∷ external_of xs) (external_of xs)) e

pub own_next : (x : List ℕ) (xs : List (List ℕ)) → is_external x ≡ false
    → external_of (x ∷ xs) ≡ external_of xs
own_next x xs e = ap (λ b. cond b (x ∷ external_of xs) (external_of xs)) e

pub shallow : (docs : Docs) (name : List ℕ) (holder : Holder) (number : ℕ)
    (addresses : List (List ℕ))
    → externals (tilesets docs 0) name holder number addresses ≡ []
shallow docs name holder number [] = refl
shallow docs name holder number (address ∷ addresses) =
    shallow docs name holder (number + 1) addresses

one_level : (docs : Docs) (levels : ℕ) (name : List ℕ) (holder : Holder) (address : List ℕ)
    → 0 < levels
    → tileset docs (tilesets docs (levels - 1)) name holder address ≡ tilesets docs levels name
    holder address
one_level docs zero name holder address h = absurd (omega arith)
one_level docs (suc k) name holder address h =
    ap (λ l. tileset docs (tilesets docs l) name holder address) (less k)
  where
    less : (n : ℕ) → suc n - 1 ≡ n
    less n = omega arith

-- the content at a place below their number
pub content_at : (xs : List (List ℕ)) (i : ℕ) → i < length xs
    → slice_get xs i ≡ Some (get_or xs i [])
content_at xs i h = slice_get-get_or xs i [] h

-- ---- the loop

abbrev error_of : NodeList → Handed → WrittenParts → ℕ
error_of list handed own = moved_error own.error (map_in list.tables.transforms.items handed.transform)

abbrev holder_in : NodeList → Handed → WrittenParts → Holder
holder_in list handed own = handed_holder list handed (error_of list handed own)

-- the first contents have their nodes, and the next external one has this number
pub record Outside (store : Stored) (limit : Option ℕ) (old now : NodeList) (handed : Handed)
    (own : WrittenParts) (place number : ℕ) : Type 0 where
  pub done : List Tree
  pub grows : Grows store limit old now done
  pub rest : done ++ externals (tilesets (docs store) handed.levels) (parent_name store old handed)
      (holder_in old handed own) number (external_of (drop place own.contents))
      ≡ external_trees store old handed own
  pub small : number ≤ handed.number + place

pub begins : (store : Stored) (limit : Option ℕ) (old : NodeList) (handed : Handed)
    (own : WrittenParts)
    → IsSoundList store old → Outside store limit old old handed own 0 handed.number
begins store limit old handed own sound = record {
  done = [];
  grows = grows_none store limit old sound;
  rest = refl;
  small = omega arith;
}

pub no_levels : (store : Stored) (limit : Option ℕ) (list : NodeList) (handed : Handed)
    (own : WrittenParts)
    → IsSoundList store list → handed.levels ≡ 0
    → Grows store limit list list (external_trees store list handed own)
no_levels store limit list handed own sound e =
    subst (Grows store limit list list)
    (sym (ap (λ l. externals (tilesets (docs store) l) (parent_name store list handed)
    (holder_in list handed own) handed.number (external_of own.contents)) e
    ∙ shallow (docs store) (parent_name store list handed) (holder_in list handed own) handed.number
    (external_of own.contents)))
    (grows_none store limit list sound)

module _ (store : Stored) (limit : Option ℕ) (old now : NodeList) (handed : Handed)
    (own : WrittenParts) (place number : ℕ)
    (w : Outside store limit old now handed own place number) where
  abbrev left : ℕ → List (List ℕ) → List Tree
  left k addresses = externals (tilesets (docs store) handed.levels) (parent_name store old handed)
      (holder_in old handed own) k addresses

  pub all_done : length own.contents ≤ place
      → Grows store limit old now (external_trees store old handed own)
  all_done past =
      subst (Grows store limit old now)
      (sym (append-nil w.done) ∙ ap (λ ts. w.done ++ ts)
      (sym (none_left (drop place own.contents) (drop_all place own.contents past)))
      ∙ w.rest) w.grows
    where
      none_left : (xs : List (List ℕ)) → xs ≡ [] → externals (tilesets (docs store) handed.levels)
          (parent_name store old handed) (holder_in old handed own) number (external_of xs) ≡ []
      none_left xs e =
          ap (λ ys. externals (tilesets (docs store) handed.levels) (parent_name store old handed)
          (holder_in old handed own) number (external_of ys)) e

  -- a content of the tile's own
  pub passed : (address : List ℕ) → slice_get own.contents place ≡ Some address
      → is_external address ≡ false
      → Outside store limit old now handed own (place + 1) number
  passed address e inner = record {
    done = w.done;
    grows = w.grows;
    rest =
        ap (λ xs. w.done ++ externals (tilesets (docs store) handed.levels)
        (parent_name store old handed) (holder_in old handed own) number xs)
        (sym (ap external_of (drop_some own.contents place address e)
        ∙ own_next address (drop (place + 1) own.contents) inner))
        ∙ w.rest;
    small = omega (arith, w.small);
  }

  nodes_now : length now.nodes.items ≡ length old.nodes.items + length w.done
  nodes_now = grows_length store limit old now w.done w.grows

  pub can_follow : CanTake old handed → 0 < length old.nodes.items
      → CanTake now (record handed { number = number; levels = handed.levels - 1 })
  can_follow can some = record {
    parent = λ h. omega (arith, can.parent some, nodes_now);
    transform =
        omega (
          arith,
          can.transform,
          IsFront-length old.tables.transforms.items now.tables.transforms.items
              w.grows.tables.transforms,
        );
  }

  module _ (can : CanTake old handed) (some : 0 < length old.nodes.items) (deep : 0 < handed.levels)
      (address : List ℕ) (at : slice_get own.contents place ≡ Some address)
      (outer : is_external address ≡ true)
      (error : ℕ) (error_is : error ≡ moved_error own.error
      (map_in now.tables.transforms.items handed.transform)) where
    map_now : map_in now.tables.transforms.items handed.transform ≡ map_in old.tables.transforms.items
        handed.transform
    map_now = grows_map store limit old now w.done w.grows handed.transform can.transform

    name_now : handed_name store now (record handed { number = number; levels = handed.levels - 1 })
        ≡ child_name (parent_name store old handed) number
    name_now =
        name_below (node_trees store now) (length now.nodes.items) handed.parent number
        (omega (arith, some, nodes_now))
        ∙ ap (λ u. child_name (name_of u) number)
        (grows_left store limit old now w.done w.grows handed.parent (can.parent some))

    holder_now : handed_holder now (record handed { number = number; levels = handed.levels - 1 })
        error ≡ holder_in old handed own
    holder_now =
        ap (λ m. record { transform = m; error = error; refine = handed.refine }) map_now
        ∙ ap (λ (e : ℕ). record {
          transform = map_in old.tables.transforms.items handed.transform;
          error = e;
          refine = handed.refine;
        })
        (error_is ∙ ap (moved_error own.error) map_now)

    abbrev one : List Tree
    one =
        option_to_list (tilesets (docs store) handed.levels
        (child_name (parent_name store old handed) number) (holder_in old handed own) address)

    -- what the call adds
    one_is : option_to_list (tileset (docs store) (tilesets (docs store) (handed.levels - 1))
        (handed_name store now (record handed { number = number; levels = handed.levels - 1 }))
        (handed_holder now (record handed { number = number; levels = handed.levels - 1 })
        error) address)
        ≡ option_to_list (tilesets (docs store) handed.levels
        (child_name (parent_name store old handed) number) (holder_in old handed own) address)
    one_is =
        ap (λ name. option_to_list (tileset (docs store) (tilesets (docs store) (handed.levels - 1))
        name (handed_holder now (record handed { number = number; levels = handed.levels - 1 })
        error) address)) name_now
        ∙ ap (λ holder. option_to_list
        (tileset (docs store) (tilesets (docs store) (handed.levels - 1))
        (child_name (parent_name store old handed) number) holder address)) holder_now
        ∙ ap option_to_list (one_level (docs store) handed.levels
        (child_name (parent_name store old handed) number) (holder_in old handed own)
        address deep)

    -- what is left begins with it
    left_is : externals (tilesets (docs store) handed.levels) (parent_name store old handed)
        (holder_in old handed own) number (external_of (drop place own.contents))
        ≡ option_to_list (tilesets (docs store) handed.levels
        (child_name (parent_name store old handed) number) (holder_in old handed own) address)
        ++ externals (tilesets (docs store) handed.levels) (parent_name store old handed)
        (holder_in old handed own) (number + 1) (external_of (drop (place + 1) own.contents))
    left_is =
        ap (λ xs. externals (tilesets (docs store) handed.levels) (parent_name store old handed)
        (holder_in old handed own) number xs)
        (ap external_of (drop_some own.contents place address at)
        ∙ external_next address (drop (place + 1) own.contents) outer)

    all_is : (w.done ++ one) ++ left (number + 1) (external_of (drop (place + 1) own.contents))
        ≡ external_trees store old handed own
    all_is =
        append_assoc w.done one (left (number + 1) (external_of (drop (place + 1) own.contents)))
        ∙ ap (λ ts. w.done ++ ts) (sym left_is) ∙ w.rest

    pub followed : (new : NodeList)
        → Grows store limit now new
        (option_to_list (tileset (docs store) (tilesets (docs store) (handed.levels - 1))
        (handed_name store now (record handed { number = number; levels = handed.levels - 1 }))
        (handed_holder now (record handed { number = number; levels = handed.levels - 1 })
        error) address))
        → Outside store limit old new handed own (place + 1) (number + 1)
    followed new g = record {
      done = w.done ++ one;
      grows = grows_then store limit old now new w.done one w.grows
          (subst (Grows store limit now new) one_is g);
      rest = all_is;
      small = omega (arith, w.small);
    }

    pub not_followed : (e : ListError)
        → Refuses limit
        (length now.nodes.items + length
        (option_to_list (tileset (docs store) (tilesets (docs store) (handed.levels - 1))
        (handed_name store now (record handed { number = number; levels = handed.levels - 1 }))
        (handed_holder now (record handed { number = number; levels = handed.levels - 1 }) error)
        address))) e
        → Refuses limit (length old.nodes.items + length (external_trees store old handed own)) e
    not_followed e r =
        refuses_more limit _ (length old.nodes.items + length (external_trees store old handed own))
        e
        (omega (
          arith,
          ap length one_is,
          nodes_now,
          ap length all_is,
          length-append (w.done ++ one)
              (left (number + 1) (external_of (drop (place + 1) own.contents))),
          length-append w.done one,
        )) r
