-- Implicit roots by number, and entries of places, while tables grow.
use Rattle.std.proofs.Common.{ℕ, ◌≡◌, ◌-◌, ◌<◌, ◌≤◌, Some, List, [], ◌++◌, length, get_or, take, drop, refl, sym, ◌∙◌, ap, subst, arith, length-append, length-drop, take_all}
use Rattle.std.specs.Option.{option_and_then, option_map, option_map_or}
use Rattle.std.proofs.Math.Seq.{drop-append_seam}
use Rattle.std.proofs.lemmas.List.{drop-append-le, length-take, take-append-le}
use Rattle.std.proofs.lemmas.Option.{slice_get_read, slice_get_within}
use Rattle.volumes.specs.Limits.{IsBoxInRange, error_limit}
use Rattle.implicit_walk.specs.declared.place.Place.{Place}
use Rattle.implicit_walk.specs.Roots.{RootParts}
use Rattle.doc_store.specs.Store.{Stored}
use Rattle.tree_expansion.specs.Expansion.{RootTile}
use Rattle.tree_nodes.specs.declared.place_entry.PlaceEntry.{PlaceEntry}
use Rattle.tree_nodes.specs.declared.place_entry.SubtreeState.{SubtreeState}
use Rattle.tree_nodes.specs.declared.place_entry.SubtreeState.TheVariants.{Read, Awaited}
use Rattle.tree_nodes.specs.declared.stretch.Stretch.{Stretch}
use Rattle.tree_nodes.specs.declared.tables.Tables.{Tables}
use Rattle.tree_nodes.specs.declared.top.Top.{Top}
use Rattle.tree_nodes.specs.Fronts.{Continues, IsFront}
use Rattle.tree_nodes.specs.Tiles.{part_at}
use Rattle.tree_nodes.specs.Tops.{IsTopEntry}
use Rattle.tree_nodes.specs.Places.{IsPlaceAt, IsPlaced, IsState, IsStretch, IsTop, children_at, node_at, place_children, place_tree, root_by, top_by, top_in, top_of, transform_in}
use Rattle.tree_nodes.proofs.Fronts.{IsFront-length, front_get}
use Rattle.tree_nodes.proofs.Maps.{transform_stays}

-- ---- stretches

pub stretch_stays : {A : Type 0} (xs zs : List A) (s : Stretch) (ys : List A) → IsFront xs zs
    → IsStretch xs s ys → IsStretch zs s ys
stretch_stays xs zs s ys f is = record {
  there = omega (arith, is.there, IsFront-length xs zs f);
  is = ap (λ us. take s.count (drop s.first us)) f.whole
      ∙ ap (take s.count) (drop-append-le s.first xs f.behind (omega (arith, is.there)))
      ∙ take-append-le s.count (drop s.first xs) f.behind
      (omega (arith, is.there, length-drop s.first xs))
      ∙ is.is;
}

pub stretch_count : {A : Type 0} (xs : List A) (s : Stretch) (ys : List A)
    → IsStretch xs s ys → length ys ≡ s.count
stretch_count xs s ys is =
    omega (
      arith,
      ap length is.is,
      length-take s.count (drop s.first xs),
      length-drop s.first xs,
      is.there,
    )

-- what was added to a list last
pub stretch_made : {A : Type 0} (old new ys : List A) (first end : ℕ) → new ≡ old ++ ys
    → first ≡ length old → end ≡ length new
    → IsStretch new (record { first = first; count = end - first }) ys
stretch_made old new ys first end e f g =
    let long : end - first ≡ length ys =
    omega (arith, f, g, ap length e, length-append old ys) in
    record {
      there = omega (arith, f, g, ap length e, length-append old ys);
      is = ap (λ us. take (end - first) (drop first us)) e
          ∙ ap (λ k. take (end - first) (drop k (old ++ ys))) f
          ∙ ap (take (end - first)) (drop-append_seam old ys)
          ∙ take_all (end - first) ys (omega (arith, long));
    }

pub stretch_empty : {A : Type 0} (xs ys : List A) → ys ≡ []
    → IsStretch xs (record { first = 0; count = 0 }) ys
stretch_empty xs ys e = record { there = omega arith; is = sym e }

-- ---- implicit roots

module _ (store : Stored) (tables : Tables) (number : ℕ) (top : RootTile)
    (t : IsTop store tables number top) where
  pub top_is : top_in store tables number ≡ Some top
  top_is =
      ap (option_and_then (top_of store tables)) t.at
      ∙ ap (option_and_then (λ part. Some
      (top_by (transform_in tables t.entry.transform) t.entry part))) t.says
      ∙ ap Some (sym t.is)

  pub tree_is : (levels : ℕ) (at : Place)
      → place_tree store tables levels number at ≡ node_at store levels top at
  tree_is levels at = ap (option_and_then (λ u. node_at store levels u at)) top_is

  pub children_are : (levels : ℕ) (at : Place)
      → place_children store tables levels number at ≡ children_at store levels top at
  children_are levels at = ap (λ o. option_map_or (λ u. children_at store levels u at) o []) top_is

  pub same_top : (other : RootTile) → IsTop store tables number other → top ≡ other
  same_top other o = same (sym top_is ∙ of_other)
    where
      of_other : top_in store tables number ≡ Some other
      of_other =
          ap (option_and_then (top_of store tables)) o.at
          ∙ ap (option_and_then (λ part. Some
          (top_by (transform_in tables o.entry.transform) o.entry part))) o.says
          ∙ ap Some (sym o.is)

      same : Some top ≡ Some other → top ≡ other
      same e = cc

  -- what its root is said to be
  pub told_root : (root : RootParts)
      → option_map (λ t. t.root) (top_in store tables number) ≡ Some root → root ≡ top.root
  told_root root e = same (sym e ∙ ap (option_map (λ t. t.root)) top_is)
    where
      same : Some root ≡ Some top.root → root ≡ top.root
      same f = cc

-- what is read of an implicit root
module _ (store : Stored) (tables : Tables) (number : ℕ) (top : RootTile)
    (t : IsTop store tables number top) (entry : Top)
    (read : entry ≡ get_or tables.tops.items number entry) where
  pub number_there : number < length tables.tops.items
  number_there = slice_get_within tables.tops.items number t.entry t.at

  pub entry_same : entry ≡ t.entry
  entry_same =
      same (sym (slice_get_read tables.tops.items _ number entry refl number_there read) ∙ t.at)
    where
      same : Some entry ≡ Some t.entry → entry ≡ t.entry
      same e = cc

  pub entry_ok : IsTopEntry store entry
  entry_ok = subst (IsTopEntry store) (sym entry_same) (record {
    tile = t.tile;
    part = t.part;
    says = t.says;
    volume = subst (λ (u : RootTile). IsBoxInRange u.root.volume) t.is t.root.volume;
    error = subst (λ (u : RootTile). u.root.error ≤ error_limit) t.is t.root.error;
  })

  pub root_same : (root : RootParts)
      → option_map (root_by entry) (part_at store entry.document entry.tile) ≡ Some root
      → root ≡ top.root
  root_same root e =
      same (sym e ∙ ap (λ (u : Top). option_map (root_by u) (part_at store u.document u.tile))
      entry_same ∙ ap (option_map (root_by t.entry)) t.says)
      ∙ sym (ap (λ (u : RootTile). u.root) t.is)
    where
      same : Some root ≡ Some (root_by t.entry t.part) → root ≡ root_by t.entry t.part
      same f = cc

-- while tables grow
module _ (store : Stored) (old new : Tables) (c : Continues old new) where
  pub top_stays : (number : ℕ) (top : RootTile) → IsTop store old number top
      → IsTop store new number top
  top_stays number top t = record {
    entry = t.entry;
    at = front_get old.tops.items new.tops.items c.tops number t.entry t.at;
    transform =
        omega (
          arith,
          t.transform,
          IsFront-length old.transforms.items new.transforms.items
              c.transforms,
        );
    tile = t.tile;
    base = t.base;
    part = t.part;
    says = t.says;
    is = t.is
        ∙ ap (λ m. top_by m t.entry t.part)
        (sym (transform_stays old new c t.entry.transform t.transform));
    root = t.root;
    request = t.request;
  }

  state_stays : (root : RootParts) (at : Place) (s : SubtreeState) → IsState store old root at s
      → IsState store new root at s
  state_stays root at (Read number) s = s
  state_stays root at (Awaited number) s = record {
    entry = s.entry;
    there = front_get old.waiting.items new.waiting.items c.waiting number s.entry s.there;
    waits = s.waits;
  }

  pub placed_stays : (entry : PlaceEntry) (top : RootTile) → IsPlaced store old entry top
      → IsPlaced store new entry top
  placed_stays entry top p = record {
    is_top = top_stays entry.top top p.is_top;
    place = p.place;
    state = state_stays top.root entry.at entry.state p.state;
    contents = stretch_stays _ _ _ _ c.contents p.contents;
    external = stretch_stays _ _ _ _ c.external p.external;
  }

  pub place_stays : (number : ℕ) → IsPlaceAt store old number → IsPlaceAt store new number
  place_stays number p = record {
    entry = p.entry;
    at = front_get old.places.items new.places.items c.places number p.entry p.at;
    has = record {
      top = p.has.top;
      placed = placed_stays p.entry p.has.top p.has.placed;
    };
  }

  -- the nodes of places stay
  pub tree_stays : (levels number : ℕ) (top : RootTile) (at : Place) → IsTop store old number top
      → place_tree store new levels number at ≡ place_tree store old levels number at
  tree_stays levels number top at t =
      tree_is store new number top (top_stays number top t) levels at
      ∙ sym (tree_is store old number top t levels at)
