-- What is known of a node below an implicit root, by its entry.
use Rattle.std.specs.Prelude.{if◌then◌else◌, nat_lt, option_map}
use Rattle.std.proofs.Common.{ℕ, zero, suc, ◌≡◌, ◌==◌, Bool, Option, Some, None, List, [], ◌∷◌, get_or, length, refl, sym, ◌∙◌, ap, subst, arith, rules}
use Rattle.std.specs.List.{slice_get}
use Rattle.std.specs.Option.{ForSome}
use Rattle.std.proofs.Math.Dec.{eqb-suc-zero}
use Rattle.std.proofs.lemmas.Option.{slice_get_read, slice_get_within}
use Rattle.volumes.specs.declared.volume.Volume.{Volume}
use Rattle.volumes.specs.Limits.{IsInRange}
use Rattle.tile_types.specs.declared.refine.Refine.{Refine}
use Rattle.implicit_walk.specs.declared.place.Place.{Place}
use Rattle.implicit_walk.specs.Roots.{RootParts, error_at, volume_at}
use Rattle.doc_store.specs.Store.{Stored, docs}
use Rattle.expanded_tree.specs.Facts.{Facts}
use Rattle.tree_expansion.specs.Expansion.{RootTile, external_of, is_some_left, place_contents, place_facts}
use Rattle.tree_nodes.specs.declared.place_entry.PlaceEntry.{PlaceEntry}
use Rattle.tree_nodes.specs.declared.tables.Tables.{Tables}
use Rattle.tree_nodes.specs.declared.top.Top.{Top}
use Rattle.tree_nodes.specs.Tiles.{part_at}
use Rattle.tree_nodes.specs.Places.{IsPlaceAt, IsTop, root_by}
use Rattle.tree_nodes.proofs.PlacesRead.{stretch_count}

some_are_left : {A : Type 0} (xs : List A) → nat_lt 0 (length xs) ≡ is_some_left xs
some_are_left [] = refl
some_are_left (x ∷ xs) = search rules

-- its request volume: that of its implicit root, at level 0 alone
pub request_at_root : (level : ℕ) (request own : Option Volume) → level ≡ 0 → request ≡ own
    → request ≡ (if level == 0 then own else None)
request_at_root zero request own e is = is
request_at_root (suc n) request own e is = absurd (omega arith)

pub request_below : (level : ℕ) (request own : Option Volume) → (level ≡ 0 → ⊥) → request ≡ None
    → request ≡ (if level == 0 then own else None)
request_below zero request own e is = absurd (e refl)
request_below (suc n) request own e is = rw (eqb-suc-zero n) is

-- an entry as it is read, and that of its implicit root
module _ (store : Stored) (tables : Tables) (number : ℕ) (p : IsPlaceAt store tables number)
    (entry : PlaceEntry) (read : entry ≡ get_or tables.places.items number entry) where
  pub same_entry : p.entry ≡ entry
  same_entry =
      let there = slice_get_within tables.places.items number p.entry p.at in
      let at = slice_get_read tables.places.items _ number entry refl there read in
      let same : Some p.entry ≡ Some entry = sym p.at ∙ at in
      cc

  module _ (top : Top) (top_read : top ≡ get_or tables.tops.items entry.top top) where
    abbrev its : IsTop store tables p.entry.top p.has.top
    its = p.has.placed.is_top

    same_top : its.entry ≡ top
    same_top =
        let at : slice_get tables.tops.items entry.top ≡ Some its.entry =
        ap (λ (e : PlaceEntry). slice_get tables.tops.items e.top) (sym same_entry) ∙ its.at in
        let there = slice_get_within tables.tops.items entry.top its.entry at in
        let found = slice_get_read tables.tops.items _ entry.top top refl there top_read in
        let same : Some its.entry ≡ Some top = sym at ∙ found in
        cc

    same_refine : p.has.top.holder.refine ≡ top.refine
    same_refine = ap (λ (t : RootTile). t.holder.refine) its.is
        ∙ ap (λ (t : Top). t.refine) same_top

    same_request : p.has.top.request ≡ top.request
    same_request = ap (λ (t : RootTile). t.request) its.is ∙ ap (λ (t : Top). t.request) same_top

    pub same_name : p.has.top.name ≡ top.name
    same_name = ap (λ (t : RootTile). t.name) its.is ∙ ap (λ (t : Top). t.name) same_top

    pub request_small : ForSome top.request IsInRange
    request_small = subst (λ r. ForSome r IsInRange) same_request its.request

    has_some : nat_lt 0 entry.external.count
        ≡ is_some_left (external_of (place_contents (docs store) p.has.top p.entry.at))
    has_some =
        ap (λ (e : PlaceEntry). nat_lt 0 e.external.count) (sym same_entry)
        ∙ ap (λ n. nat_lt 0 n) (stretch_count tables.external.items p.entry.external
        (external_of (place_contents (docs store) p.has.top p.entry.at)) p.has.placed.external)
        ∙ some_are_left (external_of (place_contents (docs store) p.has.top p.entry.at))

    module _ (root : RootParts)
        (root_is : option_map (root_by top) (part_at store top.document top.tile) ≡ Some root)
      where
        same_root : p.has.top.root ≡ root
        same_root =
            let says : part_at store top.document top.tile ≡ Some its.part =
            ap (λ (t : Top). part_at store t.document t.tile) (sym same_top) ∙ its.says in
            let made : Some (root_by top its.part) ≡ Some root =
            ap (option_map (root_by top)) (sym says) ∙ root_is in
            let found : root_by top its.part ≡ root = cc in
            ap (λ (t : RootTile). t.root) its.is
            ∙ ap (λ (t : Top). root_by t its.part) same_top
            ∙ found

        abbrev made : RootParts → Option Volume → Refine → Place → Bool → Facts
        made root request refine at external = record {
          volume = Some (volume_at root at);
          request = if at.level == 0 then request else None;
          error = error_at root at;
          refine = refine;
          external = external;
        }

        pub facts_made : (volume : Volume) (request : Option Volume) (error : ℕ)
            → volume ≡ volume_at root entry.at
            → request ≡ (if entry.at.level == 0 then top.request else None)
            → error ≡ error_at root entry.at
            → record {
              volume = Some volume;
              request = request;
              error = error;
              refine = top.refine;
              external = nat_lt 0 entry.external.count;
            }
            ≡ place_facts p.has.top p.entry.at (place_contents (docs store) p.has.top p.entry.at)
        facts_made volume request error v r e =
            let own = p.has.top in
            let b = nat_lt 0 entry.external.count in
            let start : record {
              volume = Some volume;
              request = request;
              error = error;
              refine = top.refine;
              external = b;
            } ≡ made root top.request top.refine entry.at b = cc in
            start
            ∙ ap (λ x. made x top.request top.refine entry.at b) (sym same_root)
            ∙ ap (λ x. made own.root x top.refine entry.at b) (sym same_request)
            ∙ ap (λ x. made own.root own.request x entry.at b) (sym same_refine)
            ∙ ap (λ (x : PlaceEntry). made own.root own.request own.holder.refine x.at b)
            (sym same_entry)
            ∙ ap (made own.root own.request own.holder.refine p.entry.at) has_some
