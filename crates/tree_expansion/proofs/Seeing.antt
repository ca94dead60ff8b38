-- Growth that drops no child that a view would see changes no cut of loaded tiles.
use Rattle.std.specs.Prelude.{if◌then◌else◌, Option, Some, None, option_to_list}
use Rattle.std.proofs.Common.{ℕ, ◌≡◌, inl, inr, Bool, true, false, not, ◌&&◌, ◌||◌, List, [], ◌∷◌, ◌++◌, refl, sym, ◌∙◌, ap}
use Rattle.std.specs.List.{list_all, flat_map}
use Rattle.std.proofs.lemmas.Grind.{flat_map-append}
use Rattle.std.proofs.lemmas.List.Folds.{list_all-append}
use Rattle.tile_types.specs.declared.key.Key.{Key}
use Rattle.error_test.specs.Views.{ViewParts, culled}
use Rattle.doc_store.specs.Docs.{Docs}
use Rattle.expanded_tree.specs.Facts.{Facts, culls, is_known, may_want}
use Rattle.expanded_tree.specs.Tree.{Tree, TileParts, Trees, tile, pending, list_of}
use Rattle.cut_core.specs.declared.line.CutLine.{CutLine}
use Rattle.cut_core.specs.Cut.{Holdings, is_empty, is_culled, is_pending, wants, adds, lacks_own, has_own, itself, is_ready, all_ready, shown_tiles, all_shown_tiles, lines_of, cut}
use Rattle.cut_core.specs.Visits.{visited_nodes, visits}
use Rattle.cut_core.specs.Laws.{IsLoaded}
use Rattle.cut_core.proofs.Bools.{and_left, and_right}
use Rattle.cut_core.proofs.Lists.{append-nil}
use Rattle.cut_core.proofs.CutSteps.{all_ready-list, all_shown-list, visited_wants, ready_culled}
use Rattle.tree_expansion.specs.Growth.{Grown, StandsFor, same_tile, read, AllGrown, none_grown, more_grown, dropped, RootGrown}
use Rattle.tree_expansion.specs.Seen.{KeepsChildren, KeepsAll, KeepsBelow, RootKeeps}

abbrev pub is_loaded : Tree → Bool
is_loaded t = not (is_pending t)

-- no node among these is pending
abbrev pub are_loaded : List Tree → Bool
are_loaded ts = list_all is_loaded ts

and_false : (b : Bool) → (b && false) ≡ false
and_false true = refl
and_false false = refl

module _ (view : ViewParts) (holdings : Holdings) where
  abbrev lines_in : List Tree → List CutLine
  lines_in ts = flat_map (lines_of holdings) ts

  -- ---- what a node shows, by its tests

  abbrev shown_by : Bool → Bool → Bool → Bool → Bool → List Tree → List Tree → List Tree
  shown_by culled wanting adding ready lacking own below =
      if culled then []
      else if not wanting then own
      else if adding then own ++ below
      else if ready || lacking then below
      else own

  shown_agree : (c w a r r' l : Bool) (own own' below below' : List Tree)
      → lines_in own ≡ lines_in own' → (w ≡ true → r ≡ r')
      → (w ≡ true → lines_in below ≡ lines_in below')
      → lines_in (shown_by c w a r l own below) ≡ lines_in (shown_by c w a r' l own' below')
  shown_agree true w a r r' l own own' below below' o s b = refl
  shown_agree false false a r r' l own own' below below' o s b = o
  shown_agree false true true r r' l own own' below below' o s b =
      flat_map-append (lines_of holdings) own below
      ∙ ap (λ ls. ls ++ lines_in below) o ∙ ap (λ ls. lines_in own' ++ ls) (b refl)
      ∙ sym (flat_map-append (lines_of holdings) own' below')
  shown_agree false true false r r' l own own' below below' o s b =
      either (r || l)
      ∙ ap (λ x. lines_in (if x || l then below' else own')) (s refl)
    where
      either : (x : Bool)
          → lines_in (if x then below else own) ≡ lines_in (if x then below' else own')
      either true = b refl
      either false = o

  abbrev ready_by : Bool → Bool → Bool → Bool → Bool → Bool → Bool
  ready_by culled having wanting adding lacking ready =
      if culled then true
      else if having then true
      else if wanting && (not adding || lacking) then ready
      else if lacking && not wanting then true
      else false

  ready_agree : (c h w a l r r' : Bool) → (w ≡ true → r ≡ r')
      → ready_by c h w a l r ≡ ready_by c h w a l r'
  ready_agree true h w a l r r' s = refl
  ready_agree false true w a l r r' s = refl
  ready_agree false false false a l r r' s = refl
  ready_agree false false true a l r r' s =
      ap (λ x. if not a || l then x else if l && false then true else false) (s refl)

  -- ---- nodes that the view sees as the same

  record Same (t u : Tree) : Type 0 where
    lines : lines_in (shown_tiles view holdings t) ≡ lines_in (shown_tiles view holdings u)
    ready : is_ready view holdings t ≡ is_ready view holdings u

  record AllSame (ts us : List Tree) : Type 0 where
    lines : lines_in (flat_map (shown_tiles view holdings) ts)
        ≡ lines_in (flat_map (shown_tiles view holdings) us)
    ready : list_all (is_ready view holdings) ts ≡ list_all (is_ready view holdings) us
    empty : is_empty ts ≡ is_empty us

  own_lines : (parts : TileParts) (ts us : Trees)
      → lines_in (itself holdings (tile parts ts)) ≡ lines_in (itself holdings (tile parts us))
  own_lines parts ts us =
      elim (has_own holdings (tile parts ts)) as (λ b.
      lines_in (if b then tile parts ts ∷ [] else []) ≡ lines_in (if b then tile parts us ∷ [] else
      [])) [ true ↦ refl | false ↦ refl ]

  below_agrees : (ts us : Trees) → AllSame (list_of ts) (list_of us)
      → lines_in (all_shown_tiles view holdings ts) ≡ lines_in (all_shown_tiles view holdings us)
  below_agrees ts us s =
      ap lines_in (all_shown-list view holdings ts) ∙ s.lines
      ∙ ap lines_in (sym (all_shown-list view holdings us))

  ready_agrees : (ts us : Trees) → AllSame (list_of ts) (list_of us)
      → all_ready view holdings ts ≡ all_ready view holdings us
  ready_agrees ts us s =
      all_ready-list view holdings ts ∙ s.ready ∙ sym (all_ready-list view holdings us)

  same_by : (parts : TileParts) (ts us : Trees) (w : Bool) → wants view (tile parts ts) ≡ w
      → wants view (tile parts us) ≡ w → (w ≡ true → AllSame (list_of ts) (list_of us))
      → Same (tile parts ts) (tile parts us)
  same_by parts ts us w e e' below =
      let t : Tree = tile parts ts in
      let u : Tree = tile parts us in
      record {
        lines =
            ap (λ x. lines_in (shown_by (is_culled view t) x (adds t) (all_ready view holdings ts)
            (lacks_own holdings t) (itself holdings t) (all_shown_tiles view holdings ts))) e
            ∙ shown_agree (is_culled view t) w (adds t) (all_ready view holdings ts)
            (all_ready view holdings us) (lacks_own holdings t) (itself holdings t)
            (itself holdings u) (all_shown_tiles view holdings ts)
            (all_shown_tiles view holdings us) (own_lines parts ts us)
            (λ h. ready_agrees ts us (below h)) (λ h. below_agrees ts us (below h))
            ∙ ap (λ x. lines_in (shown_by (is_culled view u) x (adds u) (all_ready view holdings us)
            (lacks_own holdings u) (itself holdings u) (all_shown_tiles view holdings us)))
            (sym e');
        ready =
            ap (λ x. ready_by (is_culled view t) (has_own holdings t) x (adds t)
            (lacks_own holdings t) (all_ready view holdings ts)) e
            ∙ ready_agree (is_culled view t) (has_own holdings t) w (adds t) (lacks_own holdings t)
            (all_ready view holdings ts) (all_ready view holdings us)
            (λ h. ready_agrees ts us (below h))
            ∙ ap (λ x. ready_by (is_culled view u) (has_own holdings u) x (adds u)
            (lacks_own holdings u) (all_ready view holdings us)) (sym e');
      }

  shown_culled : (t : Tree) → is_culled view t ≡ true → shown_tiles view holdings t ≡ []
  shown_culled (tile parts ts) c = rw c
  shown_culled (pending name facts key) c = refl

  same_culled : (t u : Tree) → is_culled view t ≡ true → is_culled view u ≡ true → Same t u
  same_culled t u c d = record {
    lines = ap lines_in (shown_culled t c ∙ sym (shown_culled u d));
    ready = ready_culled view holdings t c ∙ sym (ready_culled view holdings u d);
  }

  -- ---- whether a tile wants its children

  still_none : (parts : TileParts) (ts us : Trees)
      → (is_empty (list_of ts) ≡ true → is_empty (list_of us) ≡ true)
      → wants view (tile parts ts) ≡ false → wants view (tile parts us) ≡ false
  still_none parts ts us empty e =
      elim (is_empty (list_of ts)) as (λ b. is_empty (list_of ts) ≡ b
      → (not b && may_want view parts.facts) ≡ false → wants view (tile parts us) ≡ false) [
        | true ↦ λ n h. ap (λ b. not b && may_want view parts.facts) (empty n)
        | false ↦ λ n h. ap (λ b. not (is_empty (list_of us)) && b) h
            ∙ and_false (not (is_empty (list_of us)))
      ] refl e

  tile_same : (parts : TileParts) (ts us : Trees)
      → (is_empty (list_of ts) ≡ true → is_empty (list_of us) ≡ true)
      → (is_culled view (tile parts ts) ≡ false → wants view (tile parts ts) ≡ true
      → AllSame (list_of ts) (list_of us)) → Same (tile parts ts) (tile parts us)
  tile_same parts ts us empty below =
      elim (is_culled view (tile parts ts)) as (λ b. is_culled view (tile parts ts) ≡ b
      → Same (tile parts ts) (tile parts us)) [
        | true ↦ λ c. same_culled (tile parts ts) (tile parts us) c c
        | false ↦ λ c. by_wants c (wants view (tile parts ts)) refl
      ] refl
    where
      by_wants : is_culled view (tile parts ts) ≡ false → (w : Bool)
          → wants view (tile parts ts) ≡ w → Same (tile parts ts) (tile parts us)
      by_wants c true e =
          same_by parts ts us true e
          (ap (λ b. not b && may_want view parts.facts) (sym (below c e).empty) ∙ e)
          (λ h. below c e)
      by_wants c false e =
          same_by parts ts us false e (still_none parts ts us empty e) (λ h. cc)

  -- ---- what waited out of sight

  -- a pending node that no view visits is out of sight
  pub unvisited : (name : List ℕ) (facts : Facts) (key : Key)
      → are_loaded (visited_nodes view (pending name facts key)) ≡ true
      → culls view facts ≡ true
  unvisited name facts key e =
      elim (culls view facts) as (λ b. are_loaded (if b then [] else pending name facts key ∷ [])
      ≡ true → b ≡ true) [ true ↦ λ h. refl | false ↦ λ h. cc ] e

  -- what it is read as lies there too
  read_culled : (name : List ℕ) (facts : Facts) (u : Tree) → StandsFor name facts u
      → culls view facts ≡ true → is_culled view u ≡ true
  unfolding culls
  read_culled name facts u s c = elim s.same_volume [
    | inl none ↦
        let never : is_known (λ volume. culled volume view) None ≡ true = rw none at c in cc
    | inr same ↦ ap (is_known (λ volume. culled volume view)) same ∙ c
  ]

  emptied : (new : Docs) (ts us : List Tree) → AllGrown new ts us → is_empty ts ≡ true
      → is_empty us ≡ true
  emptied new ts us none_grown e = refl
  emptied new ts us (more_grown t u ts' us' g gs) e = cc
  emptied new ts us (dropped name facts key ts' us' why gs) e = cc

  -- what holds of the visited nodes of a tile that wants its children holds of it, and of those of
  -- its children
  pub holds_here : (p : Tree → Bool) (parts : TileParts) (ts : Trees)
      → is_culled view (tile parts ts) ≡ false → wants view (tile parts ts) ≡ true
      → list_all p (visited_nodes view (tile parts ts)) ≡ true → p (tile parts ts) ≡ true
  holds_here p parts ts c w e =
      and_left (p (tile parts ts)) _
      (sym (ap (list_all p) (visited_wants view (tile parts ts) c w)) ∙ e)

  pub holds_below : (p : Tree → Bool) (parts : TileParts) (ts : Trees)
      → is_culled view (tile parts ts) ≡ false → wants view (tile parts ts) ≡ true
      → list_all p (visited_nodes view (tile parts ts)) ≡ true
      → list_all p (flat_map (visited_nodes view) (list_of ts)) ≡ true
  holds_below p parts ts c w e =
      and_right (p (tile parts ts)) _
      (sym (ap (list_all p) (visited_wants view (tile parts ts) c w)) ∙ e)

  pub holds_first : (p : Tree → Bool) (t : Tree) (ts : List Tree)
      → list_all p (flat_map (visited_nodes view) (t ∷ ts)) ≡ true
      → list_all p (visited_nodes view t) ≡ true
  holds_first p t ts e =
      and_left _ _
      (sym (list_all-append p (visited_nodes view t) (flat_map (visited_nodes view) ts)) ∙ e)

  pub holds_rest : (p : Tree → Bool) (t : Tree) (ts : List Tree)
      → list_all p (flat_map (visited_nodes view) (t ∷ ts)) ≡ true
      → list_all p (flat_map (visited_nodes view) ts) ≡ true
  holds_rest p t ts e =
      and_right (list_all p (visited_nodes view t)) _
      (sym (list_all-append p (visited_nodes view t) (flat_map (visited_nodes view) ts)) ∙ e)

  one_more : (t u : Tree) (ts us : List Tree) → Same t u → AllSame ts us
      → AllSame (t ∷ ts) (u ∷ us)
  one_more t u ts us s ss = record {
    lines =
        flat_map-append (lines_of holdings) (shown_tiles view holdings t)
        (flat_map (shown_tiles view holdings) ts)
        ∙ ap (λ ls. ls ++ lines_in (flat_map (shown_tiles view holdings) ts)) s.lines
        ∙ ap (λ ls. lines_in (shown_tiles view holdings u) ++ ls) ss.lines
        ∙ sym (flat_map-append (lines_of holdings) (shown_tiles view holdings u)
        (flat_map (shown_tiles view holdings) us));
    ready =
        ap (λ b. b && list_all (is_ready view holdings) ts) s.ready
        ∙ ap (λ b. is_ready view holdings u && b) ss.ready;
    empty = refl;
  }

  module _ (new : Docs) where
    mutual
      grown_same : (t u : Tree) (g : Grown new t u) → KeepsChildren view new t u g
          → are_loaded (visited_nodes view t) ≡ true → Same t u
      grown_same t u (same_tile parts ts us g) k e =
          tile_same parts ts us (emptied new (list_of ts) (list_of us) g)
          (λ c w. all_grown_same (list_of ts) (list_of us) g (k c w)
          (holds_below is_loaded parts ts c w e))
      grown_same t u (read name facts key v found s) k e =
          let c : culls view facts ≡ true = unvisited name facts key e in
          same_culled (pending name facts key) v c (read_culled name facts v s c)

      all_grown_same : (ts us : List Tree) (g : AllGrown new ts us) → KeepsAll view new ts us g
          → are_loaded (flat_map (visited_nodes view) ts) ≡ true → AllSame ts us
      all_grown_same ts us none_grown k e = record { lines = refl; ready = refl; empty = refl }
      all_grown_same ts us (more_grown t u ts' us' g gs) k e =
          one_more t u ts' us' (grown_same t u g k.0 (holds_first is_loaded t ts' e))
          (all_grown_same ts' us' gs k.1 (holds_rest is_loaded t ts' e))
      all_grown_same ts us (dropped name facts key ts' us' why gs) k e = absurd k

    -- ---- roots

    root_lines : (ts us : List Tree) (g : AllGrown new ts us) → KeepsBelow view new ts us g
        → are_loaded (flat_map (visited_nodes view) ts) ≡ true
        → lines_in (flat_map (shown_tiles view holdings) ts)
        ≡ lines_in (flat_map (shown_tiles view holdings) us)
    root_lines ts us none_grown k e = refl
    root_lines ts us (more_grown t u ts' us' g gs) k e =
        flat_map-append (lines_of holdings) (shown_tiles view holdings t)
        (flat_map (shown_tiles view holdings) ts')
        ∙ ap (λ ls. ls ++ lines_in (flat_map (shown_tiles view holdings) ts'))
        (grown_same t u g k.0 (holds_first is_loaded t ts' e)).lines
        ∙ ap (λ ls. lines_in (shown_tiles view holdings u) ++ ls)
        (root_lines ts' us' gs k.1 (holds_rest is_loaded t ts' e))
        ∙ sym (flat_map-append (lines_of holdings) (shown_tiles view holdings u)
        (flat_map (shown_tiles view holdings) us'))
    root_lines ts us (dropped name facts key ts' us' why gs) k e =
        root_lines ts' us' gs k (holds_rest is_loaded (pending name facts key) ts' e)

  cut_listed : (root : Option Tree) → cut view holdings root
      ≡ lines_in (flat_map (shown_tiles view holdings) (option_to_list root))
  cut_listed None = refl
  cut_listed (Some t) = ap lines_in (sym (append-nil (shown_tiles view holdings t)))

  pub visits_listed : (p : Tree → Bool) (root : Option Tree)
      → list_all p (visits view root) ≡ true
      → list_all p (flat_map (visited_nodes view) (option_to_list root)) ≡ true
  visits_listed p None e = refl
  visits_listed p (Some t) e = ap (list_all p) (append-nil (visited_nodes view t)) ∙ e

  pub cut_stays : (new : Docs) (from to : Option Tree) (g : RootGrown new from to)
      → RootKeeps view new from to g → IsLoaded view from
      → cut view holdings from ≡ cut view holdings to
  cut_stays new from to g k e =
      cut_listed from
      ∙ root_lines new (option_to_list from) (option_to_list to) g k
      (visits_listed is_loaded from e)
      ∙ sym (cut_listed to)
