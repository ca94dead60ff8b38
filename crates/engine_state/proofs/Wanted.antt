-- What is wanted is to be loaded: it isn't absent, and neither resident nor loaded.
use Rattle.std.specs.Prelude.{if◌then◌else◌}
use Rattle.std.proofs.Common.{ℕ, ◌≡◌, Bool, true, false, not, ◌&&◌, ◌||◌, cond, Option, Some, None, is_none, List, [], ◌∷◌, ◌++◌, map, filter, fold, length, nat_le, nat_lt, refl, sym, ◌∙◌, ap}
use Rattle.std.specs.List.{list_all, list_any, flat_map}
use Rattle.std.proofs.lemmas.List.Folds.{list_all-append}
use Rattle.tile_types.specs.declared.key.Key.{Key}
use Rattle.tile_types.specs.declared.order.Order.{Order}
use Rattle.tile_types.specs.declared.want.Want.{Want}
use Rattle.tile_types.specs.declared.key.Kind.{Kind}
use Rattle.tile_types.specs.declared.key.Kind.TheVariants.{Content, Tileset, Subtree}
use Rattle.tile_types.specs.Keys.{same_key, same_kind}
use Rattle.tile_types.specs.Wants.{Ranks}
use Rattle.tile_types.proofs.Keys.{key_is}
use Rattle.tile_cache.proofs.Texts.{not_true}
use Rattle.load_queue.specs.Best.{best, better, rank}
use Rattle.load_queue.specs.Queues.{QueuedWant, shown_wants}
use Rattle.error_test.specs.Views.{ViewParts}
use Rattle.expanded_tree.specs.Tree.{Tree, tile, pending, Trees, no_trees, more_trees, addresses_of, key_of}
use Rattle.cut_core.specs.declared.findings.TheConstants.{VISITED_LIMIT}
use Rattle.cut_core.specs.Cut.{Holdings, is_culled, wants}
use Rattle.cut_core.specs.Distances.{Measured, measured, measured_nodes, all_measured_nodes, measured_visits, distance_of}
use Rattle.cut_core.specs.Visits.{content_key, keeps_own, unless_too_many, visits}
use Rattle.cut_core.specs.Wants.{each_once, is_missing, joined, key_list, missing_contents, ranks_of, wants_of, want_with, with_want}
use Rattle.cut_core.proofs.Bools.{and_left, and_right}
use Rattle.doc_store.specs.Docs.{Docs, bytes_of, is_content, is_unread}
use Rattle.tree_expansion.specs.Expansion.{expand}
use Rattle.tree_expansion.specs.Whole.{all_keys, all_keys_in, all_root_keys, is_document, is_document_kind}
use Rattle.engine_state.specs.declared.seen.Seen.{Seen}
use Rattle.engine_state.specs.State.{State, contents, docs, documents}
use Rattle.engine_state.specs.Frames.{has_address, holdings, tree}
use Rattle.engine_state.specs.Loading.{best_want, is_flying, is_key_of, may_be_taken, queued, takeable, want, wanted_by}
use Rattle.engine_state.specs.Laws.{is_to_load}
use Rattle.engine_state.proofs.Lists.{and_both, all_both, all_filter, all_passed, all_weaker}

-- ---- what tree_expansion promises

abbrev pub NodesWait : Type 0
NodesWait = (docs : Docs) (root : List ℕ) → all_root_keys (is_unread docs) (expand docs root) ≡ true

abbrev pub NodesAreDocuments : Type 0
NodesAreDocuments = (docs : Docs) (root : List ℕ) → all_root_keys is_document (expand docs root) ≡ true

-- ---- tests of the keys of pending nodes

module _ (p q r : Key → Bool) (h : (k : Key) → p k ≡ true → q k ≡ true → r k ≡ true) where
  mutual
    keys_both : (t : Tree) → all_keys p t ≡ true → all_keys q t ≡ true → all_keys r t ≡ true
    keys_both (tile parts children) d e = trees_both children d e
    keys_both (pending name facts key) d e = h key d e

    trees_both : (ts : Trees) → all_keys_in p ts ≡ true → all_keys_in q ts ≡ true
        → all_keys_in r ts ≡ true
    trees_both no_trees d e = refl
    trees_both (more_trees t ts) d e =
        and_both (all_keys r t) _ (keys_both t (and_left _ _ d) (and_left _ _ e))
        (trees_both ts (and_right (all_keys p t) _ d) (and_right (all_keys q t) _ e))

  pub root_both : (o : Option Tree) → all_root_keys p o ≡ true → all_root_keys q o ≡ true
      → all_root_keys r o ≡ true
  root_both None d e = refl
  root_both (Some t) d e = keys_both t d e

-- ---- keys among others

-- a key that passes is among all keys where it is among those that pass
pub among : (p : Key → Bool) (key : Key) (ks : List Key) → p key ≡ true
    → list_any (same_key key) (filter p ks) ≡ list_any (same_key key) ks
among p key [] c = refl
among p key (k ∷ ks) c =
    elim (p k) as (λ b. p k ≡ b
    → list_any (same_key key) (cond b (k ∷ filter p ks) (filter p ks))
    ≡ (same_key key k || list_any (same_key key) ks)) [
      | true ↦ λ e. ap (λ b. same_key key k || b) (among p key ks c)
      | false ↦ λ e. among p key ks c
          ∙ ap (λ b. b || list_any (same_key key) ks) (sym (apart key k c e))
    ] refl
  where
    apart : (a b : Key) → p a ≡ true → p b ≡ false → same_key a b ≡ false
    apart a b x y = elim (same_key a b) as (λ t. same_key a b ≡ t → t ≡ false) [
      | true ↦ λ e. let same : p a ≡ p b = ap p (key_is a b e) in cc
      | false ↦ λ e. refl
    ] refl

-- a document's key is no content's
document_kind : (key : Key) → is_document key ≡ true → is_content key ≡ false
document_kind key e = by key.kind e
  where
    by : (k : Kind) → is_document_kind k ≡ true → same_kind k Content ≡ false
    by Content h = cc
    by Tileset h = refl
    by (Subtree o l c) h = refl

-- ---- pending nodes

module _ (s : State) where
  pending_to_load : (key : Key) → is_unread (docs s) key ≡ true → is_document key ≡ true
      → is_to_load s key ≡ true
  pending_to_load key u d =
      let other : is_content key ≡ false = document_kind key d in
      and_both (not (list_any (same_key key) s.absent)) _
      (ap not (sym (among (λ k. not (is_content k)) key s.absent (ap not other)))
      ∙ and_left _ _ u)
      (ap (λ b. if b then not (has_address s.residents key.address)
      else (is_document key && is_none (bytes_of s.loaded key))) other
      ∙ and_both (is_document key) _ d
      (and_right (not (list_any (same_key key) (documents s.absent))) _ u))

  nodes_to_load : NodesWait → NodesAreDocuments
      → all_root_keys (is_to_load s) (tree s) ≡ true
  unfolding tree
  nodes_to_load wait are =
      root_both (is_unread (docs s)) is_document (is_to_load s) pending_to_load
      (expand (docs s) s.root) (wait (docs s) s.root) (are (docs s) s.root)

  missing_to_load : (a : List ℕ) → is_missing (holdings s) a ≡ true
      → is_to_load s (content_key a) ≡ true
  missing_to_load a m =
      and_both (not (list_any (same_key (content_key a)) s.absent)) _
      (ap not (sym (among is_content (content_key a) s.absent refl)) ∙ and_left _ _ m)
      (and_right (not (list_any (same_key (content_key a)) (contents s.absent))) _ m)

-- ---- what nodes want

module _ (test : Key → Bool) (holdings : Holdings)
    (needed : (a : List ℕ) → is_missing holdings a ≡ true → test (content_key a) ≡ true) where
  missing_pass : (addresses : List (List ℕ))
      → list_all (λ a. test (content_key a)) (filter (is_missing holdings) addresses) ≡ true
  missing_pass addresses =
      all_weaker (is_missing holdings) (λ a. test (content_key a)) needed
      (filter (is_missing holdings) addresses) (all_passed (is_missing holdings) addresses)

  mapped : (ranks : Ranks) (addresses : List (List ℕ))
      → list_all (λ a. test (content_key a)) addresses ≡ true
      → list_all (λ w. test w.key) (map (want_with ranks) (map content_key addresses)) ≡ true
  mapped ranks [] e = refl
  mapped ranks (a ∷ rest) e =
      and_both (test (content_key a)) _ (and_left _ _ e)
      (mapped ranks rest (and_right (test (content_key a)) _ e))

  contents_pass : (keeps : Bool) (m : Measured)
      → list_all (λ w. test w.key)
      (map (want_with (ranks_of m)) (map content_key (missing_contents holdings keeps m.tree)))
      ≡ true
  contents_pass true m =
      mapped (ranks_of m) (filter (is_missing holdings) (addresses_of m.tree))
      (missing_pass (addresses_of m.tree))
  contents_pass false m = refl

  -- a tile wants contents alone, and a pending node its key
  tile_pass : (keeps : Bool) (m : Measured) → key_of m.tree ≡ None
      → list_all (λ w. test w.key) (wants_of holdings keeps m) ≡ true
  tile_pass keeps m e =
      ap (λ o. list_all (λ w. test w.key) (map (want_with (ranks_of m)) (key_list o
      ++ map content_key (missing_contents holdings keeps m.tree)))) e
      ∙ contents_pass keeps m

  pending_pass : (keeps : Bool) (m : Measured) (key : Key) → key_of m.tree ≡ Some key
      → test key ≡ true
      → list_all (λ w. test w.key) (wants_of holdings keeps m) ≡ true
  pending_pass keeps m key e p =
      ap (λ o. list_all (λ w. test w.key) (map (want_with (ranks_of m)) (key_list o
      ++ map content_key (missing_contents holdings keeps m.tree)))) e
      ∙ and_both (test key) _ p (contents_pass keeps m)

  module _ (view : ViewParts) where
    abbrev of_node : Measured → List Want
    of_node m = wants_of holdings (keeps_own view holdings m.tree) m

    abbrev pass_all : List Measured → Bool
    pass_all ms = list_all (λ w. test w.key) (flat_map of_node ms)

    more_pass : (ms ns : List Measured) → pass_all ms ≡ true → pass_all ns ≡ true
        → pass_all (ms ++ ns) ≡ true
    more_pass [] ns e h = h
    more_pass (m ∷ ms) ns e h =
        let both = sym (list_all-append (λ w. test w.key) (of_node m) (flat_map of_node ms)) ∙ e in
        all_both (λ w. test w.key) (of_node m) (flat_map of_node (ms ++ ns)) (and_left _ _ both)
        (more_pass ms ns (and_right (list_all (λ w. test w.key) (of_node m)) _ both) h)

    one_pass : (m : Measured) → list_all (λ w. test w.key) (of_node m) ≡ true
        → pass_all (m ∷ []) ≡ true
    one_pass m e = all_both (λ w. test w.key) (of_node m) [] e refl

    by_case : (c w : Bool) (m : Measured) (below : List Measured)
        → pass_all (m ∷ []) ≡ true → pass_all below ≡ true
        → pass_all (if c then [] else (if w then m ∷ below else m ∷ [])) ≡ true
    by_case true w m below e h = refl
    by_case false true m below e h = more_pass (m ∷ []) below e h
    by_case false false m below e h = e

    unless_culled : (c : Bool) (m : Measured) → pass_all (m ∷ []) ≡ true
        → pass_all (if c then [] else m ∷ []) ≡ true
    unless_culled true m e = refl
    unless_culled false m e = e

    mutual
      tree_pass : (above : ℕ) (t : Tree) → all_keys test t ≡ true
          → pass_all (measured_nodes view above t) ≡ true
      tree_pass above (pending name facts key) e =
          let t : Tree = pending name facts key in
          let m : Measured = measured view above t in
          unless_culled (is_culled view t) m
          (one_pass m (pending_pass (keeps_own view holdings t) m key refl e))
      tree_pass above (tile parts children) e =
          let t : Tree = tile parts children in
          let m : Measured = measured view above t in
          by_case (is_culled view t) (wants view t) m
          (all_measured_nodes view (distance_of view above t) children)
          (one_pass m (tile_pass (keeps_own view holdings t) m refl))
          (trees_pass (distance_of view above t) children e)

      trees_pass : (above : ℕ) (ts : Trees) → all_keys_in test ts ≡ true
          → pass_all (all_measured_nodes view above ts) ≡ true
      trees_pass above no_trees e = refl
      trees_pass above (more_trees t ts) e =
          more_pass (measured_nodes view above t) (all_measured_nodes view above ts)
          (tree_pass above t (and_left _ _ e))
          (trees_pass above ts (and_right (all_keys test t) _ e))

    root_pass : (root : Option Tree) → all_root_keys test root ≡ true
        → pass_all (measured_visits view root) ≡ true
    root_pass None e = refl
    root_pass (Some t) e = tree_pass 0 t e

-- ---- each key once

put_keys : (test : Key → Bool) (ws : List Want) (w : Want)
    → list_all (λ v. test v.key) ws ≡ true → test w.key ≡ true
    → list_all (λ v. test v.key) (with_want ws w) ≡ true
put_keys test [] w e k = and_both (test w.key) true k refl
put_keys test (v ∷ vs) w e k =
    elim (same_key w.key v.key) as (λ b.
    list_all (λ u. test u.key) (if b then record {
      key = v.key;
      facts = joined v.facts w.facts;
    } ∷ vs else v ∷ with_want vs w) ≡ true) [
      | true ↦ e
      | false ↦ and_both (test v.key) _ (and_left _ _ e)
          (put_keys test vs w (and_right (test v.key) _ e) k)
    ]

once_from : (test : Key → Bool) (ws done : List Want)
    → list_all (λ w. test w.key) ws ≡ true → list_all (λ w. test w.key) done ≡ true
    → list_all (λ w. test w.key) (fold with_want done ws) ≡ true
once_from test [] done e k = k
once_from test (w ∷ ws) done e k =
    once_from test ws (with_want done w) (and_right (test w.key) _ e)
    (put_keys test done w k (and_left _ _ e))

unless_passes : {A : Type 0} (p : A → Bool) (view : ViewParts) (root : Option Tree) (list : List A)
    → list_all p list ≡ true → list_all p (unless_too_many view root list) ≡ true
unless_passes p view root list e =
    elim (nat_le (length (visits view root)) VISITED_LIMIT) as (λ b.
    list_all p (if b then list else []) ≡ true) [ true ↦ e | false ↦ refl ]

-- ---- what a state wants

module _ (wait : NodesWait) (are : NodesAreDocuments) (s : State) where
  view_to_load : (view : ViewParts)
      → list_all (λ w. is_to_load s w.key) (wanted_by s view) ≡ true
  unfolding wanted_by
  view_to_load view =
      let test : Key → Bool = is_to_load s in
      let raw : List Want = flat_map
      (λ m. wants_of (holdings s) (keeps_own view (holdings s) m.tree) m)
      (measured_visits view (tree s)) in
      unless_passes (λ w. test w.key) view (tree s) (each_once raw)
      (once_from test raw []
      (root_pass test (holdings s) (missing_to_load s) view (tree s) (nodes_to_load s wait are))
      refl)

  views_to_load : (vs : List Seen)
      → list_all (λ w. is_to_load s w.key) (flat_map (λ v. wanted_by s v.view) vs) ≡ true
  views_to_load [] = refl
  views_to_load (v ∷ vs) =
      all_both (λ w. is_to_load s w.key) (wanted_by s v.view)
      (flat_map (λ x. wanted_by s x.view) vs) (view_to_load v.view) (views_to_load vs)

  pub want_to_load : list_all (λ w. is_to_load s w.key) (want s) ≡ true
  want_to_load =
      once_from (is_to_load s) (flat_map (λ v. wanted_by s v.view) s.views) []
      (views_to_load s.views) refl

-- ---- what is taken next

better_passes : (p : Want → Bool) (order : Order) (w : Want) (o : Option Want) → p w ≡ true
    → ((v : Want) → o ≡ Some v → p v ≡ true) → p (better order w o) ≡ true
better_passes p order w None e h = e
better_passes p order w (Some v) e h =
    elim (nat_lt (rank order v.facts) (rank order w.facts)) as (λ b.
    p (if b then v else w) ≡ true) [ true ↦ h v refl | false ↦ e ]

best_passes : (p : Want → Bool) (order : Order) (ws : List Want) → list_all p ws ≡ true
    → (v : Want) → best order ws ≡ Some v → p v ≡ true
best_passes p order [] e v h = cc
best_passes p order (w ∷ ws) e v h =
    let is : better order w (best order ws) ≡ v = cc in
    ap p (sym is) ∙ better_passes p order w (best order ws) (and_left _ _ e)
    (best_passes p order ws (and_right (p w) _ e))

first_passes : (p : Key → Bool) (order : Order) (ws : List Want) (key : Key)
    → list_all (λ w. p w.key) ws ≡ true → is_key_of key (best order ws) ≡ true → p key ≡ true
first_passes p order ws key e b =
    by (best order ws) (best_passes (λ w. p w.key) order ws e) b
  where
    by : (o : Option Want) → ((v : Want) → o ≡ Some v → p v.key ≡ true)
        → is_key_of key o ≡ true → p key ≡ true
    by None h k = cc
    by (Some v) h k = ap p (sym (key_is v.key key k)) ∙ h v refl

pub best_to_load : NodesWait → NodesAreDocuments → (s : State) (key : Key)
    → is_key_of key (best_want s) ≡ true → is_to_load s key ≡ true
best_to_load wait are s key e =
    first_passes (is_to_load s) s.order (takeable s) key
    (all_filter (λ w. is_to_load s w.key) (λ w. may_be_taken s w.key) (want s)
    (want_to_load wait are s)) e

pub best_not_flying : (s : State) (key : Key) → is_key_of key (best_want s) ≡ true
    → is_flying s key ≡ false
best_not_flying s key e =
    let may : may_be_taken s key ≡ true = first_passes (may_be_taken s) s.order (takeable s) key
    (all_passed (λ w. may_be_taken s w.key) (want s)) e in
    not_true (is_flying s key) (and_left _ _ may)

-- ---- what is to be loaded is missing

pub load_resident : (s : State) (key : Key) → is_to_load s key ≡ true → is_content key ≡ true
    → has_address s.residents key.address ≡ false
load_resident s key t c =
    not_true (has_address s.residents key.address)
    (ap (λ b. if b then not (has_address s.residents key.address)
    else (is_document key && is_none (bytes_of s.loaded key))) (sym c)
    ∙ and_right (not (list_any (same_key key) s.absent)) _ t)

other_loads : (s : State) (key : Key) → is_to_load s key ≡ true → is_content key ≡ false
    → (is_document key && is_none (bytes_of s.loaded key)) ≡ true
other_loads s key t c =
    ap (λ b. if b then not (has_address s.residents key.address)
    else (is_document key && is_none (bytes_of s.loaded key))) (sym c)
    ∙ and_right (not (list_any (same_key key) s.absent)) _ t

abbrev key_of_kind : Kind → List ℕ → Key
key_of_kind kind address = record { kind = kind; address = address }

-- a content's key is that of its address
content_is : (key : Key) → is_content key ≡ true → content_key key.address ≡ key
content_is key c = ap (λ k. key_of_kind k key.address) (sym (by key.kind c))
  where
    by : (k : Kind) → same_kind k Content ≡ true → k ≡ Content
    by Content h = refl
    by Tileset h = cc
    by (Subtree o l c') h = cc

pub load_absent : (s : State) (key : Key) → is_to_load s key ≡ true → is_content key ≡ true
    → (holdings s).absent key.address ≡ false
load_absent s key t c =
    among is_content (content_key key.address) s.absent refl
    ∙ ap (λ k. list_any (same_key k) s.absent) (content_is key c)
    ∙ not_true (list_any (same_key key) s.absent) (and_left _ _ t)

pub load_unread : (s : State) (key : Key) → is_to_load s key ≡ true → is_content key ≡ false
    → is_unread (docs s) key ≡ true
load_unread s key t c =
    and_both (not (list_any (same_key key) (documents s.absent))) _
    (ap not (among (λ k. not (is_content k)) key s.absent (ap not c)) ∙ and_left _ _ t)
    (and_right (is_document key) _ (other_loads s key t c))

pub load_document : (s : State) (key : Key) → is_to_load s key ≡ true → is_content key ≡ false
    → is_document key ≡ true
load_document s key t c = and_left _ _ (other_loads s key t c)

-- ---- a queue of what is wanted

pub queue_shows : (s : State) (ws : List Want)
    → shown_wants (map (queued s) ws) ≡ filter (λ w. may_be_taken s w.key) ws
queue_shows s [] = refl
queue_shows s (w ∷ ws) =
    let more : List QueuedWant = filter (λ q. not q.hidden) (map (queued s) ws) in
    let fewer : List Want = filter (λ v. may_be_taken s v.key) ws in
    elim (may_be_taken s w.key) as (λ b.
    map (λ q. q.want) (cond (not (not b)) (queued s w ∷ more) more)
    ≡ cond b (w ∷ fewer) fewer) [
      | true ↦ ap (λ vs. w ∷ vs) (queue_shows s ws)
      | false ↦ queue_shows s ws
    ]
