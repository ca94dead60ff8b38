-- The visited nodes with their distances, read off a tree without matching on it.
use Rattle.std.proofs.Common.{ℕ, ◌≡◌, Bool, true, false, Option, Some, None, List, [], ◌∷◌, ◌++◌, length, map, refl, sym, ◌∙◌, ap}
use Rattle.std.specs.List.{flat_map}
use Rattle.std.proofs.lemmas.List.{length-map, map-append}
use Rattle.error_test.specs.Views.{ViewParts}
use Rattle.tile_types.specs.declared.key.Key.{Key}
use Rattle.expanded_tree.specs.Tree.{Tree, tile, pending, Trees, no_trees, more_trees, list_of, children_of, key_of}
use Rattle.cut_core.specs.Cut.{is_culled, wants, from_root}
use Rattle.cut_core.specs.Visits.{visited_nodes, visits}
use Rattle.cut_core.specs.Distances.{Measured, distance_of, measured, measured_nodes, all_measured_nodes, measured_below, measured_visits, trees_in}
use Rattle.cut_core.proofs.CutSteps.{visited_culled, visited_alone, visited_wants}

all_measured-list : (view : ViewParts) (d : ℕ) (ts : Trees)
    → all_measured_nodes view d ts ≡ flat_map (measured_nodes view d) (list_of ts)
all_measured-list view d no_trees = refl
all_measured-list view d (more_trees t ts) =
    ap (λ ms. measured_nodes view d t ++ ms) (all_measured-list view d ts)

pub measured_culled : (view : ViewParts) (d : ℕ) (t : Tree)
    → is_culled view t ≡ true → measured_nodes view d t ≡ []
measured_culled view d (tile parts children) c = rw c
measured_culled view d (pending name facts key) c = rw c

pub measured_alone : (view : ViewParts) (d : ℕ) (t : Tree)
    → is_culled view t ≡ false → wants view t ≡ false
    → measured_nodes view d t ≡ measured view d t ∷ []
measured_alone view d (tile parts children) c w = rw (c, w)
measured_alone view d (pending name facts key) c w = rw c

pub measured_pending : (view : ViewParts) (d : ℕ) (t : Tree) (key : Key)
    → is_culled view t ≡ false → key_of t ≡ Some key
    → measured_nodes view d t ≡ measured view d t ∷ []
measured_pending view d (tile parts children) key c k = cc
measured_pending view d (pending name facts key') key c k = rw c

pub measured_wants : (view : ViewParts) (d : ℕ) (t : Tree)
    → is_culled view t ≡ false → wants view t ≡ true
    → measured_nodes view d t ≡ measured view d t ∷ measured_below view (distance_of view d t) t
measured_wants view d (tile parts children) c w =
    rw (c, w)
    (ap (λ ms. measured view d (tile parts children) ∷ ms)
    (all_measured-list view (distance_of view d (tile parts children)) children))
measured_wants view d (pending name facts key) c w = cc

-- a visited node begins what it visits
pub measured_first : (view : ViewParts) (d : ℕ) (t : Tree) → is_culled view t ≡ false
    → (rest : List Measured) × (measured_nodes view d t ≡ measured view d t ∷ rest)
measured_first view d t c = by_wants (wants view t) refl
  where
    by_wants : (b : Bool) → wants view t ≡ b
        → (rest : List Measured) × (measured_nodes view d t ≡ measured view d t ∷ rest)
    by_wants true w = (measured_below view (distance_of view d t) t, measured_wants view d t c w)
    by_wants false w = ([], measured_alone view d t c w)

trees_in-append : (ms ns : List Measured) → trees_in (ms ++ ns) ≡ trees_in ms ++ trees_in ns
trees_in-append ms ns = map-append (λ m. m.tree) ms ns

visited_step : (view : ViewParts) (d : ℕ) (t : Tree)
    → ((e : ℕ) → trees_in (measured_below view e t) ≡ flat_map (visited_nodes view) (children_of t))
    → trees_in (measured_nodes view d t) ≡ visited_nodes view t
visited_step view d t below = by_case (is_culled view t) refl (wants view t) refl
  where
    by_case : (c : Bool) → is_culled view t ≡ c → (w : Bool) → wants view t ≡ w
        → trees_in (measured_nodes view d t) ≡ visited_nodes view t
    by_case true c w e = ap trees_in (measured_culled view d t c) ∙ sym (visited_culled view t c)
    by_case false c false w =
        ap trees_in (measured_alone view d t c w) ∙ sym (visited_alone view t c w)
    by_case false c true w =
        ap trees_in (measured_wants view d t c w)
        ∙ ap (λ ts. t ∷ ts) (below (distance_of view d t)) ∙ sym (visited_wants view t c w)

-- the nodes whose distances are taken are the visited ones
mutual
  pub trees_measured : (view : ViewParts) (d : ℕ) (t : Tree)
      → trees_in (measured_nodes view d t) ≡ visited_nodes view t
  trees_measured view d (tile parts children) =
      visited_step view d (tile parts children) (λ e. trees_below view e children)
  trees_measured view d (pending name facts key) =
      visited_step view d (pending name facts key) (λ e. refl)

  trees_below : (view : ViewParts) (d : ℕ) (ts : Trees)
      → trees_in (flat_map (measured_nodes view d) (list_of ts))
      ≡ flat_map (visited_nodes view) (list_of ts)
  trees_below view d no_trees = refl
  trees_below view d (more_trees t ts) =
      trees_in-append (measured_nodes view d t) (flat_map (measured_nodes view d) (list_of ts))
      ∙ ap (λ us. us ++ trees_in (flat_map (measured_nodes view d) (list_of ts)))
      (trees_measured view d t)
      ∙ ap (λ us. visited_nodes view t ++ us) (trees_below view d ts)

pub trees_visited : (view : ViewParts) (root : Option Tree)
    → trees_in (measured_visits view root) ≡ visits view root
trees_visited view None = refl
trees_visited view (Some t) = trees_measured view 0 t

pub length-measured_nodes : (view : ViewParts) (d : ℕ) (t : Tree)
    → length (measured_nodes view d t) ≡ length (visited_nodes view t)
length-measured_nodes view d t =
    sym (length-map (measured_nodes view d t) (λ m. m.tree)) ∙ ap length (trees_measured view d t)
