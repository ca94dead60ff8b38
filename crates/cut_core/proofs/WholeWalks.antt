-- How a walk of a whole tree ends.
use Rattle.std.proofs.Common.{◌≡◌, ◌+◌, ◌<◌, ◌≤◌, Option, Some, None, Result, Ok, Err, List, [], length, refl, sym, ◌∙◌, ap, subst, arith}
use Rattle.error_test.specs.Views.{ViewParts}
use Rattle.expanded_tree.specs.Tree.{Tree}
use Rattle.expanded_tree.specs.Standing.{Standing, Stand, StandIn}
use Rattle.cut_core.specs.declared.error.CutError.{CutError}
use Rattle.cut_core.specs.declared.error.CutError.TheVariants.{TooLarge, OutOfMemory}
use Rattle.cut_core.specs.Cut.{Holdings}
use Rattle.cut_core.specs.Distances.{measured_nodes, trees_in}
use Rattle.cut_core.specs.Opened.{OpensEach, OpensSome}
use Rattle.cut_core.specs.Visits.{to_open, visited_nodes, visits}
use Rattle.cut_core.specs.Walk.{Found, Walked, Stopped, Walks}
use Rattle.cut_core.specs.WholeWalk.{IsComplete, WalksWhole}
use Rattle.cut_core.proofs.Distances.{trees_measured, length-measured_nodes}
use Rattle.cut_core.proofs.Notes.{NotesMore-length}
use Rattle.cut_core.proofs.Standings.{StandIn-all, opened_each, opened_some, opened_none}

-- ---- from one result to another

pub whole_ok : {A B : Type 0} {view : ViewParts} {old new : Standing} (x : A) (y : B)
    → WalksWhole (Ok x) view old new → WalksWhole {A = B} (Ok y) view old new
whole_ok x y w = record { tree = w.tree; opens = w.opens; ends = w.ends }

pub whole_err : {A B : Type 0} {view : ViewParts} {old new : Standing} (e : CutError)
    → WalksWhole {A = A} (Err e) view old new → WalksWhole {A = B} (Err e) view old new
whole_err TooLarge w = record { tree = w.tree; opens = w.opens; ends = w.ends }
whole_err OutOfMemory w = record { tree = w.tree; opens = w.opens; ends = tt }

pub whole_memory : {A B : Type 0} {view : ViewParts} {old new : Standing} (r : Result A CutError)
    → WalksWhole r view old new → WalksWhole {A = B} (Err OutOfMemory) view old new
whole_memory r w = record { tree = w.tree; opens = w.opens; ends = tt }

-- ---- walks from the root

pub whole_unopened : {A : Type 0} (view : ViewParts) (old new : Standing)
    → new.tree ≡ old.tree → new.opened ≡ [] → WalksWhole {A = A} (Err OutOfMemory) view old new
whole_unopened view old new same none = record {
  tree = same;
  opens = opened_none new (to_open view (visits view old.tree)) none;
  ends = tt;
}

-- the tree is empty
pub whole_empty : {A : Type 0} (x : A) (view : ViewParts) (old new : Standing)
    → new.tree ≡ old.tree → new.tree ≡ None → new.opened ≡ [] → WalksWhole (Ok x) view old new
whole_empty x view old new same empty none =
    let gone : old.tree ≡ None = sym same ∙ empty in
    let nothing : to_open view (visits view old.tree) ≡ [] =
    ap (λ t. to_open view (visits view t)) gone in
    record {
      tree = same;
      opens = opened_none new (to_open view (visits view old.tree)) none;
      ends = record {
        within = omega (arith, ap (λ t. length (visits view t)) gone);
        opened =
            subst (λ ts. Stand new new.opened ts) (sym nothing)
            (subst (λ ns. Stand new ns []) (sym none) tt);
      };
    }

module _ (view : ViewParts) (holdings : Holdings) (old mid new : Standing) (t : Tree)
    (before after : Found)
    (ps : List Tree) (same : mid.tree ≡ old.tree) (root : mid.tree ≡ Some t)
    (none : mid.opened ≡ [])
    (nothing : length before.visits ≡ 0) where
  visits_are : visits view old.tree ≡ visited_nodes view t
  visits_are = ap (visits view) (sym same ∙ root)

  count : length (measured_nodes view 0 t) ≡ length (visits view old.tree)
  count = length-measured_nodes view 0 t ∙ sym (ap length visits_are)

  open_are : to_open view (trees_in (measured_nodes view 0 t)) ≡ to_open view (visits view old.tree)
  open_are = ap (to_open view) (trees_measured view 0 t ∙ sym visits_are)

  opens_only : OpensSome mid new (to_open view (trees_in (measured_nodes view 0 t)))
      → StandIn new new.opened (to_open view (visits view old.tree))
  opens_only h = subst (λ ts. StandIn new new.opened ts) open_are (opened_some none h)

  pub whole_walked : {A : Type 0} (x : A)
      → Walked mid new view holdings before after (measured_nodes view 0 t) ps
      → WalksWhole (Ok x) view old new
  whole_walked x w =
      let each = subst (λ ts. Stand new new.opened ts) open_are (opened_each none w.opens) in
      record {
        tree = w.keeps.tree ∙ same;
        opens = StandIn-all new.opened (to_open view (visits view old.tree)) each;
        ends = record {
          within = omega (
            arith,
            w.within,
            count,
            nothing,
            NotesMore-length view holdings before.visits after.visits
                (measured_nodes view 0 t) w.notes,
          );
          opened = each;
        };
      }

  stopped_tree : Stopped mid new view (measured_nodes view 0 t) → new.tree ≡ old.tree
  stopped_tree s = s.keeps.tree ∙ same

  pub whole_stopped : {A B : Type 0} (e : CutError)
      → Walks {A = B} (Err e) mid new view holdings before after (measured_nodes view 0 t) ps
      → WalksWhole {A = A} (Err e) view old new
  whole_stopped TooLarge w = record {
    tree = stopped_tree w.stopped;
    opens = opens_only w.stopped.opens;
    ends = omega (arith, w.ends, count, nothing);
  }
  whole_stopped OutOfMemory w =
      record { tree = stopped_tree w.stopped; opens = opens_only w.stopped.opens; ends = tt }
