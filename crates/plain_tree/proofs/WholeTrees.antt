-- The nodes of a whole tree, level by level.
use Rattle.std.proofs.Common.{ℕ, zero, suc, ◌⊎◌, inl, inr, ◌≡◌, ◌+◌, ◌-◌, ◌<◌, ◌≤◌, Option, List, [], ◌∷◌, ◌++◌, length, get_or, take, drop, refl, sym, ◌∙◌, ap, subst, arith, length-append, length-drop, take_all}
use Rattle.std.specs.List.{slice_get}
use Rattle.std.proofs.Math.Seq.{drop-append_seam}
use Rattle.std.proofs.lemmas.List.{drop-append-le, take-append-le, drop_all, get_or_append_left, get_or-append-add}
use Rattle.std.proofs.lemmas.Bool.{cases_lt}
use Rattle.doc_store.specs.Store.{Stored}
use Rattle.expanded_tree.specs.Tree.{Tree, children_of, tree_size}
use Rattle.tree_nodes.specs.declared.error.ListError.{ListError}
use Rattle.tree_nodes.specs.declared.node_list.NodeList.{NodeList}
use Rattle.tree_nodes.specs.TreeIn.{tree_in}
use Rattle.tree_nodes.specs.Nodes.{IsSoundList, node_trees}
use Rattle.plain_tree.specs.Windows.{IsParent, end_of, first_of, window}
use Rattle.tree_nodes.specs.Growth.{Grows, HasFew, IsWithin, Refuses}
use Rattle.plain_tree.specs.Grown.{IsGrown}
use Rattle.tree_nodes.proofs.Growing.{grows_length, length-node_trees}
use Rattle.tree_nodes.proofs.NodeTrees.{tree_left}
use Rattle.tree_nodes.proofs.Refusals.{refuses_more}
use Rattle.tree_nodes.specs.Waits.{pending_count, top_waits, tops_wait}
use Rattle.tree_nodes.proofs.Waits.{all_wait, all_wait-append, tops_wait-append, waits-children}
use Rattle.plain_tree.proofs.Sizes.{length_le-sizes, size-children, sizes, sizes-append}

-- the nodes before the place have their children, and those behind it none yet
pub record Levels (store : Stored) (limit : Option ℕ) (old now : NodeList)
    (ends : List ℕ) (place : ℕ) : Type 0 where
  pub sound : IsSoundList store now
  pub some : 0 < length now.nodes.items
  pub past : place ≤ length now.nodes.items
  pub bounds : length ends ≡ place + 1
  pub last : get_or ends place 0 ≡ length now.nodes.items
  pub parents : (i : ℕ) → i < place → IsParent (node_trees store now) ends i
  pub root : slice_get (node_trees store now) 0 ≡ slice_get (node_trees store old) 0
  pub counted : place + sizes (drop place (node_trees store now))
      ≡ tree_size (tree_in (node_trees store old) 0)
  pub within : IsWithin limit 1 → IsWithin limit (length now.nodes.items)
  pub waits : length old.tables.waiting.items ≡ top_waits (tree_in (node_trees store old) 0)
      → length now.tables.waiting.items + all_wait (drop place (node_trees store now))
      ≡ pending_count (tree_in (node_trees store old) 0) + tops_wait
      (drop place (node_trees store now))

one_waits : (ts : List Tree) → length ts ≡ 1
    → (all_wait ts ≡ pending_count (tree_in ts 0)) × (tops_wait ts ≡ top_waits (tree_in ts 0))
one_waits [] e = absurd (omega (arith, e))
one_waits (t ∷ []) e = (omega arith, omega arith)
one_waits (t ∷ u ∷ us) e = absurd (omega (arith, e))

only_one : (ts : List Tree) → length ts ≡ 1 → sizes ts ≡ tree_size (tree_in ts 0)
only_one [] e = absurd (omega (arith, e))
only_one (t ∷ []) e = omega arith
only_one (t ∷ u ∷ us) e = absurd (omega (arith, e))

pub begins : (store : Stored) (limit : Option ℕ) (list : NodeList) → IsSoundList store list
    → length list.nodes.items ≡ 1 → (ends : List ℕ) → ends ≡ 1 ∷ []
    → Levels store limit list list ends 0
begins store limit list sound one ends bounds = record {
  sound = sound;
  some = omega (arith, one);
  past = omega arith;
  bounds = ap length bounds;
  last = ap (λ bs. get_or bs 0 0) bounds ∙ sym one;
  parents = λ i h. absurd (omega arith);
  root = refl;
  counted =
      omega (
        arith,
        only_one (node_trees store list)
            (omega (arith, length-node_trees store list, one)),
      );
  within = λ h. subst (IsWithin limit) (sym one) h;
  waits = λ h.
      let first =
      one_waits (node_trees store list) (omega (arith, length-node_trees store list, one)) in
      omega (arith, h, first.0, first.1);
}

-- ---- windows

-- what stands behind a list changes nothing in a window of it
window_left : (ts us : List Tree) (first end : ℕ) → first ≤ end → end ≤ length ts
    → window (ts ++ us) first end ≡ window ts first end
window_left ts us first end h k =
    ap (take (end - first)) (drop-append-le first ts us (omega arith))
    ∙ take-append-le (end - first) (drop first ts) us (omega (arith, length-drop first ts))

window_last : (ts us : List Tree) (first end : ℕ) → first ≡ length ts → end ≡ length ts + length us
    → window (ts ++ us) first end ≡ us
window_last ts us first end e f =
    ap (λ k. take (end - first) (drop k (ts ++ us))) e
    ∙ ap (take (end - first)) (drop-append_seam ts us)
    ∙ take_all (end - first) us (omega (arith, e, f))

parent_stays : (ts us : List Tree) (bounds more : List ℕ) (place : ℕ) → place < length ts
    → IsParent ts bounds place → IsParent (ts ++ us) (bounds ++ more) place
parent_stays ts us bounds more place h p =
    let first : first_of (bounds ++ more) place ≡ first_of bounds place =
    get_or_append_left bounds more 0 place (omega (arith, p.there)) in
    let end : end_of (bounds ++ more) place ≡ end_of bounds place =
    get_or_append_left bounds more 0 (place + 1) p.there in
    record {
      there = omega (arith, p.there, length-append bounds more);
      ordered = omega (arith, p.ordered, first, end);
      within = omega (arith, p.within, end, length-append ts us);
      few = subst HasFew (sym (tree_left ts us place h)) p.few;
      children = ap children_of (tree_left ts us place h) ∙ p.children
          ∙ sym (window_left ts us (first_of bounds place) (end_of bounds place) p.ordered p.within)
          ∙ ap (λ k. window (ts ++ us) k (end_of bounds place)) (sym first)
          ∙ ap (window (ts ++ us) (first_of (bounds ++ more) place)) (sym end);
    }

-- the node whose children are the last
parent_last : (ts : List Tree) (bounds : List ℕ) (place end : ℕ) → place < length ts
    → length bounds ≡ place + 1 → get_or bounds place 0 ≡ length ts
    → HasFew (tree_in ts place)
    → end ≡ length ts + length (children_of (tree_in ts place))
    → IsParent (ts ++ children_of (tree_in ts place)) (bounds ++ end ∷ []) place
parent_last ts bounds place end h long last few end_is =
    let us = children_of (tree_in ts place) in
    let first_at : first_of (bounds ++ end ∷ []) place ≡ length ts =
    get_or_append_left bounds (end ∷ []) 0 place (omega (arith, long)) ∙ last in
    let end_at : end_of (bounds ++ end ∷ []) place ≡ end =
    ap (λ k. get_or (bounds ++ end ∷ []) k 0) (omega (arith, long)) ∙ get_or-append-add bounds
    (end ∷ []) 0 0 in
    record {
      there = omega (arith, long, length-append bounds (end ∷ []));
      ordered = omega (arith, first_at, end_at, end_is);
      within = omega (arith, end_at, end_is, length-append ts us);
      few = subst HasFew (sym (tree_left ts us place h)) few;
      children = ap children_of (tree_left ts us place h)
          ∙ sym (window_last ts us (first_of (bounds ++ end ∷ []) place)
          (end_of (bounds ++ end ∷ []) place) first_at (end_at ∙ end_is));
    }

first_stays : (ts us : List Tree) → 0 < length ts → slice_get (ts ++ us) 0 ≡ slice_get ts 0
first_stays [] us h = absurd (omega arith)
first_stays (t ∷ ts) us h = refl

-- ---- steps

drop_next : (ts : List Tree) (i : ℕ) → i < length ts → drop i ts ≡ tree_in ts i ∷ drop (i + 1) ts
drop_next [] i h = absurd (omega arith)
drop_next (t ∷ ts) zero h = refl
drop_next (t ∷ ts) (suc i) h = drop_next ts i (omega arith)
    ∙ ap (λ k. tree_in ts i ∷ drop k (t ∷ ts)) (next i)
  where
    next : (n : ℕ) → suc (n + 1) ≡ suc n + 1
    next n = omega arith

module _ (store : Stored) (limit : Option ℕ) (old now : NodeList) (ends : List ℕ)
    (place : ℕ) (w : Levels store limit old now ends place) where
  abbrev trees : List Tree
  trees = node_trees store now

  long : length (node_trees store now) ≡ length now.nodes.items
  long = length-node_trees store now

  pub ended : length now.nodes.items ≤ place → IsGrown store limit old now ends
  ended h = record {
    sound = w.sound;
    root = w.root;
    children = λ i k. w.parents i (omega (arith, long, h));
    counted =
        omega (
          arith,
          w.counted,
          w.past,
          h,
          ap sizes (drop_all place (node_trees store now)
              (omega (arith, long, h))),
        );
    within = w.within;
    waits = λ k.
        let none : drop place (node_trees store now) ≡ [] =
        drop_all place (node_trees store now) (omega (arith, long, h)) in
        omega (arith, w.waits k, ap all_wait none, ap tops_wait none);
  }

  module _ (inside : place < length now.nodes.items) where
    abbrev here : List Tree
    here = children_of (tree_in (node_trees store now) place)

    here_first : drop place (node_trees store now)
        ≡ tree_in (node_trees store now) place ∷ drop (place + 1) (node_trees store now)
    here_first = drop_next (node_trees store now) place (omega (arith, long, inside))

    sizes_here : sizes (drop place (node_trees store now))
        ≡ sizes (children_of (tree_in (node_trees store now) place)) + 1
        + sizes (drop (place + 1) (node_trees store now))
    sizes_here =
        omega (arith, ap sizes here_first, size-children (tree_in (node_trees store now) place))

    waits_here : all_wait (drop place (node_trees store now))
        ≡ top_waits (tree_in (node_trees store now) place) + all_wait
        (children_of (tree_in (node_trees store now) place))
        + all_wait (drop (place + 1) (node_trees store now))
    waits_here =
        omega (arith, ap all_wait here_first, waits-children (tree_in (node_trees store now) place))

    tops_here : tops_wait (drop place (node_trees store now))
        ≡ top_waits (tree_in (node_trees store now) place) + tops_wait
        (drop (place + 1) (node_trees store now))
    tops_here = ap tops_wait here_first

    pub refused : (e : ListError)
        → Refuses limit
        (length now.nodes.items + length (children_of (tree_in (node_trees store now) place))) e
        → Refuses limit (tree_size (tree_in (node_trees store old) 0)) e
    refused e r =
        refuses_more limit (length now.nodes.items + length here)
        (tree_size (tree_in (node_trees store old) 0)) e
        (omega (
          arith,
          w.counted,
          sizes_here,
          length_le-sizes here,
          length_le-sizes
              (drop (place + 1) (node_trees store now)),
          length-drop (place + 1)
              (node_trees store now),
          long,
        )) r

    pub smaller : place < tree_size (tree_in (node_trees store old) 0)
    smaller = omega (arith, w.counted, sizes_here)

    pub stepped : (new last : NodeList) (more : List ℕ) (end : ℕ)
        → Grows store limit now new (children_of (tree_in (node_trees store now) place))
        → HasFew (tree_in (node_trees store now) place)
        → end ≡ length new.nodes.items
        → last.nodes.items ≡ new.nodes.items → node_trees store last ≡ node_trees store new
        → last.tables.waiting.items ≡ new.tables.waiting.items
        → (IsSoundList store new → IsSoundList store last)
        → more ≡ ends ++ end ∷ []
        → Levels store limit old last more (place + 1)
    stepped new last more end g few end_is nodes same waiting sound bounds =
        let all : node_trees store last ≡ node_trees store now ++ here = same ∙ g.trees in
        let count : length new.nodes.items ≡ length now.nodes.items + length here =
        grows_length store limit now new here g in
        let counted : length last.nodes.items ≡ length new.nodes.items = ap length nodes in
        record {
          sound = sound g.sound;
          some = omega (arith, w.some, count, counted);
          past = omega (arith, inside, count, counted);
          bounds =
              omega (arith, ap length bounds, length-append ends (end ∷ []), w.bounds);
          last = ap (λ bs. get_or bs (place + 1) 0) bounds
              ∙ ap (λ k. get_or (ends ++ end ∷ []) k 0) (omega (arith, w.bounds))
              ∙ get_or-append-add ends (end ∷ []) 0 0 ∙ end_is ∙ sym counted;
          parents = λ i h. subst (λ ts. IsParent ts more i) (sym all)
              (subst (λ bs. IsParent (node_trees store now ++ here) bs i) (sym bounds)
              (parents_now i h));
          root = ap (λ ts. slice_get ts 0) all
              ∙ first_stays (node_trees store now) here (omega (arith, long, w.some)) ∙ w.root;
          counted = omega (
            arith,
            w.counted,
            sizes_here,
            ap (λ ts. sizes (drop (place + 1) ts)) all,
            ap sizes (drop-append-le (place + 1) (node_trees store now) here
                (omega (arith, long, inside))),
            sizes-append (drop (place + 1) (node_trees store now)) here,
          );
          within = λ h. subst (IsWithin limit) (sym counted) (g.within (w.within h));
          waits = λ h.
              let left = drop (place + 1) (node_trees store now) in
              let rest : drop (place + 1) (node_trees store last) ≡ left ++ here =
              ap (drop (place + 1)) all ∙ drop-append-le (place + 1) (node_trees store now) here
              (omega (arith, long, inside)) in
              omega (
                arith,
                w.waits h,
                waits_here,
                tops_here,
                ap length waiting,
                g.waits,
                ap all_wait rest,
                ap tops_wait rest,
                all_wait-append left here,
                tops_wait-append left here,
              );
        }
      where
        parents_now : (i : ℕ) → i < place + 1
            → IsParent (node_trees store now ++ children_of (tree_in (node_trees store now) place))
            (ends ++ end ∷ []) i
        parents_now i h = by_place (cases_lt i place)
          where
            last_one : IsParent (node_trees store now ++ children_of
                (tree_in (node_trees store now) place)) (ends ++ end ∷ []) place
            last_one = parent_last (node_trees store now) ends place end
                (omega (arith, long, inside)) w.bounds (w.last ∙ sym long) few
                (omega (
                  arith,
                  end_is,
                  grows_length store limit now new
                      (children_of (tree_in (node_trees store now) place)) g,
                  long,
                ))

            by_place : ((i < place) ⊎ (place ≤ i))
                → IsParent (node_trees store now ++ children_of
                (tree_in (node_trees store now) place)) (ends ++ end ∷ []) i
            by_place (inl k) =
                parent_stays (node_trees store now)
                (children_of (tree_in (node_trees store now) place)) ends (end ∷ []) i
                (omega (arith, k, long, inside)) (w.parents i k)
            by_place (inr k) =
                let here_is : place ≡ i = omega (arith, h, k) in
                subst (IsParent (node_trees store now ++ children_of
                (tree_in (node_trees store now) place)) (ends ++ end ∷ []))
                here_is last_one
