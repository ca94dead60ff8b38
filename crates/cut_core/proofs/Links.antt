-- Where the visited nodes stand.
use Rattle.std.proofs.Common.{ℕ, zero, suc, ◌≡◌, ◌+◌, Bool, true, false, Option, Some, List, [], ◌∷◌, ◌++◌, length, take, map, refl, sym, ◌∙◌, ap, arith, append_assoc, length-append}
use Rattle.std.specs.List.{slice_get, slice_set}
use Rattle.std.proofs.lemmas.List.{length-map, map-append}
use Rattle.error_test.specs.Views.{ViewParts}
use Rattle.expanded_tree.specs.Tree.{Tree, tile, pending, Trees, no_trees, more_trees, list_of, from_list, children_of}
use Rattle.cut_core.specs.declared.findings.Visit.{Visit}
use Rattle.cut_core.specs.Cut.{is_culled, is_pending, wants}
use Rattle.cut_core.specs.Linked.{Linked, all_linked_nodes, linked, linked_nodes}
use Rattle.cut_core.specs.Links.{Link, LinksMore, link_in, link_of, links_in}
use Rattle.cut_core.proofs.Lists.{append-nil, taken}

-- ---- the linked nodes

from_list-list_of : (ts : Trees) → from_list (list_of ts) ≡ ts
from_list-list_of no_trees = refl
from_list-list_of (more_trees t ts) = ap (λ us. more_trees t us) (from_list-list_of ts)

pub linked_culled : (view : ViewParts) (p : Option ℕ) (at : ℕ) (t : Tree) → is_culled view t ≡ true
    → linked_nodes view p at t ≡ []
linked_culled view p at (tile parts children) c = rw c
linked_culled view p at (pending name facts key) c = rw c

pub linked_alone : (view : ViewParts) (p : Option ℕ) (at : ℕ) (t : Tree) → is_culled view t ≡ false
    → wants view t ≡ false → linked_nodes view p at t ≡ linked p t ∷ []
linked_alone view p at (tile parts children) c w = rw (c, w)
linked_alone view p at (pending name facts key) c w = rw c

pub linked_wants : (view : ViewParts) (p : Option ℕ) (at : ℕ) (t : Tree) → is_culled view t ≡ false
    → wants view t ≡ true → linked_nodes view p at t
    ≡ linked p t ∷ all_linked_nodes view (Some at) (at + 1) (from_list (children_of t))
linked_wants view p at (tile parts children) c w =
    rw (c, w)
    (ap (λ ts. linked p (tile parts children) ∷ all_linked_nodes view (Some at) (at + 1) ts)
    (sym (from_list-list_of children)))
linked_wants view p at (pending name facts key) c w = cc

-- a pending node wants no children
pub pending_wants : (view : ViewParts) (t : Tree) → is_pending t ≡ true → wants view t ≡ false
pending_wants view (tile parts children) h = cc
pending_wants view (pending name facts key) h = refl

linked_behind : (view : ViewParts) (p : Option ℕ) (at : ℕ) (ts : List Tree) (t : Tree)
    → all_linked_nodes view p at (from_list (ts ++ t ∷ []))
    ≡ all_linked_nodes view p at (from_list ts)
    ++ linked_nodes view p (at + length (all_linked_nodes view p at (from_list ts))) t
linked_behind view p at [] t =
    let same : at ≡ at + 0 = omega arith in
    append-nil (linked_nodes view p at t) ∙ ap (λ i. linked_nodes view p i t) same
linked_behind view p at (u ∷ ts) t =
    let first = linked_nodes view p at u in
    let rest = all_linked_nodes view p (at + length first) (from_list ts) in
    let same : (at + length first) + length rest ≡ at + length (first ++ rest) =
    omega (arith, length-append first rest) in
    ap (λ ns. first ++ ns) (linked_behind view p (at + length first) ts t)
    ∙ sym (append_assoc first rest
    (linked_nodes view p ((at + length first) + length rest) t))
    ∙ ap (λ i. (first ++ rest) ++ linked_nodes view p i t) same

-- ---- notes

link_noted : (view : ViewParts) (v : Visit) (p : Option ℕ) (t : Tree) → v.parent ≡ p
    → v.wants ≡ wants view t → link_in v ≡ link_of view (linked p t)
link_noted view v p t e f =
    ap (λ q. here q v.wants) e ∙ ap (here p) f
  where
    here : Option ℕ → Bool → Link
    here q b = record { parent = q; wants = b }

map-set : {A B : Type 0} (f : A → B) (xs : List A) (k : ℕ) (x : A)
    → map f (slice_set xs k x) ≡ slice_set (map f xs) k (f x)
map-set f [] k x = refl
map-set f (y ∷ ys) zero x = refl
map-set f (y ∷ ys) (suc k) x = ap (λ zs. f y ∷ zs) (map-set f ys k x)

set_behind : {A : Type 0} (xs : List A) (v w : A) (ys : List A)
    → slice_set ((xs ++ v ∷ []) ++ ys) (length xs) w ≡ xs ++ w ∷ ys
set_behind [] v w ys = refl
set_behind (x ∷ xs) v w ys = ap (λ zs. x ∷ zs) (set_behind xs v w ys)

module _ (view : ViewParts) where
  pub links_none : (xs ys : List Visit) (ns : List Linked) → ys ≡ xs → ns ≡ []
      → LinksMore view xs ys ns
  links_none xs ys ns e n =
      ap links_in e ∙ sym (append-nil (links_in xs))
      ∙ ap (λ ms. links_in xs ++ map (link_of view) ms) (sym n)

  pub links_one : (xs ys : List Visit) (ns : List Linked) (v : Visit) (p : Option ℕ) (t : Tree)
      → ys ≡ xs ++ v ∷ [] → v.parent ≡ p → v.wants ≡ wants view t → ns ≡ linked p t ∷ []
      → LinksMore view xs ys ns
  links_one xs ys ns v p t e q w one =
      ap links_in e ∙ map-append link_in xs (v ∷ [])
      ∙ ap (λ k. links_in xs ++ k ∷ []) (link_noted view v p t q w)
      ∙ ap (λ ms. links_in xs ++ map (link_of view) ms) (sym one)

  -- the notes behind a first one, which is written again
  pub links_again : (xs ys zs ws : List Visit) (below ns : List Linked) (v w : Visit)
      (p : Option ℕ) (t : Tree)
      → ys ≡ xs ++ v ∷ [] → LinksMore view ys zs below → ws ≡ slice_set zs (length xs) w
      → w.parent ≡ p → w.wants ≡ wants view t → ns ≡ linked p t ∷ below → LinksMore view xs ws ns
  links_again xs ys zs ws below ns v w p t e h again q l all =
      let more = map (link_of view) below in
      ap links_in again ∙ map-set link_in zs (length xs) w
      ∙ ap (λ ls. slice_set ls (length xs) (link_in w))
      (h ∙ ap (λ ls. ls ++ more) (ap links_in e ∙ map-append link_in xs (v ∷ [])))
      ∙ ap (λ k. slice_set ((links_in xs ++ link_in v ∷ []) ++ more) k (link_in w))
      (sym (length-map xs link_in))
      ∙ set_behind (links_in xs) (link_in v) (link_in w) more
      ∙ ap (λ k. links_in xs ++ k ∷ more) (link_noted view w p t q l)
      ∙ ap (λ ms. links_in xs ++ map (link_of view) ms) (sym all)

  links_length : (xs ys : List Visit) (ns : List Linked) → LinksMore view xs ys ns
      → length ys ≡ length xs + length ns
  links_length xs ys ns h =
      omega (
        arith,
        ap length h,
        length-append (links_in xs) (map (link_of view) ns),
        length-map ys link_in,
        length-map xs link_in,
        length-map ns (link_of view),
      )

  -- one more child
  pub links_child : (p : Option ℕ) (xs ys zs : List Visit) (ts : List Tree) (i : ℕ) (t : Tree)
      → slice_get ts i ≡ Some t
      → LinksMore view xs ys (all_linked_nodes view p (length xs) (from_list (take i ts)))
      → LinksMore view ys zs (linked_nodes view p (length ys) t)
      → LinksMore view xs zs (all_linked_nodes view p (length xs) (from_list (take (i + 1) ts)))
  links_child p xs ys zs ts i t e h k =
      let done = all_linked_nodes view p (length xs) (from_list (take i ts)) in
      let long = links_length xs ys done h in
      let child = linked_nodes view p (length xs + length done) t in
      k ∙ ap (λ n. links_in ys ++ map (link_of view) (linked_nodes view p n t)) long
      ∙ ap (λ ls. ls ++ map (link_of view) child) h
      ∙ append_assoc (links_in xs) (map (link_of view) done) (map (link_of view) child)
      ∙ ap (λ ls. links_in xs ++ ls) (sym (map-append (link_of view) done child))
      ∙ ap (λ ns. links_in xs ++ map (link_of view) ns)
      (sym (linked_behind view p (length xs) (take i ts) t))
      ∙ ap (λ us. links_in xs
      ++ map (link_of view) (all_linked_nodes view p (length xs) (from_list us)))
      (sym (taken ts i t e))
