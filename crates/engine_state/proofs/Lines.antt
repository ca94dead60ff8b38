-- The lines of a frame: each is resident, and without lengths and digests they are those of the cut.
use Rattle.std.specs.Prelude.{if◌then◌else◌}
use Rattle.std.proofs.Common.{ℕ, ◌≡◌, Bool, true, false, not, ◌||◌, cond, Option, Some, None, option_map, List, [], ◌∷◌, ◌++◌, map, find, filter_map, refl, sym, ◌∙◌, ap}
use Rattle.std.specs.List.{list_all, flat_map, cons_option}
use Rattle.tile_cache.specs.Residents.{same_text}
use Rattle.error_test.specs.Views.{ViewParts}
use Rattle.expanded_tree.specs.Tree.{Tree, tile, pending, Trees, no_trees, more_trees, name_of}
use Rattle.cut_core.specs.declared.line.CutLine.{CutLine}
use Rattle.cut_core.specs.Cut.{Holdings, is_culled, wants, adds, lacks_own, has_own, own_contents, itself, all_ready, shown_tiles, all_shown_tiles, lines_of, cut}
use Rattle.cut_core.proofs.Bools.{and_left, and_right}
use Rattle.engine_state.specs.declared.frame_line.FrameLine.{FrameLine}
use Rattle.engine_state.specs.declared.resident.Resident.{Resident}
use Rattle.engine_state.specs.State.{State}
use Rattle.engine_state.specs.Frames.{cut_lines, frame_lines, has_address, holdings, line_from, line_with, tree}
use Rattle.engine_state.proofs.Lists.{and_both, all_both}

-- ---- the cut shows residents alone

all_of : {A : Type 0} (p : A → Bool) (c w a r : Bool) (me below : List A)
    → list_all p me ≡ true → list_all p below ≡ true
    → list_all p (if c then [] else (if not w then me else (if a then me ++ below else
    (if r then below else me)))) ≡ true
all_of p true w a r me below h k = refl
all_of p false false a r me below h k = h
all_of p false true true r me below h k = all_both p me below h k
all_of p false true false true me below h k = k
all_of p false true false false me below h k = h

module _ (view : ViewParts) (holdings : Holdings) where
  itself_has : (t : Tree) → list_all (has_own holdings) (itself holdings t) ≡ true
  itself_has t =
      elim (has_own holdings t) as (λ b. has_own holdings t ≡ b
      → list_all (has_own holdings) (if b then t ∷ [] else []) ≡ true) [
        | true ↦ λ e. and_both (has_own holdings t) true e refl
        | false ↦ λ e. refl
      ] refl

  mutual
    shown_has : (t : Tree) → list_all (has_own holdings) (shown_tiles view holdings t) ≡ true
    shown_has (pending name facts key) = refl
    shown_has (tile parts children) =
        let t : Tree = tile parts children in
        all_of (has_own holdings) (is_culled view t) (wants view t) (adds t)
        (all_ready view holdings children || lacks_own holdings t) (itself holdings t)
        (all_shown_tiles view holdings children) (itself_has t) (all_shown_has children)

    all_shown_has : (ts : Trees)
        → list_all (has_own holdings) (all_shown_tiles view holdings ts) ≡ true
    all_shown_has no_trees = refl
    all_shown_has (more_trees t ts) =
        all_both (has_own holdings) (shown_tiles view holdings t)
        (all_shown_tiles view holdings ts) (shown_has t) (all_shown_has ts)

  list_lines : (name : List ℕ) (addresses : List (List ℕ))
      → list_all holdings.resident addresses ≡ true
      → let line : List ℕ → CutLine = λ a. record { tile = name; address = a } in
      list_all (λ l. holdings.resident l.address) (map line addresses) ≡ true
  list_lines name [] e = refl
  list_lines name (a ∷ rest) e =
      and_both (holdings.resident a) _ (and_left _ _ e)
      (list_lines name rest (and_right (holdings.resident a) _ e))

  tree_lines : (ts : List Tree) → list_all (has_own holdings) ts ≡ true
      → list_all (λ l. holdings.resident l.address) (flat_map (lines_of holdings) ts) ≡ true
  tree_lines [] e = refl
  tree_lines (t ∷ ts) e =
      all_both (λ l. holdings.resident l.address) (lines_of holdings t)
      (flat_map (lines_of holdings) ts)
      (list_lines (name_of t) (own_contents holdings t)
      (and_right (not (lacks_own holdings t)) _ (and_left _ _ e)))
      (tree_lines ts (and_right (has_own holdings t) _ e))

  pub cut_resident : (root : Option Tree)
      → list_all (λ l. holdings.resident l.address) (cut view holdings root) ≡ true
  cut_resident None = refl
  cut_resident (Some t) = tree_lines (shown_tiles view holdings t) (shown_has t)

-- ---- looking the lines up loses none

line_is : (rs : List Resident) (c : CutLine) (l : FrameLine) → line_from rs c ≡ Some l
    → record { tile = l.tile; address = l.address } ≡ c
line_is [] c l e = cc
line_is (r ∷ rs) c l e =
    let back : FrameLine → CutLine = λ x. record { tile = x.tile; address = x.address } in
    elim (same_text r.address c.address) as (λ b.
    option_map (line_with c)
    (cond b (Some r) (find (λ x. same_text x.address c.address) rs)) ≡ Some l
    → back l ≡ c) [
      | true ↦ λ h. let is : line_with c r ≡ l = cc in ap back (sym is)
      | false ↦ λ h. line_is rs c l h
    ] e

no_line : (rs : List Resident) (c : CutLine) → line_from rs c ≡ None
    → has_address rs c.address ≡ false
no_line [] c e = refl
no_line (r ∷ rs) c e =
    elim (same_text r.address c.address) as (λ b.
    option_map (line_with c)
    (cond b (Some r) (find (λ x. same_text x.address c.address) rs)) ≡ None
    → (b || has_address rs c.address) ≡ false) [
      | true ↦ λ h. cc
      | false ↦ λ h. no_line rs c h
    ] e

pub lines_are : (rs : List Resident) (cs : List CutLine)
    → list_all (λ c. has_address rs c.address) cs ≡ true
    → cut_lines (filter_map (line_from rs) cs) ≡ cs
lines_are rs [] e = refl
lines_are rs (c ∷ cs) e =
    elim (line_from rs c) as (λ o. line_from rs c ≡ o
    → cut_lines (cons_option o (filter_map (line_from rs) cs)) ≡ c ∷ cs) [
      | None ↦ λ h.
          let none = no_line rs c h in
          let there : has_address rs c.address ≡ true = and_left _ _ e in
          cc
      | Some l ↦ λ h.
          ap (λ x. x ∷ cut_lines (filter_map (line_from rs) cs)) (line_is rs c l h)
          ∙ ap (λ xs. c ∷ xs) (lines_are rs cs (and_right (has_address rs c.address) _ e))
    ] refl

pub frame_is_cut : (s : State) (view : ViewParts)
    → cut_lines (frame_lines s view) ≡ cut view (holdings s) (tree s)
frame_is_cut s view =
    lines_are s.residents (cut view (holdings s) (tree s)) (cut_resident view (holdings s) (tree s))
