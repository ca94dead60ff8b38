-- The lines of a cut over what a core has.
use Rattle.std.specs.Prelude.{IfErr, IfOk, OnOk}
use Rattle.std.proofs.Common.{ℕ, ◌≤◌, ◌≡◌, Bool, true, false, Ok, Err, List, length, nat_lt, refl, sym, ◌∙◌, ap, arith, lt-ltb, ltb-true}
use Rattle.std.specs.declared.result.Result.{Result}
use Rattle.std.proofs.Math.Path.{fun_ext}
use Rattle.error_test.specs.Views.{ViewParts}
use Rattle.expanded_tree.specs.Standing.{Standing}
use Rattle.cut_core.specs.declared.error.CutError.{CutError}
use Rattle.cut_core.specs.declared.error.CutError.TheVariants.{OutOfMemory, TooLarge}
use Rattle.cut_core.specs.declared.findings.TheConstants.{VISITED_LIMIT}
use Rattle.cut_core.specs.declared.line.CutLine.{CutLine}
use Rattle.cut_core.specs.Cut.{Holdings, cut}
use Rattle.cut_core.specs.Visits.{visits}
use Rattle.cut_core.specs.WholeWalk.{EndsBy}
use Rattle.tree_nodes.specs.Trees.{stored_tree}
use Rattle.view_notes.specs.Changes.{SameHoldings}
use Rattle.engine_state.specs.Frames.{holdings, is_too_large, tree}
use Rattle.engine_core.specs.declared.parts.Parts.{Parts}
use Rattle.engine_core.specs.Holding.{holdings_of}
use Rattle.engine_core.specs.Mirrors.{Lives, state_of}
use Rattle.engine_core.proofs.Sides.{holdings_are, tree_is}

-- holdings that agree at every address are the same
alike : (old new : Holdings) → SameHoldings old new → new ≡ old
alike old new same =
    ap (λ r. record { resident = r; absent = new.absent }) (fun_ext same.resident)
    ∙ ap (λ a. record { resident = old.resident; absent = a }) (fun_ext same.absent)

-- the cut is that of the state
pub cut_is : (p : Parts) (view : ViewParts) {E : Type 0} (result : Result (List CutLine) E)
    (old : Standing) → Lives p → old.tree ≡ stored_tree p.arena.store
    → IfOk result (λ lines.
    lines ≡ cut view (holdings_of p.cache.residents p.absent.keys) old.tree)
    → IfOk result (λ lines. lines ≡ cut view (holdings (state_of p)) (tree (state_of p)))
cut_is p view (Ok lines) old l t e =
    e
    ∙ ap (λ h. cut view h old.tree) (alike _ _ (holdings_are p l))
    ∙ ap (cut view (holdings (state_of p))) (t ∙ tree_is p l)
cut_is p view (Err x) old l t e = tt

few_visits : (n : ℕ) → n ≤ VISITED_LIMIT → nat_lt VISITED_LIMIT n ≡ false
few_visits n h = by (nat_lt VISITED_LIMIT n) refl
  where
    by : (b : Bool) → nat_lt VISITED_LIMIT n ≡ b → nat_lt VISITED_LIMIT n ≡ false
    by true e = let more = ltb-true VISITED_LIMIT n e in absurd (omega arith)
    by false e = e

-- a walk that ends with a cut visits no more nodes than it may
pub ends_within : (p : Parts) (view : ViewParts) {A : Type 0} (result : Result A CutError)
    (old new : Standing) → Lives p → old.tree ≡ stored_tree p.arena.store
    → EndsBy result view old new → OnOk result (is_too_large (state_of p) view ≡ false)
ends_within p view (Ok x) old new l t e =
    ap (λ r. nat_lt VISITED_LIMIT (length (visits view r))) (sym (t ∙ tree_is p l))
    ∙ few_visits (length (visits view old.tree)) e.within
ends_within p view (Err x) old new l t e = tt

-- one that ends as too large visits more
pub ends_too_large : (p : Parts) (view : ViewParts) {A : Type 0} (result : Result A CutError)
    (old new : Standing) → Lives p → old.tree ≡ stored_tree p.arena.store
    → EndsBy result view old new
    → IfErr result (λ e. e ≡ TooLarge → is_too_large (state_of p) view ≡ true)
ends_too_large p view (Ok x) old new l t e = tt
ends_too_large p view (Err TooLarge) old new l t e =
    λ k. ap (λ r. nat_lt VISITED_LIMIT (length (visits view r))) (sym (t ∙ tree_is p l))
    ∙ lt-ltb VISITED_LIMIT (length (visits view old.tree)) e
ends_too_large p view (Err OutOfMemory) old new l t e = λ k. cc
