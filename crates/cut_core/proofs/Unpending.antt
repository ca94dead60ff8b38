-- Views that want nothing while every content is there: no node that they visit is pending.
use Rattle.std.proofs.Common.{◌≡◌, ◌≢◌, true, false, not, ◌&&◌, Bool, Option, List, [], ◌∷◌, ◌++◌, fold}
use Rattle.std.proofs.Common.{refl, sym, ap, ◌∙◌}
use Rattle.std.specs.List.{list_all, flat_map}
use Rattle.error_test.specs.Views.{ViewParts}
use Rattle.tile_types.specs.Keys.{same_key}
use Rattle.tile_types.specs.declared.want.Want.{Want}
use Rattle.expanded_tree.specs.Tree.{Tree, tile, pending}
use Rattle.cut_core.specs.Cut.{Holdings, is_pending}
use Rattle.cut_core.specs.Distances.{Measured, measured_visits, trees_in}
use Rattle.cut_core.specs.Laws.{IsLoaded}
use Rattle.cut_core.specs.Visits.{IsWithinLimit, keeps_own}
use Rattle.cut_core.specs.Wants.{each_once, wanted, wants_of, with_want}
use Rattle.cut_core.proofs.Distances.{trees_visited}
use Rattle.cut_core.proofs.Wanting.{unless_within}

-- a list of wants with one more isn't empty
one_more_left : (ws : List Want) (w : Want) → with_want ws w ≢ []
one_more_left [] w e = cc
one_more_left (v ∷ vs) w e =
    elim (same_key w.key v.key) as (λ b. same_key w.key v.key ≡ b → ⊥) [
      | true ↦ λ s. cc
      | false ↦ λ s. cc
    ] refl

none_folded : (ws acc : List Want) → fold with_want acc ws ≡ [] → (acc ≡ []) × (ws ≡ [])
none_folded [] acc e = (e, refl)
none_folded (w ∷ ws) acc e = absurd (one_more_left acc w (none_folded ws (with_want acc w) e).0)

append_none : {A : Type 0} (xs ys : List A) → xs ++ ys ≡ [] → (xs ≡ []) × (ys ≡ [])
append_none [] ys e = (refl, e)
append_none (x ∷ xs) ys e = cc

-- a node that wants nothing is no pending one
not_pending : (holdings : Holdings) (keeps : Bool) (m : Measured) → wants_of holdings keeps m ≡ []
    → is_pending m.tree ≡ false
not_pending holdings keeps m e =
    elim m.tree as (λ t. m.tree ≡ t → is_pending t ≡ false) [
      | tile parts ts ↦ λ is. refl
      | pending name facts key ↦ λ is. cc
    ] refl

none_pending : (view : ViewParts) (holdings : Holdings) (ms : List Measured)
    → flat_map (λ m. wants_of holdings (keeps_own view holdings m.tree) m) ms ≡ []
    → list_all (λ t. not (is_pending t)) (trees_in ms) ≡ true
none_pending view holdings [] e = refl
none_pending view holdings (m ∷ ms) e =
    let both = append_none (wants_of holdings (keeps_own view holdings m.tree) m) _ e in
    ap (λ b. not b && list_all (λ t. not (is_pending t)) (trees_in ms))
    (not_pending holdings (keeps_own view holdings m.tree) m both.0)
    ∙ none_pending view holdings ms both.1

pub nothing_wanted : (view : ViewParts) (holdings : Holdings) (root : Option Tree)
    → IsWithinLimit view root → wanted view holdings root ≡ [] → IsLoaded view root
nothing_wanted view holdings root few none =
    let wants =
    flat_map (λ m. wants_of holdings (keeps_own view holdings m.tree) m)
    (measured_visits view root) in
    let all : each_once wants ≡ [] =
    sym (unless_within view root (each_once wants) few) ∙ none in
    ap (list_all (λ t. not (is_pending t))) (sym (trees_visited view root))
    ∙ none_pending view holdings (measured_visits view root) (none_folded wants [] all).1
