-- Wants of some keys alone, each key once.
use Rattle.std.proofs.Common.{◌≡◌, Bool, true, false, List, [], ◌∷◌, fold, refl, sym, ◌∙◌, ap}
use Rattle.std.specs.Prelude.{if◌then◌else◌}
use Rattle.tile_types.specs.declared.key.Key.{Key}
use Rattle.tile_types.specs.declared.want.Want.{Want}
use Rattle.tile_types.specs.Keys.{same_key}
use Rattle.cut_core.specs.Wants.{each_once, joined, with_want}
use Rattle.view_notes.specs.Views.{RespectsKeys, takeable}
use Rattle.view_notes.proofs.Lists.{filter_yes, filter_no}

module _ (may : Key → Bool) (respects : RespectsKeys may) where
  abbrev those : List Want → List Want
  those ws = takeable may ws

  abbrev test : Want → Bool
  test w = may w.key

  abbrev met : Want → Want → Want
  met v w = record { key = v.key; facts = joined v.facts w.facts }

  put_more : (v w : Want) (vs : List Want) (s a b : Bool) → same_key w.key v.key ≡ s
      → test v ≡ a → test w ≡ b
      → those (with_want vs w) ≡ (if b then with_want (those vs) w else those vs)
      → those (with_want (v ∷ vs) w)
      ≡ (if b then with_want (those (v ∷ vs)) w else those (v ∷ vs))
  put_more v w vs true true true e f g ih =
      ap (λ s. those (if s then met v w ∷ vs else v ∷ with_want vs w)) e
      ∙ filter_yes test (met v w) vs f
      ∙ sym (ap (λ us. with_want us w) (filter_yes test v vs f)
      ∙ ap (λ s. if s then met v w ∷ those vs else v ∷ with_want (those vs) w) e)
  put_more v w vs true true false e f g ih =
      let no : false ≡ true = sym g ∙ respects w.key v.key e ∙ f in cc
  put_more v w vs true false true e f g ih =
      let no : true ≡ false = sym g ∙ respects w.key v.key e ∙ f in cc
  put_more v w vs true false false e f g ih =
      ap (λ s. those (if s then met v w ∷ vs else v ∷ with_want vs w)) e
      ∙ filter_no test (met v w) vs f ∙ sym (filter_no test v vs f)
  put_more v w vs false true true e f g ih =
      ap (λ s. those (if s then met v w ∷ vs else v ∷ with_want vs w)) e
      ∙ filter_yes test v (with_want vs w) f ∙ ap (λ us. v ∷ us) ih
      ∙ sym (ap (λ us. with_want us w) (filter_yes test v vs f)
      ∙ ap (λ s. if s then met v w ∷ those vs else v ∷ with_want (those vs) w) e)
  put_more v w vs false true false e f g ih =
      ap (λ s. those (if s then met v w ∷ vs else v ∷ with_want vs w)) e
      ∙ filter_yes test v (with_want vs w) f ∙ ap (λ us. v ∷ us) ih
      ∙ sym (filter_yes test v vs f)
  put_more v w vs false false true e f g ih =
      ap (λ s. those (if s then met v w ∷ vs else v ∷ with_want vs w)) e
      ∙ filter_no test v (with_want vs w) f ∙ ih
      ∙ sym (ap (λ us. with_want us w) (filter_no test v vs f))
  put_more v w vs false false false e f g ih =
      ap (λ s. those (if s then met v w ∷ vs else v ∷ with_want vs w)) e
      ∙ filter_no test v (with_want vs w) f ∙ ih ∙ sym (filter_no test v vs f)

  put_none : (w : Want) (b : Bool) → test w ≡ b → those (w ∷ []) ≡ (if b then w ∷ [] else [])
  put_none w true e = filter_yes test w [] e
  put_none w false e = filter_no test w [] e

  put_those : (vs : List Want) (w : Want)
      → those (with_want vs w) ≡ (if test w then with_want (those vs) w else those vs)
  put_those [] w = put_none w (test w) refl
  put_those (v ∷ vs) w =
      put_more v w vs (same_key w.key v.key) (test v) (test w) refl refl refl (put_those vs w)

  fold_more : (w : Want) (ws start : List Want) (b : Bool) → test w ≡ b
      → fold with_want (if b then with_want (those start) w else those start) (those ws)
      ≡ those (fold with_want (with_want start w) ws)
      → fold with_want (those start) (those (w ∷ ws)) ≡ those (fold with_want start (w ∷ ws))
  fold_more w ws start true e ih =
      ap (λ us. fold with_want (those start) us) (filter_yes test w ws e) ∙ ih
  fold_more w ws start false e ih =
      ap (λ us. fold with_want (those start) us) (filter_no test w ws e) ∙ ih

  fold_those : (ws start : List Want)
      → fold with_want (those start) (those ws) ≡ those (fold with_want start ws)
  fold_those [] start = refl
  fold_those (w ∷ ws) start =
      fold_more w ws start (test w) refl
      (ap (λ us. fold with_want us (those ws)) (sym (put_those start w))
      ∙ fold_those ws (with_want start w))

  -- it doesn't matter which comes first
  pub once_those : (ws : List Want) → each_once (takeable may ws) ≡ takeable may (each_once ws)
  once_those ws = fold_those ws []
