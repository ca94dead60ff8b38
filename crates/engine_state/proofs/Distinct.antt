-- Keys that are fetched, and addresses that are resident, are distinct.
use Rattle.std.proofs.Common.{ℕ, ◌≡◌, true, false, not, List, [], ◌∷◌, map, ◌∙◌}
use Rattle.std.specs.List.{list_all, AllByRecursion, IsDistinct}
use Rattle.tile_types.specs.declared.key.Key.{Key}
use Rattle.tile_types.specs.Keys.{same_key}
use Rattle.tile_types.proofs.Keys.{key_turned}
use Rattle.tile_cache.specs.Residents.{same_text}
use Rattle.tile_cache.proofs.Texts.{not_true, text_turned}
use Rattle.cut_core.proofs.Bools.{and_left, and_right}
use Rattle.engine_state.specs.declared.flight.Flight.{Flight}
use Rattle.engine_state.specs.declared.resident.Resident.{Resident}
use Rattle.engine_state.specs.Laws.{AreOnce}
use Rattle.engine_state.proofs.Flying.{flights_apart, residents_apart}

other_keys : (key : Key) (fs : List Flight)
    → list_all (λ g. not (same_key g.key key)) fs ≡ true
    → AllByRecursion (λ k. same_key key k ≡ false) (map (λ f. f.key) fs)
other_keys key [] e = tt
other_keys key (f ∷ fs) e = (
  key_turned f.key key (not_true _ (and_left _ _ e)),
  other_keys key fs (and_right (not (same_key f.key key)) _ e),
)

pub keys_distinct : (fs : List Flight) → flights_apart fs ≡ true
    → IsDistinct same_key (map (λ f. f.key) fs)
unfolding IsDistinct
keys_distinct [] e = tt
keys_distinct (f ∷ fs) e = (
  other_keys f.key fs (and_left _ _ e),
  keys_distinct fs (and_right (list_all (λ g. not (same_key g.key f.key)) fs) _ e),
)

other_texts : (a : List ℕ) (rs : List Resident)
    → list_all (λ x. not (same_text x.address a)) rs ≡ true
    → AllByRecursion (λ x. same_text a x ≡ false) (map (λ r. r.address) rs)
other_texts a [] e = tt
other_texts a (r ∷ rs) e = (
  text_turned a r.address ∙ not_true _ (and_left _ _ e),
  other_texts a rs (and_right (not (same_text r.address a)) _ e),
)

pub texts_distinct : (rs : List Resident) → residents_apart rs ≡ true → AreOnce rs
unfolding IsDistinct
texts_distinct [] e = tt
texts_distinct (r ∷ rs) e = (
  other_texts r.address rs (and_left _ _ e),
  texts_distinct rs (and_right (list_all (λ x. not (same_text x.address r.address)) rs) _ e),
)
