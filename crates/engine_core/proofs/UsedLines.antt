-- The contents that a frame shows are resident, and are used in turn.
use Rattle.std.proofs.Common.{ℕ, ◌≡◌, Bool, true, false, ◌||◌, cond, Option, Some, None, option_map, List, [], ◌∷◌, find, filter_map, map, All, IsTrue, refl, sym, ◌∙◌, ap}
use Rattle.std.specs.List.{cons_option, list_all, list_any}
use Rattle.std.proofs.lemmas.List.Sums.{AllPass-from_list_all}
use Rattle.tile_cache.specs.Residents as cache
use Rattle.cut_core.specs.declared.line.CutLine.{CutLine}
use Rattle.cut_core.proofs.Bools.{and_left, and_right}
use Rattle.engine_state.specs.declared.resident.Resident.{Resident}
use Rattle.engine_state.specs.Frames.{addresses_of, has_address, line_from, line_with}
use Rattle.engine_state.specs.Room.{all_moved_up}
use Rattle.engine_state.specs.Laws.{known}
use Rattle.engine_state.proofs.Rooms.{address_known, moved_known}
use Rattle.engine_core.specs.Holding.{used_in_turn}
use Rattle.engine_core.proofs.Steps.{both}

found_any : {A : Type 0} (test : A → Bool) (xs : List A) (x : A) → find test xs ≡ Some x
    → list_any test xs ≡ true
found_any test [] x e = cc
found_any test (y ∷ ys) x e = by (test y) e (found_any test ys x)
  where
    by : (b : Bool) → cond b (Some y) (find test ys) ≡ Some x
        → (find test ys ≡ Some x → list_any test ys ≡ true) → (b || list_any test ys) ≡ true
    by true h again = refl
    by false h again = again h

lines_there : (rs : List Resident) (lines : List CutLine)
    → list_all (has_address rs) (addresses_of (filter_map (line_from rs) lines)) ≡ true
lines_there rs [] = refl
lines_there rs (l ∷ ls) =
    by (find (λ r. cache.same_text r.address l.address) rs) refl (lines_there rs ls)
  where
    by : (o : Option Resident) → find (λ r. cache.same_text r.address l.address) rs ≡ o
        → list_all (has_address rs) (addresses_of (filter_map (line_from rs) ls)) ≡ true
        → list_all (has_address rs) (addresses_of (cons_option (option_map (line_with l) o)
        (filter_map (line_from rs) ls))) ≡ true
    by None e h = h
    by (Some r) e h =
        both (has_address rs l.address) _
        (found_any (λ x. cache.same_text x.address l.address) rs r e) h

all_known : (rs : List cache.Resident) (texts : List (List ℕ))
    → list_all (has_address (map known rs)) texts ≡ true
    → list_all (cache.has_address rs) texts ≡ true
all_known rs [] e = refl
all_known rs (a ∷ texts) e =
    both (cache.has_address rs a) _ (sym (address_known rs a) ∙ and_left _ _ e)
    (all_known rs texts (and_right (has_address (map known rs) a) _ e))

-- a cache has what a frame shows
pub are_resident : (rs : List cache.Resident) (lines : List CutLine) (texts : List (List ℕ))
    → texts ≡ addresses_of (filter_map (line_from (map known rs)) lines)
    → All (λ a. IsTrue (cache.has_address rs a)) texts
are_resident rs lines texts e =
    AllPass-from_list_all (cache.has_address rs) texts
    (all_known rs texts (ap (list_all (has_address (map known rs))) e ∙ lines_there (map known rs) lines))

-- use is noted by the cache texts by the state
pub used_known : (texts : List (List ℕ)) (rs : List cache.Resident)
    → all_moved_up texts (map known rs) ≡ map known (used_in_turn texts rs)
used_known [] rs = refl
used_known (a ∷ texts) rs =
    ap (all_moved_up texts) (moved_known rs a) ∙ used_known texts (cache.moved_up rs a)
