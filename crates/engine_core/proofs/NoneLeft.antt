-- What is left to load, and looks that ask that nothing is.
use Rattle.std.proofs.Common.{ℕ, ◌≤◌, ◌≡◌, ◌==◌, ◌&&◌, ◌||◌, ◌↔◌, Bool, true, false, cond, Some, option_map, List, [], ◌∷◌, IsTrue, find, length, ap, arith}
use Rattle.error_test.specs.Views.{ViewParts}
use Rattle.engine_state.specs.declared.seen.Seen.{Seen}
use Rattle.engine_state.specs.Views.{is_latest, same_view}
use Rattle.engine_state.specs.Journal.{fullness}
use Rattle.engine_core.specs.declared.parts.Parts.{Parts}
use Rattle.engine_core.specs.Looking.{latest_in}
use Rattle.engine_core.specs.Mirrors.{Lives, state_of}

-- no more keys are being fetched than the journal has room
pub flying_within : (p : Parts) → Lives p → fullness p.entries.items ≤ p.room
    → length p.flying.items ≤ p.room
flying_within p l within =
    let same : length p.flying.items ≡ length (state_of p).flying =
    ap length l.mirrors.fetches.flying_is in
    omega arith

-- where views are the same that are equal, the latest view is the viewer's latest
pub latest_is : ((a b : ViewParts) → IsTrue (same_view a b) ↔ (a ≡ b))
    → (views : List Seen) (viewer : ℕ) (view : ViewParts) → latest_in views viewer ≡ Some view
    → is_latest views viewer view ≡ true
latest_is law [] viewer view e = cc
latest_is law (seen ∷ rest) viewer view e =
    by (seen.viewer == viewer) e (latest_is law rest viewer view)
  where
    by : (b : Bool)
        → option_map (λ (x : Seen). x.view)
        (cond b (Some seen) (find (λ x. x.viewer == viewer) rest)) ≡ Some view
        → (latest_in rest viewer ≡ Some view → is_latest rest viewer view ≡ true)
        → ((b && same_view seen.view view) || is_latest rest viewer view) ≡ true
    by true h again =
        let same : seen.view ≡ view = cc in
        ap (λ b. b || is_latest rest viewer view) ((law seen.view view).1 same)
    by false h again = again h
