-- The pins of the frames that are held.
use Rattle.std.specs.Prelude.{if◌then◌else◌}
use Rattle.std.proofs.Common.{ℕ, ◌+◌, ◌*◌, ◌^◌, ◌≤◌, ◌<◌, ◌≡◌, ◌==◌, Bool, true, false, ◌||◌, cond, Some, List, [], ◌∷◌, ◌++◌, All, length, find, map, refl, ap, arith}
use Rattle.std.specs.List.{list_any, AllByRecursion}
use Rattle.std.proofs.lemmas.List.Elements.{All-append, All-from_recursion, recursion_from_All}
use Rattle.tile_cache.specs.Pins.{times}
use Rattle.engine_state.specs.declared.held_frame.HeldFrame.{HeldFrame}
use Rattle.engine_state.specs.Frames.{addresses_of, is_held, pinned}
use Rattle.engine_state.specs.After.{without_first}
use Rattle.engine_core.specs.declared.held_pins.FramePins.{FramePins}
use Rattle.engine_core.specs.Holding.{pins_of}
use Rattle.engine_core.proofs.PinCounts.{times_append, times_few}

-- ---- one frame more

pub pinned_more : (a : List ℕ) (fs : List HeldFrame) (f : HeldFrame)
    → times a (pinned (fs ++ f ∷ [])) ≡ times a (pinned fs) + times a (addresses_of f.lines)
pinned_more a [] f = let both = times_append a (addresses_of f.lines) [] in omega arith
pinned_more a (g ∷ gs) f =
    let rest = pinned_more a gs f in
    let one = times_append a (addresses_of g.lines) (pinned (gs ++ f ∷ [])) in
    let two = times_append a (addresses_of g.lines) (pinned gs) in
    omega arith

-- ---- one frame less

-- what the frame that goes pinned
pub pinned_less : (fs : List HeldFrame) (id : ℕ) (frame : FramePins)
    → find (λ f. f.id == id) (map pins_of fs) ≡ Some frame → (a : List ℕ)
    → times a (pinned fs)
    ≡ times a (pinned (without_first (λ f. f.id == id) fs)) + times a frame.addresses
pinned_less [] id frame e a = cc
pinned_less (f ∷ fs) id frame e a = by (f.id == id) e (λ k. pinned_less fs id frame k a)
  where
    own : List (List ℕ)
    own = addresses_of f.lines

    by : (b : Bool)
        → cond b (Some (pins_of f)) (find (λ x. x.id == id) (map pins_of fs)) ≡ Some frame
        → (find (λ x. x.id == id) (map pins_of fs) ≡ Some frame → times a (pinned fs)
        ≡ times a (pinned (without_first (λ x. x.id == id) fs)) + times a frame.addresses)
        → times a (own ++ pinned fs)
        ≡ times a (pinned (if b then fs else f ∷ without_first (λ x. x.id == id) fs))
        + times a frame.addresses
    by true k again =
        let same : pins_of f ≡ frame = cc in
        let turned : times a own ≡ times a frame.addresses = ap (λ x. times a x.addresses) same in
        let both = times_append a own (pinned fs) in
        omega arith
    by false k again =
        let rest = again k in
        let both = times_append a own (pinned fs) in
        let other = times_append a own (pinned (without_first (λ x. x.id == id) fs)) in
        omega arith

pub pins_without : (fs : List HeldFrame) (id : ℕ)
    → without_first (λ f. f.id == id) (map pins_of fs)
    ≡ map pins_of (without_first (λ f. f.id == id) fs)
pins_without [] id = refl
pins_without (f ∷ fs) id = by (f.id == id) (pins_without fs id)
  where
    by : (b : Bool) → without_first (λ x. x.id == id) (map pins_of fs)
        ≡ map pins_of (without_first (λ x. x.id == id) fs)
        → (if b then map pins_of fs
        else pins_of f ∷ without_first (λ x. x.id == id) (map pins_of fs))
        ≡ map pins_of (if b then fs else f ∷ without_first (λ x. x.id == id) fs)
    by true h = refl
    by false h = ap (λ xs. pins_of f ∷ xs) h

pub pins_any : (fs : List HeldFrame) (id : ℕ)
    → list_any (λ f. f.id == id) (map pins_of fs) ≡ is_held fs id
pins_any [] id = refl
pins_any (f ∷ fs) id = ap (λ b. (f.id == id) || b) (pins_any fs id)

-- ---- how many there are at most

abbrev pub is_short : FramePins → Type 0
is_short frame = length frame.addresses < 2 ^ 64

short_pins : (a : List ℕ) (fs : List HeldFrame) → AllByRecursion is_short (map pins_of fs)
    → times a (pinned fs) ≤ length fs * 2 ^ 64
short_pins a [] h = omega arith
short_pins a (f ∷ fs) h =
    let rest = short_pins a fs h.1 in
    let both = times_append a (addresses_of f.lines) (pinned fs) in
    let few = times_few a (addresses_of f.lines) in
    let short = h.0 in
    omega arith

-- no address is pinned more often than so many frames can
pub few_pins : (a : List ℕ) (fs : List HeldFrame) → All is_short (map pins_of fs)
    → times a (pinned fs) ≤ length fs * 2 ^ 64
few_pins a fs h = short_pins a fs (recursion_from_All is_short (map pins_of fs) h)

short_without : (test : FramePins → Bool) (hs : List FramePins) → AllByRecursion is_short hs
    → AllByRecursion is_short (without_first test hs)
short_without test [] h = tt
short_without test (x ∷ xs) h = by (test x) (short_without test xs h.1)
  where
    by : (b : Bool) → AllByRecursion is_short (without_first test xs)
        → AllByRecursion is_short (if b then xs else x ∷ without_first test xs)
    by true k = h.1
    by false k = (h.0, k)

-- those that are left are short
pub shorts_without : (test : FramePins → Bool) (hs : List FramePins) → All is_short hs
    → All is_short (without_first test hs)
shorts_without test hs h =
    All-from_recursion is_short (without_first test hs)
    (short_without test hs (recursion_from_All is_short hs h))

-- and one more
pub shorts_more : (hs : List FramePins) (one : FramePins) → All is_short hs → is_short one
    → All is_short (hs ++ one ∷ [])
shorts_more hs one h s =
    All-append is_short hs (one ∷ []) h (All-from_recursion is_short (one ∷ []) (s, tt))

-- ---- how many are left

pub one_less : {A : Type 0} (test : A → Bool) (xs : List A) → list_any test xs ≡ true
    → length (without_first test xs) + 1 ≡ length xs
one_less test [] e = cc
one_less test (x ∷ xs) e = by (test x) e (one_less test xs)
  where
    by : (b : Bool) → (b || list_any test xs) ≡ true
        → (list_any test xs ≡ true → length (without_first test xs) + 1 ≡ length xs)
        → length (if b then xs else x ∷ without_first test xs) + 1 ≡ length (x ∷ xs)
    by true h again = omega arith
    by false h again = let rest = again h in omega arith
