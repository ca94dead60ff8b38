-- The walk over the residents, from the least recently used on, that finds what goes.
use Rattle.std.specs.Prelude.{if◌then◌else◌}
use Rattle.std.proofs.Common.{ℕ, ◌+◌, ◌-◌, ◌≤◌, ◌<◌, ◌≡◌, Bool, true, false, not, cond}
use Rattle.std.proofs.Common.{List, [], ◌∷◌, ◌++◌, filter, reverse, refl, sym, ◌∙◌, ap, arith}
use Rattle.std.proofs.Common.{nat_le, length, append-nil, append_assoc, leb-true, le-leb}
use Rattle.tile_cache.specs.Residents.{Resident, bytes_in, without}
use Rattle.tile_cache.specs.Room.{until_within, evicted_by, MakesRoom}
use Rattle.tile_cache.specs.Kept.{KeptEntry, resident_of, residents_in}
use Rattle.std.proofs.lemmas.List.{reverse-append}
use Rattle.tile_cache.proofs.Entries.{residents-append}
use Rattle.tile_cache.proofs.Budgets.{bytes-reverse, bytes_gone, taken, IsApart, held_or_enough}
use Rattle.tile_cache.proofs.Budgets.{gone_and_left}

-- the walk has so many bytes free and these addresses found, and these residents before it
pub record Walks (held : List ℕ → Bool) (budget start size : ℕ) (all rest : List Resident)
    (free : ℕ) (found : List (List ℕ)) (is_whole : Bool) : Type 0 where
  pub evicted : is_whole ≡ true
      → found ++ until_within budget (budget - free + size)
      (filter (λ r. not (held r.address)) rest)
      ≡ evicted_by held budget all size
  pub free_then : free + taken budget (budget - free + size)
      (filter (λ r. not (held r.address)) rest)
      ≡ start + bytes_gone held budget all size
  pub within : free + bytes_in rest ≤ budget

-- where the walk ends
pub record WalkEnds (held : List ℕ → Bool) (budget start size : ℕ) (all : List Resident)
    (free : ℕ) (found : List (List ℕ)) (is_whole : Bool) : Type 0 where
  pub evicted : is_whole ≡ true → found ≡ evicted_by held budget all size
  pub free_then : free ≡ start + bytes_gone held budget all size

pub walk_begins : (held : List ℕ → Bool) (budget start size : ℕ) (all : List Resident)
    → start + bytes_in all ≡ budget
    → Walks held budget start size all (reverse all) start [] true
walk_begins held budget start size all e =
    let turned = bytes-reverse all in
    let bytes : budget - start ≡ bytes_in all = omega arith in
    let unheld = filter (λ r. not (held r.address)) (reverse all) in
    record {
      evicted = λ _. ap (λ n. until_within budget (n + size) unheld) bytes;
      free_then = ap (λ n. start + taken budget (n + size) unheld) bytes;
      within = omega arith;
    }

enough_here : (budget free size : ℕ) → free ≤ budget → size ≤ free
    → nat_le (budget - free + size) budget ≡ true
enough_here budget free size e h = le-leb (budget - free + size) budget (omega arith)

nothing_more : (budget bytes : ℕ) (rs : List Resident) → nat_le bytes budget ≡ true
    → (until_within budget bytes rs ≡ []) × (taken budget bytes rs ≡ 0)
nothing_more budget bytes [] e = (refl, refl)
nothing_more budget bytes (r ∷ rs) e = (
  ap (λ b. if b then [] else r.address ∷ until_within budget (bytes - length r.content) rs) e,
  ap (λ b. if b then 0 else length r.content + taken budget (bytes - length r.content) rs) e,
)

-- it ends where there is room enough
pub walk_stops : (held : List ℕ → Bool) (budget start size : ℕ) (all rest : List Resident)
    (free : ℕ) (found : List (List ℕ)) (is_whole : Bool)
    → Walks held budget start size all rest free found is_whole → size ≤ free
    → WalkEnds held budget start size all free found is_whole
walk_stops held budget start size all rest free found is_whole w h =
    let none = nothing_more budget (budget - free + size)
    (filter (λ r. not (held r.address)) rest)
    (enough_here budget free size (below free (bytes_in rest) budget w.within) h) in
    record {
      evicted = λ e. sym (ap (λ xs. found ++ xs) none.0 ∙ append-nil found) ∙ w.evicted e;
      free_then = let none_taken = none.1 in let before = w.free_then in omega arith;
    }
  where
    below : (a b c : ℕ) → a + b ≤ c → a ≤ c
    below a b c e = omega arith

-- or where there are no residents left
pub walk_ends : (held : List ℕ → Bool) (budget start size : ℕ) (all : List Resident)
    (free : ℕ) (found : List (List ℕ)) (is_whole : Bool)
    → Walks held budget start size all [] free found is_whole
    → WalkEnds held budget start size all free found is_whole
walk_ends held budget start size all free found is_whole w = record {
  evicted = λ e. sym (append-nil found) ∙ w.evicted e;
  free_then = let before = w.free_then in omega arith;
}

-- what is held is passed
pub walk_passes : (held : List ℕ → Bool) (budget start size : ℕ) (all rest : List Resident)
    (r : Resident) (free : ℕ) (found : List (List ℕ)) (is_whole : Bool)
    → Walks held budget start size all (r ∷ rest) free found is_whole
    → held r.address ≡ true
    → Walks held budget start size all rest free found is_whole
walk_passes held budget start size all rest r free found is_whole w h =
    let unheld : List Resident = filter (λ x. not (held x.address)) rest in
    let same : cond (not (held r.address)) (r ∷ unheld) unheld ≡ unheld =
    ap (λ b. cond (not b) (r ∷ unheld) unheld) h in
    let within = w.within in
    record {
      evicted = λ e. ap (λ xs. found ++ until_within budget (budget - free + size) xs) (sym same)
          ∙ w.evicted e;
      free_then = ap (λ xs. free + taken budget (budget - free + size) xs) (sym same)
          ∙ w.free_then;
      within = omega arith;
    }

too_many : (budget free size : ℕ) → free ≤ budget → free < size
    → nat_le (budget - free + size) budget ≡ false
too_many budget free size e h = by (nat_le (budget - free + size) budget) refl
  where
    by : (b : Bool) → nat_le (budget - free + size) budget ≡ b
        → nat_le (budget - free + size) budget ≡ false
    by true t = let k = leb-true (budget - free + size) budget t in absurd (omega arith)
    by false t = t

-- and what isn't goes
pub walk_evicts : (held : List ℕ → Bool) (budget start size : ℕ) (all rest : List Resident)
    (r : Resident) (free : ℕ) (found later : List (List ℕ)) (was is : Bool)
    → Walks held budget start size all (r ∷ rest) free found was
    → held r.address ≡ false → free < size
    → (is ≡ true → (was ≡ true) × (later ≡ found ++ r.address ∷ []))
    → Walks held budget start size all rest (free + length r.content) later is
walk_evicts held budget start size all rest r free found later was is w h more pushed =
    let unheld : List Resident = filter (λ x. not (held x.address)) rest in
    let within = w.within in
    let left : ℕ = budget - free + size - length r.content in
    let bytes : budget - (free + length r.content) + size ≡ left = omega arith in
    let same : filter (λ x. not (held x.address)) (r ∷ rest) ≡ r ∷ unheld =
    ap (λ b. cond (not b) (r ∷ unheld) unheld) h in
    let many = too_many budget free size
    (below free (length r.content) (bytes_in rest) budget within) more in
    let goes : until_within budget (budget - free + size)
    (filter (λ x. not (held x.address)) (r ∷ rest))
    ≡ r.address ∷ until_within budget left unheld =
    ap (until_within budget (budget - free + size)) same
    ∙ ap (λ b. if b then [] else r.address ∷ until_within budget left unheld) many in
    let goes_too : taken budget (budget - free + size)
    (filter (λ x. not (held x.address)) (r ∷ rest))
    ≡ length r.content + taken budget left unheld =
    ap (taken budget (budget - free + size)) same
    ∙ ap (λ b. if b then 0 else length r.content + taken budget left unheld) many in
    let before = w.free_then in
    let other : taken budget (budget - (free + length r.content) + size) unheld
    ≡ taken budget left unheld = ap (λ n. taken budget n unheld) bytes in
    record {
      evicted = λ e.
          ap (λ xs. xs ++ until_within budget (budget - (free + length r.content) + size) unheld)
          (pushed e).1
          ∙ ap (λ n. (found ++ r.address ∷ []) ++ until_within budget n unheld) bytes
          ∙ append_assoc found (r.address ∷ []) (until_within budget left unheld)
          ∙ ap (λ xs. found ++ xs) (sym goes)
          ∙ w.evicted (pushed e).0;
      free_then = omega arith;
      within = omega arith;
    }
  where
    below : (a b c d : ℕ) → a + (b + c) ≤ d → a ≤ d
    below a b c d e = omega arith

-- what was found is what makes room
pub room_found : (held : List ℕ → Bool) (budget start size : ℕ) (all : List Resident)
    (free : ℕ) (found : List (List ℕ)) (is_whole : Bool)
    → start + bytes_in all ≡ budget → IsApart all
    → WalkEnds held budget start size all free found is_whole
    → MakesRoom held budget all size free found is_whole
room_found held budget start size all free found is_whole e apart w =
    let cases = held_or_enough held budget start all size e in
    let gone = gone_and_left held budget all size apart in
    let free_then = w.free_then in
    record {
      enough = λ h. cases.0 (omega arith);
      short = λ h. let k = cases.1 (omega arith) in omega arith;
      evicted = w.evicted;
      left = λ t.
          let same = ap (λ xs. bytes_in (without xs all)) (w.evicted t) in
          omega arith;
    }

-- ---- the last of the entries is the next

pub next_is : (es before : List KeptEntry) (e : KeptEntry) → es ≡ before ++ e ∷ []
    → reverse (residents_in es) ≡ resident_of e ∷ reverse (residents_in before)
next_is es before e h =
    ap (λ xs. reverse (residents_in xs)) h
    ∙ ap reverse (residents-append before (e ∷ []))
    ∙ reverse-append (residents_in before) (resident_of e ∷ [])
