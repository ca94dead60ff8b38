-- Which seat answers for a pass number: just one for each number that was given, and none for
-- others.
use Rattle.std.proofs.Common.{◌≡◌, ◌⊎◌, ℕ, suc, ◌<◌, ◌≤◌, List, [], ◌∷◌, ◌++◌, Option}
use Rattle.std.proofs.Common.{Some, None, refl, ap, subst, arith, Contains, inl, inr}
use mathlib.Core.Logic.{dite}
use mathlib.Core.Option.{some}
use native.Mathlib.Decide.{dec_le, ℕ_discrete}
use lib.ListN.{get_elem?}
use Rattle.turn_rule.specs.declared.view.View.{View}
use Rattle.turn_rule.specs.Seats.{total, Each, times, own_account, IsAccount, accounts}
use Rattle.turn_rule.specs.Seats.{AnswersForNumber}
use Rattle.turn_rule.specs.Rule.{Facts, Homes, HasView, Holds}
use Rattle.turn_rule.proofs.Lists.{total_zero, times_none, times_else, found_in}

-- how often the view answers for the number n
abbrev pub count : {E B : Type 0} → ℕ → View E B → ℕ
count n v = times n (accounts v)

-- where the counts of a list come to something, one of its elements counts
some_counts : {A : Type 0} (f : A → ℕ) (vs : List A) → 1 ≤ total f vs
    → (i : ℕ) × (v : A) × (get_elem? vs i ≡ some v) × (1 ≤ f v)
some_counts f [] h = absurd (omega arith)
some_counts f (x ∷ xs) h = dite (ℕ_discrete (f x) 0)
    (λ none. let t = some_counts f xs (omega arith) in (suc t.0, t.1, t.2, t.3))
    (λ counts. (0, x, refl, omega arith))

-- who counts a number answers for it
answers : {E : Type 0} (n : ℕ) (o : Option ℕ) (own : List E) (ended : List (ℕ × List E))
    → 1 ≤ times n (own_account o own ++ ended)
    → (o ≡ Some n) ⊎ ((l : List E) × Contains ended (n, l))
answers n None own ended h = inr (found_in n ended h)
answers n (Some m) own ended h = dite (ℕ_discrete m n)
    (λ same. inl (ap Some same))
    (λ other. let z = times_else n m own ended other in inr (found_in n ended (omega arith)))

module _ {H E B : Type 0} {facts : H → Facts E B} {names : E → Option ℕ}
    {lawful : Option B → List E → Type 0} {sound : H → Type 0} {turn n next : ℕ}
    {homes : Homes H} {views : List (View E B)}
    (r : Holds facts names lawful sound turn n next homes views) where
  -- nobody answers for a number that was not given yet
  pub not_given : (m : ℕ) → next ≤ m → total (count m) views ≡ 0
  not_given m past = total_zero (count m) views
      (λ i v at. times_none m (IsAccount names next r.log) (accounts v)
      (λ a told same. let below = told.1 in absurd (omega arith)) (r.each i v at).told)

  -- so no number is answered for twice
  pub at_most_once : (m : ℕ) → total (count m) views ≤ 1
  at_most_once m = dite (dec_le next m)
      (λ past. let z = not_given m past in omega arith)
      (λ low. let o = r.once m (omega arith) in omega arith)

  -- and each that was given is answered for
  pub given : (m : ℕ) → m < next
      → (i : ℕ) × (v : View E B) × HasView views i v × AnswersForNumber v m
  given m below =
      let o = r.once m below in
      let t = some_counts (count m) views (omega arith) in
      (t.0, t.1, t.2, answers m t.1.number t.1.own t.1.ended t.3)

  -- a seat with a number has an account of its own, and those of the passes that were joined into
  -- it
  pub own_told : (id m : ℕ) (v : View E B) → HasView views id v → v.number ≡ Some m
      → IsAccount names next r.log (m, v.own) × Each (IsAccount names next r.log) v.ended
  own_told id m v at is =
      let T = IsAccount names next r.log in
      subst (λ o. Each T (own_account o v.own ++ v.ended)) is (r.each id v at).told
