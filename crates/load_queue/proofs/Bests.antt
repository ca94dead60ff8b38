-- The want at the first least rank is the best.
use Rattle.std.specs.Prelude.{if◌then◌else◌}
use Rattle.std.proofs.Common.{ℕ, ◌≡◌, ◌<◌, ◌≤◌, true, false, Option}
use Rattle.std.proofs.Common.{Some, None, nat_lt, List, [], ◌∷◌, length, map, get_or, refl, sym}
use Rattle.std.proofs.Common.{◌∙◌, ap, subst, arith, zero, suc, ltb-true, lt-ltb}
use Rattle.std.specs.List.{AllByRecursion}
use Rattle.tile_types.specs.declared.order.Order.{Order}
use Rattle.tile_types.specs.declared.want.Want.{Want}
use Rattle.load_queue.specs.declared.entry.Entry.{Entry}
use Rattle.load_queue.specs.declared.entry.State.{State}
use Rattle.load_queue.specs.declared.entry.State.TheVariants.{Shown, Hidden, Dropped}
use Rattle.load_queue.specs.declared.entry.TheConstants.{PASSED_OVER}
use Rattle.load_queue.specs.Best.{best, better, rank}
use Rattle.load_queue.specs.Entries.{IsWithin, queued_wants, score, score_of, queued_before}
use Rattle.load_queue.specs.Queues.{QueuedWant, shown_wants}
use Rattle.load_queue.specs.Trees.{IsFirstLeast}

module _ (order : Order) where
  abbrev rank_of : Want → ℕ
  rank_of w = rank order w.facts

  abbrev scores : List Entry → List ℕ
  scores es = map (score order) es

  abbrev shown_of : List Entry → List Want
  shown_of es = shown_wants (queued_wants es)

  -- what is queued_before of a want that isn't shown
  passed_over : (want : Want) (state : State) (rest : List QueuedWant)
      → PASSED_OVER ≤ score_of state (rank_of want) → rank_of want < PASSED_OVER
      → shown_wants (queued_before want state rest) ≡ shown_wants rest
  passed_over want Shown rest over within = absurd (omega arith)
  passed_over want Hidden rest over within = refl
  passed_over want Dropped rest over within = refl

  -- where all are passed over, none is shown
  pub none_shown : (es : List Entry) → AllByRecursion (IsWithin order) es
      → ((k : ℕ) → k < length (scores es) → PASSED_OVER ≤ get_or (scores es) k 0)
      → shown_of es ≡ []
  none_shown [] within over = refl
  none_shown (e ∷ es) within over =
      passed_over e.want e.state (queued_wants es) (over 0 (omega arith)) within.0
      ∙ none_shown es within.1 (λ k h. over (suc k) (omega arith))

  -- what holds of the best, where there is one
  abbrev IsNoLess : ℕ → Option Want → Type 0
  IsNoLess least None = Unit {0}
  IsNoLess least (Some w) = least ≤ rank_of w

  better_no_less : (least : ℕ) (w : Want) (o : Option Want) → least ≤ rank_of w → IsNoLess least o
      → least ≤ rank_of (better order w o)
  better_no_less least w None p q = p
  better_no_less least w (Some v) p q =
      elim (nat_lt (rank_of v) (rank_of w)) as (λ b. least ≤ rank_of (if b then v else w)) [
        | true ↦ q
        | false ↦ p
      ]

  told_no_less : (least : ℕ) (want : Want) (state : State) (rest : List QueuedWant)
      → least ≤ score_of state (rank_of want) → IsNoLess least (best order (shown_wants rest))
      → IsNoLess least (best order (shown_wants (queued_before want state rest)))
  told_no_less least want Shown rest p q = better_no_less least want
      (best order (shown_wants rest)) p q
  told_no_less least want Hidden rest p q = q
  told_no_less least want Dropped rest p q = q

  -- the best has no rank below the least score
  best_no_less : (least : ℕ) (es : List Entry)
      → ((k : ℕ) → k < length (scores es) → least ≤ get_or (scores es) k 0)
      → IsNoLess least (best order (shown_of es))
  best_no_less least [] all = tt
  best_no_less least (e ∷ es) all =
      told_no_less least e.want e.state (queued_wants es) (all 0 (omega arith))
      (best_no_less least es (λ k h. all (suc k) (omega arith)))

  -- a want stays the best before those of no lesser rank
  stays_best : (w : Want) (o : Option Want) → IsNoLess (rank_of w) o → better order w o ≡ w
  stays_best w None p = refl
  stays_best w (Some v) p =
      elim (nat_lt (rank_of v) (rank_of w)) as (λ b. nat_lt (rank_of v) (rank_of w) ≡ b
      → (if b then v else w) ≡ w) [
        | true ↦ λ h. let less = ltb-true _ _ h in absurd (omega arith)
        | false ↦ λ h. refl
      ] refl

  first_told : (least : ℕ) (want : Want) (state : State) (rest : List QueuedWant)
      → score_of state (rank_of want) ≡ least → least < PASSED_OVER
      → IsNoLess least (best order (shown_wants rest))
      → best order (shown_wants (queued_before want state rest)) ≡ Some want
  first_told least want Shown rest is below no_less =
      ap Some (stays_best want (best order (shown_wants rest))
      (subst (λ n. IsNoLess n (best order (shown_wants rest))) (sym is) no_less))
  first_told least want Hidden rest is below no_less = absurd (omega arith)
  first_told least want Dropped rest is below no_less = absurd (omega arith)

  -- a later want of a lesser rank stays the best
  later_told : (want v : Want) (state : State) (rest : List QueuedWant)
      → rank_of v < score_of state (rank_of want) → best order (shown_wants rest) ≡ Some v
      → best order (shown_wants (queued_before want state rest)) ≡ Some v
  later_told want v Shown rest less is =
      ap (λ o. Some (better order want o)) is
      ∙ ap (λ b. Some (if b then v else want)) (lt-ltb (rank_of v) (rank_of want) less)
  later_told want v Hidden rest less is = is
  later_told want v Dropped rest less is = is

  score_shown : (state : State) (r : ℕ) → score_of state r < PASSED_OVER → score_of state r ≡ r
  score_shown Shown r below = refl
  score_shown Hidden r below = absurd (omega arith)
  score_shown Dropped r below = absurd (omega arith)

  -- the want at the first least score is the best, where it isn't passed over
  best_is : (es : List Entry) (least place : ℕ) (d : Entry)
      → IsFirstLeast (scores es) least place → least < PASSED_OVER
      → (best order (shown_of es) ≡ Some (get_or es place d).want)
      × (rank_of (get_or es place d).want ≡ least)
  best_is [] least place d first below = absurd (omega (arith, first.within))
  best_is (e ∷ es) least zero d first below =
      let at : score order e ≡ least = first.is in (
        first_told least e.want e.state (queued_wants es) at below
            (best_no_less least es (λ k h. first.least (suc k) (omega arith))),
        sym (score_shown e.state (rank_of e.want) (omega arith)) ∙ at,
      )
  best_is (e ∷ es) least (suc place) d first below =
      let rest = best_is es least place d (behind first) below in
      let at : least < score order e = first.first 0 (omega arith) in (
        later_told e.want (get_or es place d).want e.state (queued_wants es) (omega arith) rest.0,
        rest.1,
      )
    where
      behind : IsFirstLeast (scores (e ∷ es)) least (suc place)
          → IsFirstLeast (scores es) least place
      behind first = record {
        within = omega (arith, first.within);
        is = first.is;
        least = λ k h. first.least (suc k) (omega arith);
        first = λ k h. first.first (suc k) (omega arith);
      }

  pub best_found : (es : List Entry) (least place : ℕ) (d : Entry)
      → IsFirstLeast (scores es) least place → least < PASSED_OVER
      → best order (shown_of es) ≡ Some (get_or es place d).want
  best_found es least place d first below = (best_is es least place d first below).0

  -- no score is above that of what is passed over
  scores_within : (es : List Entry) → AllByRecursion (IsWithin order) es → (k : ℕ)
      → k < length (scores es) → get_or (scores es) k 0 ≤ PASSED_OVER
  scores_within [] within k h = absurd (omega arith)
  scores_within (e ∷ es) within zero h = within_of e.state (rank_of e.want) within.0
    where
      within_of : (state : State) (r : ℕ) → r < PASSED_OVER → score_of state r ≤ PASSED_OVER
      within_of Shown r h = omega arith
      within_of Hidden r h = omega arith
      within_of Dropped r h = omega arith
  scores_within (e ∷ es) within (suc k) h = scores_within es within.1 k (omega arith)

  pub least_within : (es : List Entry) (least place : ℕ) → AllByRecursion (IsWithin order) es
      → IsFirstLeast (scores es) least place → least ≤ PASSED_OVER
  least_within es least place within first =
      omega (arith, first.is, scores_within es within place first.within)

  -- where there are no ranks there is no best
  pub none_best : (es : List Entry) (ranks : List ℕ) → AllByRecursion (IsWithin order) es
      → ranks ≡ scores es → ranks ≡ [] → best order (shown_of es) ≡ None
  none_best es ranks within are none =
      ap (best order)
      (none_shown es within
      (λ k h. let empty : length (scores es)
      ≡ 0 = ap length (sym are ∙ none) in absurd (omega arith)))

  -- where the least is that of what is passed over there is none either
  pub all_passed_over : (es : List Entry) (ranks : List ℕ) (least place : ℕ)
      → AllByRecursion (IsWithin order) es → ranks ≡ scores es → IsFirstLeast ranks least place
      → least ≡ PASSED_OVER → best order (shown_of es) ≡ None
  all_passed_over es ranks least place within are first over =
      let of_scores = subst (λ rs. IsFirstLeast rs least place) are first in
      ap (best order)
      (none_shown es within (λ k h. omega (arith, over, of_scores.least k h)))

  -- else the best stands there
  pub best_at : (es : List Entry) (ranks : List ℕ) (least place : ℕ) (e : Entry)
      → AllByRecursion (IsWithin order) es → ranks ≡ scores es → IsFirstLeast ranks least place
      → (least ≡ PASSED_OVER → ⊥) → e ≡ get_or es place e
      → Some e.want ≡ best order (shown_of es)
  best_at es ranks least place e within are first shown at =
      let of_scores = subst (λ rs. IsFirstLeast rs least place) are first in
      let below : least < PASSED_OVER =
      omega (arith, least_within es least place within of_scores, shown) in
      ap (λ e. Some e.want) at ∙ sym (best_found es least place e of_scores below)
