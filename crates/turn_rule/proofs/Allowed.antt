-- Each kind of step keeps the rule, in the form that the table asks of it.
use Rattle.std.proofs.Common.{◌≡◌, ℕ, ◌+◌, ◌%◌, ◌^◌, ◌<◌, ◌≤◌, List, [], ◌∷◌, ◌++◌, length}
use Rattle.std.proofs.Common.{get_or, set, Option, Some, None, false, refl, sym, ap, ◌∙◌}
use Rattle.std.proofs.Common.{subst, arith}
use Rattle.std.proofs.Common.{eqb, eq-eqb, ne_eqb, length-set, length-append}
use Rattle.std.proofs.Common.{get_or-set_same, get_or-set_other}
use mathlib.Core.Logic.{dite}
use mathlib.Core.List.{IsPrefix}
use mathlib.Core.Option.{some, none}
use native.Mathlib.Decide.{ℕ_discrete}
use prog.Atomic.{either}
use lib.ListN.{get_elem?}
use Rattle.atomic_table.specs.Table.{State, Me, step, keeps, takes, gives, stepped, opening}
use Rattle.atomic_table.specs.Table.{Allows, Splits, Joins, rest}
use Rattle.atomic_table.proofs.Lists.{set_else, set_again}
use Rattle.turn_rule.specs.declared.view.View.{View}
use Rattle.turn_rule.specs.Journal.{entries_of, named_count}
use Rattle.turn_rule.specs.Seats.{Each, IsAccount, accounts, new_view, spent_view, holder_view}
use Rattle.turn_rule.specs.Seats.{grown_view, missed_view, rested_view, drawn_view}
use Rattle.turn_rule.specs.Seats.{numbered_view, joined_view}
use Rattle.turn_rule.specs.Rule.{Facts, counted_facts, Homes, Holds, Ruled}
use Rattle.turn_rule.specs.Steps.{Learns, Takes, Adds, Leaves, ReadsLength, ReadsNext}
use Rattle.turn_rule.specs.Steps.{TakesNumber, AddedOne}
use Rattle.turn_rule.proofs.Lists.{within, Each-map}
use Rattle.turn_rule.proofs.Numbers.{count, at_most_once, own_told}
use Rattle.turn_rule.proofs.Words.{parts_of}
use Rattle.turn_rule.proofs.Keeps.{by_words, rests, misses, draws}
use Rattle.turn_rule.proofs.KeepsTurn.{home_of, wins, adds, leaves}
use Rattle.turn_rule.proofs.KeepsNumbers.{numbers, parts_in, fuses, begins}

-- a prefix is no longer
prefix_le : {E : Type 0} (xs ys : List E) → IsPrefix xs ys → length xs ≤ length ys
prefix_le xs ys p =
    let e : length ys ≡ length xs + length p.0 = ap length (sym p.1) ∙ length-append xs p.0 in
    omega arith

-- who holds just these slots holds the first of them, and the rest
pub first_held : {S : Type 0} {carried others : List (ℕ × S)} {slot : ℕ × S}
    → carried ≡ slot ∷ others → carried ≡ slot ∷ rest carried
first_held {slot} is = is ∙ ap (λ l. slot ∷ rest l) (sym is)

module _ {H E B : Type 0} (facts : H → Facts E B) (names : E → Option ℕ)
    (lawful : Option B → List E → Type 0) (sound : H → Type 0) where
  abbrev V : Type 0
  V = View E B

  abbrev St : Type 0
  St = State (Option H) V

  abbrev M : Type 0
  M = Me (Option H) V

  abbrev R : St → Type 0
  R = Ruled facts names lawful sound

  abbrev Rs : ℕ → ℕ → ℕ → Homes H → List V → Type 0
  Rs = Holds facts names lawful sound

  abbrev w0 : St → ℕ
  w0 s = get_or s.words 0 0

  abbrev w1 : St → ℕ
  w1 s = get_or s.words 1 0

  abbrev w2 : St → ℕ
  w2 s = get_or s.words 2 0

  -- the parts follow from the rest
  ruled : {s : St} → length s.words ≡ 3 → Rs (w0 s) (w1 s) (w2 s) s.homes s.views → R s
  ruled wide r = record { three_words = wide; holds = r; parts = parts_of r }

  module _ (s : St) (m : ℕ) (hs : Homes H) (vs : List V) (wide : length s.words ≡ 3) where
    -- the rule with word 0 set
    set_0 : Rs m (w1 s) (w2 s) hs vs → R record { words = set s.words 0 m; homes = hs; views = vs }
    set_0 r = ruled (length-set s.words 0 m ∙ wide) (by_words m (w1 s) (w2 s) _ _ _ hs vs
        (get_or-set_same s.words 0 m 0 (omega arith))
        (get_or-set_other s.words 0 1 m 0 (λ e. omega arith))
        (get_or-set_other s.words 0 2 m 0 (λ e. omega arith)) r)

    -- with word 1 set
    set_1 : Rs (w0 s) m (w2 s) hs vs → R record { words = set s.words 1 m; homes = hs; views = vs }
    set_1 r = ruled (length-set s.words 1 m ∙ wide) (by_words (w0 s) m (w2 s) _ _ _ hs vs
        (get_or-set_other s.words 1 0 m 0 (λ e. omega arith))
        (get_or-set_same s.words 1 m 0 (omega arith))
        (get_or-set_other s.words 1 2 m 0 (λ e. omega arith)) r)

    -- with word 2 set
    set_2 : Rs (w0 s) (w1 s) m hs vs → R record { words = set s.words 2 m; homes = hs; views = vs }
    set_2 r = ruled (length-set s.words 2 m ∙ wide) (by_words (w0 s) (w1 s) m _ _ _ hs vs
        (get_or-set_other s.words 2 0 m 0 (λ e. omega arith))
        (get_or-set_other s.words 2 1 m 0 (λ e. omega arith))
        (get_or-set_same s.words 2 m 0 (omega arith)) r)

  -- what the winner of the turn learns of the state at home
  learned : (s : St) (r : Rs 0 (w1 s) (w2 s) s.homes s.views) (id : ℕ) (v : V)
      → get_elem? s.views id ≡ some v → v.spent ≡ false
      → Learns facts names lawful sound v (home_of r).0
  learned s r id v at here =
      let t = home_of r in
      let mine = r.each id v at in
      let u = mine.under here in
      let log : List E = (facts t.0).log in
      let is : log ≡ r.log = ap (λ (f : Facts E B). f.log) t.2 in
      let of_log = λ (p : ℕ × List E). p.1 ≡ entries_of names p.0 log in
      record {
        begins = subst (IsPrefix v.seen) (sym is) mine.seen;
        library = ap (λ (f : Facts E B). f.library) t.2 ∙ sym u.0;
        room = ap (λ (f : Facts E B). f.room) t.2 ∙ sym u.1;
        total = ap (λ (f : Facts E B). f.total) t.2 ∙ ap (named_count names) (sym is);
        is_lawful = subst (λ (x : Option B × List E). lawful x.0 x.1)
            (λ i. (sym u.0 i, sym is i)) r.is_lawful;
        is_sound = t.3;
        told = Each-map (IsAccount names (w2 s) r.log) of_log (accounts v)
            (λ p b. b.0 ∙ ap (entries_of names p.0) (sym is)) mine.told;
        once = λ m.
            let a = within (count m) s.views id v at in
            let o = at_most_once r m in omega arith;
      }

  -- kind 1
  pub tries : (slots id number : ℕ) (me : M) → me.0.number ≡ Some number → me.0.spent ≡ false
      → Allows R slots id me 0 (λ n. either (eqb n 0) 1 n)
      (Takes facts names lawful sound (step slots 0 0 1 none) me)
  tries slots id number me num here s q one_slot at small = dite (ℕ_discrete (w0 s) 0)
      (λ free.
      let r : Rs 0 (w1 s) (w2 s) s.homes s.views =
      subst (λ t. Rs t (w1 s) (w2 s) s.homes s.views) free q.holds in
      let t = home_of r in
      let log : List E = (facts t.0).log in
      let is : log ≡ r.log = ap (λ (f : Facts E B). f.log) t.2 in
      let w = holder_view me.0 log in
      let a = takes 0 (Some t.0) in
      let changed : either (eqb (w0 s) 0) 1 (w0 s) ≡ 1 = rw free refl in (
        w,
        a,
        t.1,
        subst (λ n. R (stepped s 0 n id me.1 w a)) (sym changed)
            (set_0 s 1 _ _ q.three_words (wins r id number me.0 log at num is)),
        ((λ _. (t.0, refl, learned s r id me.0 at here)), λ taken. absurd (taken free)),
      ))
      (λ taken.
      let w = missed_view me.0 in
      let same : either (eqb (w0 s) 0) 1 (w0 s) ≡ w0 s = rw (ne_eqb (w0 s) 0 taken) refl in (
        w,
        keeps,
        tt,
        subst (λ n. R (stepped s 0 n id me.1 w keeps)) (sym same)
            (set_0 s (w0 s) _ _ q.three_words (misses q.holds id me.0 at)),
        ((λ free. absurd (taken free)), λ _. refl),
      ))

  -- kind 3
  pub notes : (slots id number : ℕ) (me : M) (after own : List E)
      → AddedOne names lawful me.0 number after own → length after < 2 ^ 64
      → Allows R slots id me 1 (λ n. (n + 1) % 2 ^ 64) (Adds after own (step slots 1 1 0 none) me)
  notes slots id number me after own a short s q one_slot at small =
      let h = (q.holds.each id me.0 at).holds a.log a.held in
      let w = grown_view me.0 after own in
      let counted = q.holds.counted in
      let one_more : length after ≡ length a.log + 1 =
      ap length a.grown ∙ length-append a.log (a.entry ∷ []) in
      let same : length a.log ≡ length q.holds.log = ap length h.2 in
      let n : (w1 s + 1) % 2 ^ 64 ≡ w1 s + 1 = omega arith in
      let r : Rs 1 (w1 s) (w2 s) s.homes s.views =
      subst (λ t. Rs t (w1 s) (w2 s) s.homes s.views) h.0 q.holds in
      let grown : Rs (w0 s) (w1 s + 1) (w2 s) s.homes (set s.views id w) =
      subst (λ t. Rs t (w1 s + 1) (w2 s) s.homes (set s.views id w)) (sym h.0)
      (adds r id number me.0 after own at a) in (
        w,
        keeps,
        tt,
        subst (λ m. R (stepped s 1 m id me.1 w keeps)) (sym n)
            (set_1 s (w1 s + 1) _ _ q.three_words grown),
        refl,
      )

  -- kind 5
  pub rejoins : (slots id : ℕ) (me : M) (held : List E) (h : H) → me.0.held ≡ Some held
      → me.0.spent ≡ false → me.1 ≡ (0, Some h) ∷ []
      → facts h ≡ record {
        log = held;
        library = me.0.library;
        room = me.0.room;
        total = named_count names held;
      }
      → sound h
      → Allows R slots id me 0 (λ _. 0) (λ _. Leaves (step slots 0 0 0 none) me 0)
  rejoins slots id me held h is here carries somewhere is_sound s q one_slot at small =
      let g = (q.holds.each id me.0 at).holds held is in
      let w = rested_view me.0 held in
      let r : Rs 1 (w1 s) (w2 s) s.homes s.views =
      subst (λ t. Rs t (w1 s) (w2 s) s.homes s.views) g.0 q.holds in
      let left = leaves r id me.0 held h at is here somewhere is_sound in (
        w,
        gives,
        tt,
        subst (λ (c : List (ℕ × Option H)). R (stepped s 0 0 id c w gives)) (sym carries)
            (set_0 s 0 _ _ q.three_words left),
        (λ now p.
            let same : held ≡ now = cc in
            let end : M = (w, rest me.1) in
            let goal : List E → M = λ l. (rested_view me.0 l, []) in
            let done : end ≡ goal held = ap (λ (c : List (ℕ × Option H)). (w, rest c)) carries in
            subst (λ l. end ≡ goal l) same done),
      )

  -- kind 6
  pub fronts : (slots id : ℕ) (me : M)
      → Allows R slots id me 1 (λ n. n) (ReadsLength (step slots 1 0 0 none) me)
  fronts slots id me s q one_slot at small =
      let counted = q.holds.counted in
      let le = prefix_le me.0.seen q.holds.log (q.holds.each id me.0 at).seen in (
        me.0,
        keeps,
        tt,
        set_1 s (w1 s) _ _ q.three_words (rests q.holds id me.0 at),
        (refl, omega arith),
      )

  -- kind 6, of word 2
  pub sees : (slots id : ℕ) (me : M)
      → Allows R slots id me 2 (λ n. n) (ReadsNext (step slots 2 0 0 none) me)
  sees slots id me s q one_slot at small = (
    drawn_view me.0 (w2 s),
    keeps,
    tt,
    set_2 s (w2 s) _ _ q.three_words (draws q.holds id me.0 at),
    (
      refl,
      q.holds.limit,
      (q.holds.each id me.0 at).drawn,
      λ n is. (own_told q.holds id n me.0 at is).0.1,
    ),
  )

  -- kind 8: b is the next number after a
  pub takes_number : (slots id a b : ℕ) (me : M) → me.0.number ≡ None → a < 2 ^ 32 → b ≡ a + 1
      → Allows R slots id me 2 (λ n. either (eqb n a) b n) (TakesNumber (step slots 2 a b none) me)
  takes_number slots id a b me none_yet room is_next s q one_slot at small =
      dite (ℕ_discrete (w2 s) a)
      (λ found.
      let r : Rs (w0 s) (w1 s) a s.homes s.views =
      subst (λ t. Rs (w0 s) (w1 s) t s.homes s.views) found q.holds in
      let w = numbered_view me.0 a in
      let changed : either (eqb (w2 s) a) b (w2 s) ≡ a + 1 = rw (eq-eqb (w2 s) a found) is_next in (
        w,
        keeps,
        tt,
        subst (λ n. R (stepped s 2 n id me.1 w keeps)) (sym changed)
            (set_2 s (a + 1) _ _ q.three_words (numbers r id me.0 at none_yet room)),
        ((λ _. refl), λ other. absurd (other found)),
      ))
      (λ other.
      let same : either (eqb (w2 s) a) b (w2 s) ≡ w2 s = rw (ne_eqb (w2 s) a other) refl in (
        me.0,
        keeps,
        tt,
        subst (λ n. R (stepped s 2 n id me.1 me.0 keeps)) (sym same)
            (set_2 s (w2 s) _ _ q.three_words (rests q.holds id me.0 at)),
        ((λ found. absurd (other found)), λ _. refl),
      ))

  -- kind 7
  pub splits : (id : ℕ) (v : V) → v.spent ≡ false
      → Splits R id v v (new_view None v.seen v.library v.room)
  splits id v here s q at =
      let new : V = new_view None v.seen v.library v.room in
      ruled q.three_words
      (subst (λ vs. Rs (w0 s) (w1 s) (w2 s) s.homes (vs ++ new ∷ []))
      (sym (set_again s.views id v at)) (parts_in q.holds id v at here))

  -- kind 9
  pub joins : (id : ℕ) (v : V) (other : ℕ) (w : V) → v.held ≡ None → w.held ≡ None → v.spent ≡ false
      → Joins R id v other w (joined_view v w) spent_view
  joins id v other w idle rest here s q at apart there =
      let still = set_else s.views id other (joined_view v w) apart in
      ruled q.three_words (fuses q.holds id other v w at (sym still ∙ there) apart idle rest here)

  -- the start
  pub opens : (h : H) (n : ℕ) (xs : List (Option H)) (log : List E) (library : Option B) (room : ℕ)
      → xs ≡ Some h ∷ []
      → facts h ≡ counted_facts names log library room
      → sound h → n ≡ length log → lawful library log → Each (λ e. names e ≡ None) log
      → R (opening (0 ∷ n ∷ 1 ∷ []) xs (new_view (Some 0) log library room))
  opens h n xs log library room is somewhere is_sound counted is_lawful fresh =
      let first = new_view (Some 0) log library room in
      let r = begins facts names lawful sound h n log library room
      somewhere is_sound counted is_lawful fresh in
      subst (λ (l : List (Option H)). R (opening (0 ∷ n ∷ 1 ∷ []) l first)) (sym is) (ruled refl r)

  -- what the winner learns doesn't speak of its misses
  but_misses : (n : ℕ) (v : V) (h : H) → Learns facts names lawful sound (record v { misses = n }) h
      → Learns facts names lawful sound v h
  but_misses n v h t = assumption t

  -- so it may have missed before
  pub taken_misses : (n : ℕ) (v w : V) (h taken : H) → w ≡ record v { misses = n } → h ≡ taken
      → Learns facts names lawful sound w h → Learns facts names lawful sound v taken
  taken_misses n v w h taken missed same t =
      subst (Learns facts names lawful sound v) same
      (but_misses n v h (subst (λ w. Learns facts names lawful sound w h) missed t))
