-- The rule is kept where a seat takes the turn, adds an entry and leaves the turn. Words are
-- numbers here.
use Rattle.std.proofs.Common.{◌≡◌, ℕ, ◌+◌, ◌<◌, List, [], ◌∷◌, ◌++◌, length, set, Option, Some}
use Rattle.std.proofs.Common.{refl, sym, ap, ◌∙◌, subst, ⊎_elim, arith, false, inl, inr}
use Rattle.std.proofs.Common.{length-set, length-append, append-nil}
use mathlib.Core.List.{IsPrefix}
use mathlib.Core.Option.{some, none}
use lib.ListN.{get_elem?}
use Rattle.atomic_table.proofs.Lists.{set_here}
use Rattle.turn_rule.specs.declared.view.View.{View}
use Rattle.turn_rule.specs.Seats.{Each, times, own_account, IsAccount, accounts}
use Rattle.turn_rule.specs.Seats.{holder_view, grown_view, rested_view}
use Rattle.turn_rule.specs.Rule.{Facts, counted_facts, Homes, IsOut, IsHome, IsTrueView, Holds}
use Rattle.turn_rule.specs.Steps.{AddedOne}
use Rattle.turn_rule.proofs.Lists.{within, both_within, set_there, Each-append, absent}
use Rattle.turn_rule.proofs.Lists.{times_own, times_here, told_other, some_inj}
use Rattle.turn_rule.proofs.Numbers.{count, at_most_once, own_told}
use Rattle.turn_rule.proofs.Keeps.{prefix_trans, none_held, views_stay, same_count, turned}

module _ {H E B : Type 0} {facts : H → Facts E B} {names : E → Option ℕ}
    {lawful : Option B → List E → Type 0} {sound : H → Type 0} {n next : ℕ}
    {hs : Homes H} {vs : List (View E B)}
    (r : Holds facts names lawful sound 0 n next hs vs) where
  -- the turn is free: the state is at home
  pub home_of : IsHome facts names lawful sound hs r.log r.library r.room
  home_of = ⊎_elim (λ home. home.1) (λ out. let e = out.0 in absurd (omega arith)) r.somewhere

  -- Kind 1, won: the turn goes to the seat, and the slot is out.
  pub wins : (id number : ℕ) (v : View E B) (log : List E) → get_elem? vs id ≡ some v
      → v.number ≡ Some number → log ≡ r.log
      → Holds facts names lawful sound 1 n next (set hs 0 none) (set vs id (holder_view v log))
  wins id number v log at num is =
      let one_slot = r.one_slot in
      let inside : 0 < length hs = omega arith in
      let mine = r.each id v at in
      let w = holder_view v log in
      turned r 1 id (set hs 0 none) v w at refl (length-set hs 0 none ∙ r.one_slot)
      (inr (refl, set_here hs 0 none inside, (w, set_there vs id v w at, ap Some is)))
      record {
        seen = mine.seen;
        holds = λ held h.
            (refl, refl, (let same : log ≡ held = cc in sym same ∙ is), (number, num));
        drawn = mine.drawn;
        told = mine.told;
        under = mine.under;
      }
      (λ j d other there held h.
      let was = ((r.each j d there).holds held h).0 in absurd (omega arith))

module _ {H E B : Type 0} {facts : H → Facts E B} {names : E → Option ℕ}
    {lawful : Option B → List E → Type 0} {sound : H → Type 0} {n next : ℕ}
    {hs : Homes H} {vs : List (View E B)}
    (r : Holds facts names lawful sound 1 n next hs vs) where
  -- the turn is taken: the slot is out
  out_of : IsOut hs
  out_of = ⊎_elim (λ home. let e = home.0 in absurd (omega arith)) (λ out. out.1) r.somewhere

  -- Kind 3: the holder's entry joins the journal.
  pub adds : (id number : ℕ) (v : View E B) (after own : List E) → get_elem? vs id ≡ some v
      → AddedOne names lawful v number after own
      → Holds facts names lawful sound 1 (n + 1) next hs (set vs id (grown_view v after own))
  adds id number v after own at a =
      let mine = r.each id v at in
      let h = mine.holds a.log a.held in
      let e = a.entry in
      let w = grown_view v after own in
      let is : after ≡ r.log ++ e ∷ [] = a.grown ∙ ap (λ l. l ++ e ∷ []) h.2 in
      let older : IsPrefix r.log after = (e ∷ [], sym is) in
      let told = own_told r id number v at a.has_number in
      let under_next : number < next = told.0.1 in
      let answers : count number v ≡ 1 + times number v.ended =
      ap (λ x. times number (own_account x v.own ++ v.ended)) a.has_number
      ∙ times_here number v.own v.ended in
      let one = at_most_once r number in
      let just = within (count number) vs id v at in
      let not_ended : times number v.ended ≡ 0 = omega arith in
      let counted = r.counted in
      let longer_by : length after ≡ length r.log + 1 =
      ap length is ∙ length-append r.log (e ∷ []) in
      let Told = λ (l : List E) (ps : List (ℕ × List E)). Each (IsAccount names next l) ps in
      let told_after : (ps : List (ℕ × List E)) → times number ps ≡ 0 → Told r.log ps
      → Told after ps = λ ps none old. subst (λ l. Told l ps) (sym is)
      (told_other names next number r.log e ps a.by (absent number ps none) old) in
      let IsBelow = λ (x : E). (m : ℕ) → names x ≡ Some m → m < next in
      let low : IsBelow e = λ m q.
      subst (λ k. k < next) (some_inj (sym a.by ∙ q)) under_next in record {
        log = after;
        library = r.library;
        room = r.room;
        holder = id;
        one_slot = r.one_slot;
        somewhere = inr (refl, out_of, (w, set_there vs id v w at, refl));
        counted = omega arith;
        is_lawful = subst (λ b. lawful b after) ((mine.under a.here).0) a.is_lawful;
        limit = r.limit;
        below = subst (Each IsBelow) (sym is)
            (Each-append IsBelow r.log (e ∷ []) r.below (low, tt));
        once = λ m below.
            same_count vs id v w at m (times_own m v.number own v.own v.ended) ∙ r.once m below;
        each = views_stay (IsTrueView names 1 id next after r.library r.room) vs id w
            record {
              seen = prefix_trans _ _ _ mine.seen older;
              holds = λ held g.
                  (refl, refl, (let same : after ≡ held = cc in sym same), (number, a.has_number));
              drawn = mine.drawn;
              told = subst (λ x. Told after (own_account x own ++ v.ended)) (sym a.has_number)
                  ((a.has_own, under_next), told_after v.ended not_ended told.1);
              under = mine.under;
            }
            (λ j d other q.
            let old = r.each j d q in
            let both = both_within (count number) vs j id d v q at other in
            let none_there : count number d ≡ 0 = omega arith in record {
              seen = prefix_trans _ _ _ old.seen older;
              holds = λ held g. absurd (other ((old.holds held g).1 ∙ sym h.1));
              drawn = old.drawn;
              told = told_after (accounts d) none_there old.told;
              under = old.under;
            });
      }

  -- Kind 5: the state is home, and the turn is free.
  pub leaves : (id : ℕ) (v : View E B) (held : List E) (h : H) → get_elem? vs id ≡ some v
      → v.held ≡ Some held → v.spent ≡ false
      → facts h ≡ counted_facts names held v.library v.room
      → sound h
      → Holds facts names lawful sound 0 n next
      (set hs 0 (some (Some h))) (set vs id (rested_view v held))
  leaves id v held h at is here somewhere is_sound =
      let one_slot = r.one_slot in
      let inside : 0 < length hs = omega arith in
      let mine = r.each id v at in
      let g = mine.holds held is in
      let u = mine.under here in
      let w = rested_view v held in
      let moved = somewhere ∙ (λ i. counted_facts names (g.2 i) (u.0 i) (u.1 i)) in
      turned r 0 id (set hs 0 (some (Some h))) v w at refl
      (length-set hs 0 (some (Some h)) ∙ r.one_slot)
      (inl (refl, (h, set_here hs 0 (some (Some h)) inside, moved, is_sound)))
      record {
        seen = ([], append-nil held ∙ g.2);
        holds = λ now q. absurd (none_held now q);
        drawn = mine.drawn;
        told = mine.told;
        under = mine.under;
      }
      (λ j d other there now q. other (((r.each j d there).holds now q).1 ∙ sym g.1))
