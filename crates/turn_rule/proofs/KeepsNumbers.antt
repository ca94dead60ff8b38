-- The rule is kept where passes are split, numbered and joined, and holds at the start. Words are
-- numbers here.
use Rattle.std.proofs.Common.{◌≡◌, ◌≢◌, ℕ, ◌+◌, ◌^◌, ◌<◌, List, [], ◌∷◌, ◌++◌, length, set}
use Rattle.std.proofs.Common.{Option, Some, None, refl, sym, ap, ◌∙◌, subst, ⊎_elim, arith}
use Rattle.std.proofs.Common.{append_assoc, append-nil, cond, ltb, true, false, inl, inr}
use mathlib.Core.Logic.{dite}
use mathlib.Core.List.{IsPrefix}
use mathlib.Core.Option.{some}
use native.Mathlib.Decide.{ℕ_discrete}
use lib.ListN.{get_elem?}
use Rattle.atomic_table.proofs.Lists.{set_else, at_snoc, at_longer}
use Rattle.turn_rule.specs.declared.view.View.{View}
use Rattle.turn_rule.specs.Journal.{longer}
use Rattle.turn_rule.specs.Seats.{total, Each, times, entry_count, own_account, IsAccount, accounts}
use Rattle.turn_rule.specs.Seats.{new_view, spent_view, numbered_view, joined_view}
use Rattle.turn_rule.specs.Rule.{Facts, counted_facts, Homes, HasView, IsTrueView, Holds}
use Rattle.turn_rule.proofs.Lists.{total_set, total_append, within, Each-append, Each-map}
use Rattle.turn_rule.proofs.Lists.{times_here, times_else, entries_none}
use Rattle.turn_rule.proofs.Numbers.{count, not_given}
use Rattle.turn_rule.proofs.Keeps.{none_held, views_stay, IsTrueOf, still_with, other_views}

-- what holds of two lists holds of the longer one
of_longer : {E : Type 0} (P : List E → Type 0) (a b : List E) → P a → P b → P (longer a b)
of_longer P a b p q =
    (elim (ltb (length a) (length b)) as (λ t. P (cond t b a)) [ true ↦ q | false ↦ p ])

-- two seats, joined, answer for what both answer for
accounts-joined : {E B : Type 0} (v w : View E B)
    → accounts (joined_view v w) ≡ accounts v ++ accounts w
accounts-joined v w = sym (append_assoc (own_account v.number v.own) v.ended (accounts w))

-- and for as many entries
pub entry_count-joined : {E B : Type 0} (v w : View E B)
    → entry_count (accounts (joined_view v w)) ≡ entry_count (accounts v) + entry_count (accounts w)
entry_count-joined v w =
    ap entry_count (accounts-joined v w) ∙ total_append _ (accounts v) (accounts w)

module _ {H E B : Type 0} {facts : H → Facts E B} {names : E → Option ℕ}
    {lawful : Option B → List E → Type 0} {sound : H → Type 0} {turn n next : ℕ}
    {hs : Homes H} {vs : List (View E B)}
    (r : Holds facts names lawful sound turn n next hs vs) where
  -- Kind 8: the next number is given to a seat that has none.
  pub numbers : (id : ℕ) (v : View E B) → get_elem? vs id ≡ some v → v.number ≡ None → next < 2 ^ 32
      → Holds facts names lawful sound turn n (next + 1) hs (set vs id (numbered_view v next))
  numbers id v at none_yet room =
      let mine = r.each id v at in
      let w = numbered_view v next in
      let Told = λ (ps : List (ℕ × List E)). Each (IsAccount names next r.log) ps in
      let was : (m : ℕ) → count m v ≡ times m v.ended = λ m.
      ap (λ x. times m (own_account x v.own ++ v.ended)) none_yet in
      let told : Told v.ended =
      subst (λ x. Told (own_account x v.own ++ v.ended)) none_yet mine.told in
      let still_told = λ (ps : List (ℕ × List E)).
      Each-map (IsAccount names next r.log) (IsAccount names (next + 1) r.log) ps
      (λ p t. let low = t.1 in (t.0, omega arith)) in
      record {
        log = r.log;
        library = r.library;
        room = r.room;
        holder = r.holder;
        one_slot = r.one_slot;
        somewhere = still_with r vs id v w at refl r.somewhere;
        counted = r.counted;
        is_lawful = r.is_lawful;
        limit = omega arith;
        below = Each-map (λ x. (m : ℕ) → names x ≡ Some m → m < next)
            (λ x. (m : ℕ) → names x ≡ Some m → m < next + 1) r.log
            (λ x f m q. let low = f m q in omega arith) r.below;
        once = λ m below.
            let changed = total_set (count m) vs id v w at in
            let s = was m in
            dite (ℕ_discrete next m)
            (λ same.
            let z = not_given r m (omega arith) in
            let one_more = times_here m [] v.ended in
            let here : count m w ≡ 1 + times m v.ended =
            ap (λ k. times m (own_account (Some k) [] ++ v.ended)) same ∙ one_more in
            let low = within (count m) vs id v at in omega arith)
            (λ other.
            let o = r.once m (omega arith) in
            let others : count m w ≡ times m v.ended = times_else m next [] v.ended other in
            omega arith);
        each = views_stay (IsTrueView names turn r.holder (next + 1) r.log r.library r.room) vs id w
            record {
              seen = mine.seen;
              holds = λ held h. let old = mine.holds held h in (old.0, old.1, old.2, (next, refl));
              drawn = (let low = mine.drawn in omega arith);
              told = (
                (sym (entries_none names next next r.log r.below (omega arith)), omega arith),
                still_told v.ended told,
              );
              under = mine.under;
            }
            (λ j d other e. let old = r.each j d e in record {
              seen = old.seen;
              holds = old.holds;
              drawn = (let low = old.drawn in omega arith);
              told = still_told (accounts d) old.told;
              under = old.under;
            });
      }

  -- Kind 7: a new seat, which answers for nothing.
  pub parts_in : (id : ℕ) (v : View E B) → get_elem? vs id ≡ some v → v.spent ≡ false
      → Holds facts names lawful sound turn n next hs
      (vs ++ new_view None v.seen v.library v.room ∷ [])
  parts_in id v at here =
      let mine = r.each id v at in
      let w : View E B = new_view None v.seen v.library v.room in
      other_views r (vs ++ w ∷ [])
      (⊎_elim (λ home. inl home)
      (λ out. let x = out.2 in
      inr (out.0, out.1, (x.0, at_longer vs (w ∷ []) r.holder x.0 x.1, x.2))) r.somewhere)
      (λ m below.
      let t = total_append (count m) vs (w ∷ []) in
      let o = r.once m below in
      let z : total (count m) (w ∷ []) ≡ 0 = refl in omega arith)
      (λ j d e. ⊎_elim (r.each j d)
      (λ (t : w ≡ d). subst (IsTrueOf r j) t record {
        seen = mine.seen;
        holds = λ now q. absurd (none_held now q);
        drawn = omega arith;
        told = tt;
        under = λ _. mine.under here;
      })
      (at_snoc vs w d j e))

  -- Kind 9: one seat takes in what another answers for.
  pub fuses : (id other : ℕ) (v w : View E B) → HasView vs id v → HasView vs other w → other ≢ id
      → v.held ≡ None → w.held ≡ None → v.spent ≡ false
      → Holds facts names lawful sound turn n next hs
      (set (set vs id (joined_view v w)) other spent_view)
  fuses id other v w at there apart idle rest here =
      let mine = r.each id v at in
      let theirs = r.each other w there in
      let f : View E B = joined_view v w in
      let u : View E B = spent_view in
      let joined = set vs id f in
      let still : get_elem? joined other ≡ some w = set_else vs id other f apart ∙ there in
      let K = IsTrueOf r in
      let T = IsAccount names next r.log in
      let told = Each-append T (accounts v) (accounts w) mine.told theirs.told in
      let of_spent : K other u = record {
        seen = (r.log, refl);
        holds = λ now q. absurd (none_held now q);
        drawn = omega arith;
        told = tt;
        under = λ q. absurd (cc);
      } in
      let of_joined : K id f = record {
        seen = of_longer (λ l. IsPrefix l r.log) v.seen w.seen mine.seen theirs.seen;
        holds = λ now q. absurd (none_held now (sym idle ∙ q));
        drawn = mine.drawn;
        told = subst (Each T) (sym (accounts-joined v w)) told;
        under = mine.under;
      } in
      other_views r (set joined other u)
      (still_with r joined other w u still (sym rest) (still_with r vs id v f at refl r.somewhere))
      (λ m below.
      let a = total_set (count m) vs id v f at in
      let b = total_set (count m) joined other w u still in
      let o = r.once m below in
      let both : count m f ≡ count m v + count m w =
      ap (times m) (accounts-joined v w) ∙ total_append _ (accounts v) (accounts w) in
      let none_left : count m u ≡ 0 = refl in omega arith)
      (views_stay K joined other u of_spent
      (λ j d _. views_stay K vs id f of_joined (λ i x _. r.each i x) j d))

-- a list of none has no element
empty_at : {A : Type 0} (i : ℕ) (d : A) → get_elem? {A = A} [] i ≡ some d → ⊥
empty_at i d e = cc

-- who names no pass names no number
no_number : (m : ℕ) → None ≡ Some m → ⊥
no_number m e = cc

-- The rule at the start.
pub begins : {H E B : Type 0} (facts : H → Facts E B) (names : E → Option ℕ)
    (lawful : Option B → List E → Type 0) (sound : H → Type 0) (h : H) (n : ℕ) (log : List E)
    (library : Option B) (room : ℕ)
    → facts h ≡ counted_facts names log library room
    → sound h → n ≡ length log → lawful library log → Each (λ e. names e ≡ None) log
    → Holds facts names lawful sound 0 n 1
    (some (Some h) ∷ []) (new_view (Some 0) log library room ∷ [])
begins {E} {B} facts names lawful sound h n log library room is is_sound counted is_lawful fresh =
    let v : View E B = new_view (Some 0) log library room in
    let IsBelow = λ (k : ℕ) (e : E). (m : ℕ) → names e ≡ Some m → m < k in
    let low : Each (IsBelow 0) log =
    Each-map (λ e. names e ≡ None) (IsBelow 0) log
    (λ e q m p. absurd (no_number m (sym q ∙ p))) fresh in
    record {
      log = log;
      library = library;
      room = room;
      holder = 0;
      one_slot = refl;
      somewhere = inl (refl, (h, refl, is, is_sound));
      counted = counted;
      is_lawful = is_lawful;
      limit = omega arith;
      below = Each-map (IsBelow 0) (IsBelow 1) log (λ e f m q. let lt = f m q in omega arith) low;
      once = λ m below.
          let zero_is : 0 ≡ m = omega arith in
          subst (λ k. total (count k) (v ∷ []) ≡ 1) zero_is refl;
      each = λ i d e. ⊎_elim
          (λ (none_there : HasView [] i d). absurd (empty_at i d none_there))
          (λ (t : v ≡ d). subst (IsTrueView names 0 0 1 log library room i) t record {
            seen = ([], append-nil log);
            holds = λ now q. absurd (none_held now q);
            drawn = omega arith;
            told = ((sym (entries_none names 0 0 log low (omega arith)), omega arith), tt);
            under = λ _. (refl, refl);
          })
          (at_snoc [] v d i e);
    }
