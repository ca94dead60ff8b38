-- The notes of the users of a content change.
use Rattle.std.proofs.Common.{ℕ, zero, suc, ◌≡◌, ◌+◌, ◌-◌, ◌<◌, Bool, true, false, not, ◌&&◌, ◌||◌, Some, List, [], ◌∷◌, ◌++◌, length, take, drop, refl, sym, ◌∙◌, ap, subst, arith}
use Rattle.std.specs.Prelude.{◌==◌, if◌then◌else◌, nat_lt}
use Rattle.std.specs.List.{slice_get, slice_set}
use Rattle.std.proofs.lemmas.Bool.{eq-eqb, ne_eqb, ltb-true}
use Rattle.cut_core.proofs.Bools.{or_true}
use Rattle.cut_core.proofs.Lists.{taken}
use Rattle.view_notes.specs.declared.change.Change.{Change}
use Rattle.view_notes.specs.declared.change.Change.TheVariants.{Resident, Absent, Gone}
use Rattle.view_notes.specs.declared.note.Note.{Note}
use Rattle.view_notes.specs.declared.note.Role.{Role}
use Rattle.view_notes.specs.declared.note.Role.TheVariants.{Pending, Leaf, Adding, Replacing}
use Rattle.view_notes.specs.Agreement.{ArePlaced, AreReadBut, IsBefore, unready_among}
use Rattle.view_notes.specs.Notes.{is_kept, kept_by, ready_by, ready_of}
use Rattle.view_notes.specs.Rising.{KeptFrom, ReadyAreRight}
use Rattle.view_notes.specs.Users.{adds_to, changed_note, changed_notes, changed_times, is_among, no_lacking_leaves, times_in}
use Rattle.view_notes.proofs.Unready.{one_same}

-- ---- how often a number stands in a list

abbrev one_at : ℕ → ℕ → ℕ
one_at u i = if u == i then 1 else 0

at_itself : (u : ℕ) → one_at u u ≡ 1
at_itself u = ap (λ b. if b then 1 else 0) (eq-eqb u u refl)

at_other : (u i : ℕ) → (u ≡ i → ⊥) → one_at u i ≡ 0
at_other u i ne = ap (λ b. if b then 1 else 0) (ne_eqb u i ne)

times_append : (us vs : List ℕ) (i : ℕ) → times_in (us ++ vs) i ≡ times_in us i + times_in vs i
times_append [] vs i = omega arith
times_append (u ∷ us) vs i = omega (arith, times_append us vs i)

once_more : (us : List ℕ) (u : ℕ) → times_in (us ++ u ∷ []) u ≡ suc (times_in us u)
once_more us u = omega (arith, times_append us (u ∷ []) u, at_itself u)

no_more : (us : List ℕ) (u i : ℕ) → (u ≡ i → ⊥) → times_in (us ++ u ∷ []) i ≡ times_in us i
no_more us u i ne = omega (arith, times_append us (u ∷ []) i, at_other u i ne)

pub no_times : (us : List ℕ) (i : ℕ) → is_among us i ≡ false → times_in us i ≡ 0
no_times [] i e = refl
no_times (u ∷ us) i e = by (u == i) refl e (no_times us i)
  where
    by : (b : Bool) → (u == i) ≡ b → (b || is_among us i) ≡ false
        → (is_among us i ≡ false → times_in us i ≡ 0) → one_at u i + times_in us i ≡ 0
    by true f g rest = cc
    by false f g rest =
        let none : one_at u i ≡ 0 = ap (λ b. if b then 1 else 0) f in omega (arith, rest g, none)

-- ---- one user more

changed_others : (c : Change) (us : List ℕ) (u at : ℕ) (ns : List Note) → u < at
    → changed_notes c us at ns ≡ changed_notes c (us ++ u ∷ []) at ns
changed_others c us u at [] lt = refl
changed_others c us u at (n ∷ ns) lt =
    ap (λ k. changed_times c k n ∷ changed_notes c us (at + 1) ns)
    (sym (no_more us u at (λ z. absurd (omega (arith, lt, z)))))
    ∙ ap (λ ms. changed_times c (times_in (us ++ u ∷ []) at) n ∷ ms)
    (changed_others c us u (at + 1) ns (omega (arith, lt)))

changed_more : (c : Change) (us : List ℕ) (at : ℕ) (ns : List Note) (k : ℕ) (x : Note)
    → slice_get (changed_notes c us at ns) k ≡ Some x
    → slice_set (changed_notes c us at ns) k (changed_note c x)
    ≡ changed_notes c (us ++ (at + k) ∷ []) at ns
changed_more c us at [] k x e = cc
changed_more c us at (n ∷ ns) zero x e =
    let same : changed_times c (times_in us at) n ≡ x = cc in
    let zero_more : at ≡ at + 0 = omega arith in
    ap (λ y. changed_note c y ∷ changed_notes c us (at + 1) ns) (sym same)
    ∙ ap (λ k. changed_times c k n ∷ changed_notes c us (at + 1) ns) (sym (once_more us at))
    ∙ ap (λ ms. changed_times c (times_in (us ++ at ∷ []) at) n ∷ ms)
    (changed_others c us at (at + 1) ns (omega arith))
    ∙ ap (λ u. changed_notes c (us ++ u ∷ []) at (n ∷ ns)) zero_more
changed_more c us at (n ∷ ns) (suc k) x e =
    let up : (at + 1) + k ≡ at + suc k = omega arith in
    ap (λ ms. changed_times c (times_in us at) n ∷ ms) (changed_more c us (at + 1) ns k x e)
    ∙ ap (λ u. changed_times c (times_in us at) n ∷ changed_notes c (us ++ u ∷ []) (at + 1) ns) up
    ∙ ap (λ t. changed_times c t n ∷ changed_notes c (us ++ (at + suc k) ∷ []) (at + 1) ns)
    (sym (no_more us (at + suc k) at (λ z. absurd (omega (arith, z)))))

-- the note of the i-th user changes
pub user_changed : (c : Change) (us : List ℕ) (i u : ℕ) (ns : List Note) (x : Note)
    → slice_get us i ≡ Some u → slice_get (changed_notes c (take i us) 0 ns) u ≡ Some x
    → slice_set (changed_notes c (take i us) 0 ns) u (changed_note c x)
    ≡ changed_notes c (take (i + 1) us) 0 ns
user_changed c us i u ns x at e =
    let first : 0 + u ≡ u = omega arith in
    changed_more c (take i us) 0 ns u x e
    ∙ ap (λ v. changed_notes c (take i us ++ v ∷ []) 0 ns) first
    ∙ ap (λ vs. changed_notes c vs 0 ns) (sym (taken us i u at))

pub none_changed : (c : Change) (at : ℕ) (ns : List Note) → ns ≡ changed_notes c [] at ns
none_changed c at [] = refl
none_changed c at (n ∷ ns) = ap (λ ms. n ∷ ms) (none_changed c (at + 1) ns)

pub changed_length : (c : Change) (us : List ℕ) (at : ℕ) (ns : List Note)
    → length (changed_notes c us at ns) ≡ length ns
changed_length c us at [] = refl
changed_length c us at (n ∷ ns) = omega (arith, changed_length c us (at + 1) ns)

-- ---- readiness isn't touched

pub record SameReadiness (n m : Note) : Type 0 where
  pub parent : m.parent ≡ n.parent
  pub unready : m.unready ≡ n.unready
  pub role : m.role ≡ n.role
  pub ready : m.ready ≡ n.ready

note_same : (c : Change) (n : Note) → SameReadiness n (changed_note c n)
note_same Resident n = record { parent = refl; unready = refl; role = refl; ready = refl }
note_same Absent n = record { parent = refl; unready = refl; role = refl; ready = refl }
note_same Gone n = record { parent = refl; unready = refl; role = refl; ready = refl }

pub times_same : (c : Change) (k : ℕ) (n : Note) → SameReadiness n (changed_times c k n)
times_same c zero n = record { parent = refl; unready = refl; role = refl; ready = refl }
times_same c (suc k) n =
    let before = times_same c k n in
    let last = note_same c (changed_times c k n) in
    record {
      parent = last.parent ∙ before.parent;
      unready = last.unready ∙ before.unready;
      role = last.role ∙ before.role;
      ready = last.ready ∙ before.ready;
    }

times_kept : (c : Change) (k : ℕ) (n : Note) → is_kept (changed_times c k n) ≡ is_kept n
times_kept c k n =
    let s = times_same c k n in
    ap (λ r. kept_by r (changed_times c k n).unready) s.role ∙ ap (kept_by n.role) s.unready

module _ (c : Change) (us : List ℕ) where
  among_changed : (i at : ℕ) (ns : List Note)
      → unready_among i (changed_notes c us at ns) ≡ unready_among i ns
  among_changed i at [] = refl
  among_changed i at (n ∷ ns) =
      let s = times_same c (times_in us at) n in
      omega (
        arith,
        one_same i (changed_times c (times_in us at) n) n s.parent s.ready,
        among_changed i (at + 1) ns,
      )

  pub placed_changed : (at : ℕ) (ns : List Note) → ArePlaced at ns
      → ArePlaced at (changed_notes c us at ns)
  placed_changed at [] h = tt
  placed_changed at (n ∷ ns) h =
      let s = times_same c (times_in us at) n in (
        subst (λ p. IsBefore p at) (sym s.parent) h.0,
        s.unready ∙ h.1 ∙ sym (among_changed at (at + 1) ns),
        placed_changed (at + 1) ns h.2,
      )

  -- the users are in doubt
  pub read_changed : (at : ℕ) (ns : List Note) → AreReadBut (λ i. false) at ns
      → AreReadBut (is_among us) at (changed_notes c us at ns)
  read_changed at [] h = tt
  read_changed at (n ∷ ns) h = (
    (λ q. let s = times_same c (times_in us at) n in
        s.ready ∙ h.0 refl
        ∙ sym (ap (λ k. ready_of (changed_times c k n)) (no_times us at q))),
    read_changed (at + 1) ns h.1,
  )

  pub kept_changed : (at : ℕ) (ns : List Note) → KeptFrom ns (changed_notes c us at ns)
  kept_changed at [] = tt
  kept_changed at (n ∷ ns) =
      ((λ q. sym (times_kept c (times_in us at) n) ∙ q), kept_changed (at + 1) ns)

  leaves_by : (b l : Bool) → not (b && (not b && l)) ≡ true
  leaves_by true l = refl
  leaves_by false l = refl

  pub none_leaves : (lacking : ℕ → Bool) (at : ℕ) (ns : List Note)
      → no_lacking_leaves lacking at ns (changed_notes c us at ns) ≡ true
  none_leaves lacking at [] = refl
  none_leaves lacking at (n ∷ ns) =
      ap (λ b. not (is_kept n && (not b && lacking at))
      && no_lacking_leaves lacking (at + 1) ns (changed_notes c us (at + 1) ns))
      (times_kept c (times_in us at) n)
      ∙ ap (λ b. b && no_lacking_leaves lacking (at + 1) ns (changed_notes c us (at + 1) ns))
      (leaves_by (is_kept n) (lacking at))
      ∙ none_leaves lacking (at + 1) ns

-- ---- a node that is ready stays so, while contents become resident or absent

-- a node that lacks a content is ready by its children alone
by_children : (role : Role) (o r u o' r' : ℕ) → (o == 0) ≡ false → (r == o) ≡ false
    → ready_by role o r u ≡ true → ready_by role o' r' u ≡ true
by_children Pending o r u o' r' e f h = cc
by_children Leaf o r u o' r' e f h = let no : false ≡ true = sym f ∙ h in cc
by_children Adding o r u o' r' e f h =
    let no : false ≡ true =
    sym f ∙ sym (ap (λ b. if b then u == 0 else r == o) e) ∙ h in cc
by_children Replacing o r u o' r' e f h =
    let all : (u == 0) ≡ true =
    sym (ap (λ b. (not (o == 0) && b) || (u == 0)) f ∙ none (not (o == 0)) (u == 0)) ∙ h in
    ap (λ b. (not (o' == 0) && r' == o') || b) all ∙ or_true (not (o' == 0) && r' == o')
  where
    none : (a b : Bool) → ((a && false) || b) ≡ b
    none true b = refl
    none false b = refl

note_right : (c : Change) (n : Note) → adds_to c ≡ true → ready_of n ≡ true
    → ready_of (changed_note c n) ≡ true
note_right Resident n a h = by (nat_lt n.resident n.own) refl
  where
    by : (b : Bool) → nat_lt n.resident n.own ≡ b
        → ready_by n.role n.own (if b then n.resident + 1 else n.resident) n.unready ≡ true
    by false e = h
    by true e =
        let less = ltb-true n.resident n.own e in
        by_children n.role n.own n.resident n.unready n.own (n.resident + 1)
        (ne_eqb n.own 0 (λ z. absurd (omega (arith, less, z))))
        (ne_eqb n.resident n.own (λ z. absurd (omega (arith, less, z)))) h
note_right Absent n a h = by (nat_lt n.resident n.own) refl
  where
    by : (b : Bool) → nat_lt n.resident n.own ≡ b
        → ready_by n.role (if b then n.own - 1 else n.own) n.resident n.unready ≡ true
    by false e = h
    by true e =
        let less = ltb-true n.resident n.own e in
        by_children n.role n.own n.resident n.unready (n.own - 1) n.resident
        (ne_eqb n.own 0 (λ z. absurd (omega (arith, less, z))))
        (ne_eqb n.resident n.own (λ z. absurd (omega (arith, less, z)))) h
note_right Gone n a h = cc

times_right : (c : Change) (k : ℕ) (n : Note) → adds_to c ≡ true → ready_of n ≡ true
    → ready_of (changed_times c k n) ≡ true
times_right c zero n a h = h
times_right c (suc k) n a h = note_right c (changed_times c k n) a (times_right c k n a h)

pub right_changed : (c : Change) (us : List ℕ) (at : ℕ) (ns : List Note) → adds_to c ≡ true
    → AreReadBut (λ i. false) at ns → ReadyAreRight (changed_notes c us at ns)
right_changed c us at [] a h = tt
right_changed c us at (n ∷ ns) a h = (
  (λ q. times_right c (times_in us at) n a
      (sym (h.0 refl) ∙ sym (times_same c (times_in us at) n).ready ∙ q)),
  right_changed c us (at + 1) ns a h.1,
)

-- the users from the i-th on are it and those behind it
pub dropped : {A : Type 0} (xs : List A) (i : ℕ) (x : A) → slice_get xs i ≡ Some x
    → drop i xs ≡ x ∷ drop (i + 1) xs
dropped [] i x e = cc
dropped (y ∷ xs) zero x e = let same : y ≡ x = cc in ap (λ z. z ∷ xs) same
dropped (y ∷ xs) (suc i) x e =
    let up : suc (i + 1) ≡ suc i + 1 = omega arith in
    dropped xs i x e ∙ ap (λ k. x ∷ drop k (y ∷ xs)) up
