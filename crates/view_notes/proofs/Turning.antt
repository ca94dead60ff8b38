-- A node turns ready, or unready: its note changes, and its parent's that counts it.
use Rattle.std.proofs.Common.{ℕ, zero, suc, ◌≡◌, ◌+◌, ◌-◌, ◌<◌, ◌≤◌, Bool, true, false, not, ◌||◌, Some, None, List, [], ◌∷◌, length, map, refl, sym, ◌∙◌, ap, subst, arith}
use Rattle.std.specs.Prelude.{◌==◌, if◌then◌else◌, slice_index_or}
use Rattle.std.specs.List.{slice_get, slice_set}
use Rattle.std.proofs.lemmas.Bool.{eq-eqb, ne_eqb}
use Rattle.std.proofs.lemmas.Option.{slice_get-get_or}
use Rattle.view_notes.specs.declared.note.Note.{Note}
use Rattle.view_notes.specs.declared.note.Role.TheVariants.{Pending}
use Rattle.view_notes.specs.Agreement.{ArePlaced, AreReadBut, IsBefore, SameFixed, fixed, unready_among, unready_one}
use Rattle.view_notes.specs.Notes.{ready_of}
use Rattle.view_notes.specs.Rising.{with_child, with_ready}
use Rattle.view_notes.proofs.Unready.{among_few, among_one, among_set, one_here, one_none, one_other, one_same, one_unless}

-- what is read behind the end of a list
abbrev pub no_note : Note
no_note = record { parent = None; own = 0; resident = 0; unready = 0; role = Pending; ready = false }

get_set_other : (ns : List Note) (k i : ℕ) (m : Note) → (i ≡ k → ⊥)
    → slice_get (slice_set ns k m) i ≡ slice_get ns i
get_set_other [] k i m ne = refl
get_set_other (x ∷ ns) zero zero m ne = absurd (ne refl)
get_set_other (x ∷ ns) zero (suc i) m ne = refl
get_set_other (x ∷ ns) (suc k) zero m ne = refl
get_set_other (x ∷ ns) (suc k) (suc i) m ne =
    get_set_other ns k i m (λ e. ne (omega (arith, e)))

pub within : (ns : List Note) (k : ℕ) (n : Note) → slice_get ns k ≡ Some n → k < length ns
within [] k n e = cc
within (x ∷ ns) zero n e = omega arith
within (x ∷ ns) (suc k) n e = omega (arith, within ns k n e)

pub length_set : (ns : List Note) (k : ℕ) (m : Note) → length (slice_set ns k m) ≡ length ns
length_set [] k m = refl
length_set (x ∷ ns) zero m = refl
length_set (x ∷ ns) (suc k) m = omega (arith, length_set ns k m)

-- ---- placed notes

placed_before : (at : ℕ) (ns : List Note) (k p : ℕ) (n : Note) → ArePlaced at ns
    → slice_get ns k ≡ Some n → n.parent ≡ Some p → p < at + k
placed_before at [] k p n h e f = cc
placed_before at (x ∷ ns) zero p n h e f =
    let same : x ≡ n = cc in
    let before : p < at = subst (λ q. IsBefore q at) (ap (λ (y : Note). y.parent) same ∙ f) h.0 in
    omega (arith, before)
placed_before at (x ∷ ns) (suc k) p n h e f =
    omega (arith, placed_before (at + 1) ns k p n h.2 e f)

pub placed_few : (at : ℕ) (ns : List Note) (k : ℕ) (n : Note) → ArePlaced at ns
    → slice_get ns k ≡ Some n → n.unready < length ns
placed_few at [] k n h e = cc
placed_few at (x ∷ ns) zero n h e =
    let same : x ≡ n = cc in
    omega (arith, h.1, among_few at ns, ap (λ (y : Note). y.unready) same)
placed_few at (x ∷ ns) (suc k) n h e = omega (arith, placed_few (at + 1) ns k n h.2 e)

-- an unready child is counted
placed_counts : (at : ℕ) (ns : List Note) (k p : ℕ) (n m : Note) → ArePlaced at ns
    → slice_get ns k ≡ Some n → n.parent ≡ Some (at + p) → n.ready ≡ false
    → slice_get ns p ≡ Some m → 1 ≤ m.unready
placed_counts at [] k p n m h e f r g = cc
placed_counts at (x ∷ ns) zero p n m h e f r g =
    absurd (omega (arith, placed_before at (x ∷ ns) zero (at + p) n h e f))
placed_counts at (x ∷ ns) (suc k) zero n m h e f r g =
    let same : x ≡ m = cc in
    omega (
      arith,
      h.1,
      among_one at ns k n e,
      one_here at (at + 0) n false f (omega arith) r,
      ap (λ (y : Note). y.unready) same,
    )
placed_counts at (x ∷ ns) (suc k) (suc p) n m h e f r g =
    let up : at + suc p ≡ (at + 1) + p = omega arith in
    placed_counts (at + 1) ns k p n m h.2 e (f ∙ ap (λ i. Some i) up) r g

-- a note changes that counts for the same behind this number
placed_set : (at : ℕ) (ns : List Note) (k : ℕ) (n m : Note) → slice_get ns k ≡ Some n
    → m.parent ≡ n.parent → m.unready ≡ n.unready
    → ((i : ℕ) → at ≤ i → unready_one i m ≡ unready_one i n) → ArePlaced at ns
    → ArePlaced at (slice_set ns k m)
placed_set at [] k n m e f g s h = cc
placed_set at (x ∷ ns) zero n m e f g s h =
    let same : x ≡ n = cc in (
      subst (λ q. IsBefore q at) (ap (λ (y : Note). y.parent) same ∙ sym f) h.0,
      g ∙ sym (ap (λ (y : Note). y.unready) same) ∙ h.1,
      h.2,
    )
placed_set at (x ∷ ns) (suc k) n m e f g s h =
    let here : x.unready ≡ unready_among at (slice_set ns k m) =
    omega (arith, h.1, among_set at ns k n m e, s at (omega arith)) in
    (h.0, here, placed_set (at + 1) ns k n m e f g (λ i le. s i (omega (arith, le))) h.2)

-- a note changes, and its parent's counts that
placed_turn : (at : ℕ) (ns : List Note) (k p : ℕ) (n n' m m' : Note) → ArePlaced at ns
    → slice_get ns k ≡ Some n → slice_get ns p ≡ Some m
    → n.parent ≡ Some (at + p) → n'.parent ≡ n.parent → n'.unready ≡ n.unready
    → m'.parent ≡ m.parent → m'.ready ≡ m.ready
    → m'.unready + unready_one (at + p) n ≡ m.unready + unready_one (at + p) n'
    → ArePlaced at (slice_set (slice_set ns k n') p m')
placed_turn at [] k p n n' m m' h e f b c d b' d' u = cc
placed_turn at (x ∷ ns) zero p n n' m m' h e f b c d b' d' u =
    absurd (omega (arith, placed_before at (x ∷ ns) zero (at + p) n h e b))
placed_turn at (x ∷ ns) (suc k) zero n n' m m' h e f b c d b' d' u =
    let same : x ≡ m = cc in
    let zero_more : at + 0 ≡ at = omega arith in
    let up : m'.unready + unready_one at n ≡ m.unready + unready_one at n' =
    subst (λ i. m'.unready + unready_one i n ≡ m.unready + unready_one i n') zero_more u in
    let counts : m'.unready ≡ unready_among at (slice_set ns k n') =
    omega (arith, h.1, among_set at ns k n n' e, up, ap (λ (y : Note). y.unready) same) in
    let away : (i : ℕ) → at + 1 ≤ i → unready_one i n' ≡ unready_one i n =
    λ i le. one_other i (at + 0) n' (c ∙ b) (λ z. absurd (omega (arith, le, z)))
    ∙ sym (one_other i (at + 0) n b (λ z. absurd (omega (arith, le, z)))) in (
      subst (λ q. IsBefore q at) (ap (λ (y : Note). y.parent) same ∙ sym b') h.0,
      counts,
      placed_set (at + 1) ns k n n' e c d away h.2,
    )
placed_turn at (x ∷ ns) (suc k) (suc p) n n' m m' h e f b c d b' d' u =
    let up : at + suc p ≡ (at + 1) + p = omega arith in
    let before = placed_before (at + 1) ns k (at + suc p) n h.2 e b in
    let there : slice_get (slice_set ns k n') p ≡ Some m =
    get_set_other ns k p n' (λ z. absurd (omega (arith, before, z))) ∙ f in
    let here : x.unready ≡ unready_among at (slice_set (slice_set ns k n') p m') =
    omega (
      arith,
      h.1,
      among_set at ns k n n' e,
      among_set at (slice_set ns k n') p m m' there,
      one_other at (at + suc p) n b (λ z. absurd (omega (arith, z))),
      one_other at (at + suc p) n' (c ∙ b) (λ z. absurd (omega (arith, z))),
      one_same at m' m b' d',
    ) in (
      h.0,
      here,
      placed_turn (at + 1) ns k p n n' m m' h.2 e f (b ∙ ap (λ i. Some i) up) c d b' d'
          (subst (λ i. m'.unready + unready_one i n ≡ m.unready + unready_one i n') up u),
    )

-- ---- which notes are read

pub read_less : (P Q : ℕ → Bool) (at : ℕ) (ns : List Note)
    → ((i : ℕ) → at ≤ i → Q i ≡ false → P i ≡ false) → AreReadBut P at ns → AreReadBut Q at ns
read_less P Q at [] s h = tt
read_less P Q at (n ∷ ns) s h = (
  (λ q. h.0 (s at (omega arith) q)),
  read_less P Q (at + 1) ns (λ i le q. s i (omega (arith, le)) q) h.1,
)

-- a note that is read, or in doubt still, in the place of another
read_set : (P Q : ℕ → Bool) (at : ℕ) (ns : List Note) (k : ℕ) (m : Note) → k < length ns
    → ((i : ℕ) → Q i ≡ false → (i ≡ at + k → ⊥) → P i ≡ false)
    → (Q (at + k) ≡ false → m.ready ≡ ready_of m) → AreReadBut P at ns
    → AreReadBut Q at (slice_set ns k m)
read_set P Q at [] k m inside sub here h = absurd (omega (arith, inside))
read_set P Q at (x ∷ ns) zero m inside sub here h =
    let zero_more : at + 0 ≡ at = omega arith in (
      (λ q. here (ap Q zero_more ∙ q)),
      read_less P Q (at + 1) ns
          (λ i le q. sub i q (λ z. absurd (omega (arith, le, z)))) h.1,
    )
read_set P Q at (x ∷ ns) (suc k) m inside sub here h =
    let up : at + suc k ≡ (at + 1) + k = omega arith in (
      (λ q. h.0 (sub at q (λ z. absurd (omega (arith, z))))),
      read_set P Q (at + 1) ns k m (omega (arith, inside)) (λ i q ne. sub i q (λ z. ne (z ∙ up)))
          (λ q. here (ap Q up ∙ q)) h.1,
    )

same_set : (ns : List Note) (k : ℕ) (n : Note) → slice_get ns k ≡ Some n → slice_set ns k n ≡ ns
same_set [] k n e = cc
same_set (x ∷ ns) zero n e = let same : x ≡ n = cc in ap (λ y. y ∷ ns) (sym same)
same_set (x ∷ ns) (suc k) n e = ap (λ ys. x ∷ ys) (same_set ns k n e)

or_none : (a b : Bool) → a ≡ false → b ≡ false → (a || b) ≡ false
or_none true b e f = e
or_none false b e f = f

pub or_left : (a b : Bool) → (a || b) ≡ false → a ≡ false
or_left true b e = e
or_left false b e = refl

pub or_right : (a b : Bool) → (a || b) ≡ false → b ≡ false
or_right true b e = cc
or_right false b e = e

-- a note that was in doubt is read
pub read_now : (ns : List Note) (at : ℕ) (m : Note) → at < length ns → m.ready ≡ ready_of m
    → (doubt : ℕ → Bool) → AreReadBut (λ i. (at == i) || doubt i) 0 ns
    → AreReadBut doubt 0 (slice_set ns at m)
read_now ns at m inside f doubt h =
    read_set (λ i. (at == i) || doubt i) doubt 0 ns at m inside
    (λ i q ne. or_none (at == i) (doubt i) (ne_eqb at i (λ z. ne (omega (arith, z)))) q)
    (λ q. f) h

pub same_read : (ns : List Note) (at : ℕ) (n : Note) → slice_get ns at ≡ Some n
    → n.ready ≡ ready_of n → (doubt : ℕ → Bool)
    → AreReadBut (λ i. (at == i) || doubt i) 0 ns → AreReadBut doubt 0 ns
same_read ns at n e f doubt h =
    subst (AreReadBut doubt 0) (same_set ns at n e)
    (read_now ns at n (within ns at n e) f doubt h)

-- ---- what stays

pub fixed_set : (ns : List Note) (k : ℕ) (n m : Note) → slice_get ns k ≡ Some n
    → fixed m ≡ fixed n → SameFixed ns (slice_set ns k m)
fixed_set [] k n m e f = refl
fixed_set (x ∷ ns) zero n m e f =
    let same : x ≡ n = cc in ap (λ y. y ∷ map fixed ns) (f ∙ sym (ap fixed same))
fixed_set (x ∷ ns) (suc k) n m e f = ap (λ ys. fixed x ∷ ys) (fixed_set ns k n m e f)

-- ---- a note that turns, and its parent's that counts it

pub record Turns (ns : List Note) (at p : ℕ) (n m : Note) (r : Bool) : Type 0 where
  pub placed : ArePlaced 0 ns
  pub here : slice_get ns at ≡ Some n
  pub there : slice_get ns p ≡ Some m
  pub below : n.parent ≡ Some p
  pub other : n.ready ≡ not r
  pub read : r ≡ ready_of n

pub turns_before : (ns : List Note) (at p : ℕ) (n : Note) → ArePlaced 0 ns
    → slice_get ns at ≡ Some n → n.parent ≡ Some p → p < at
turns_before ns at p n h e f = omega (arith, placed_before 0 ns at p n h e f)

pub make_turns : (ns : List Note) (at p : ℕ) (n d : Note) (r : Bool) → ArePlaced 0 ns
    → slice_get ns at ≡ Some n → n.parent ≡ Some p → n.ready ≡ not r → r ≡ ready_of n
    → Turns ns at p n (slice_index_or ns p d) r
make_turns ns at p n d r placed here below other read =
    let before = turns_before ns at p n placed here below in
    let inside = within ns at n here in
    record {
      placed = placed;
      here = here;
      there = slice_get-get_or ns p d (omega (arith, before, inside));
      below = below;
      other = other;
      read = read;
    }

first_at : (p : ℕ) → p ≡ 0 + p
first_at p = omega arith

not_ready : (r : Bool) (n : Note) → n.ready ≡ not r → r ≡ true → n.ready ≡ false
not_ready true n e f = e
not_ready false n e f = cc

counts_by : (r : Bool) (u a b : ℕ) → (r ≡ true → 1 ≤ u) → a ≡ one_unless (not r)
    → b ≡ one_unless r → (if r then u - 1 else u + 1) + a ≡ u + b
counts_by true u a b h e f = let some = h refl in omega (arith, some, e, f)
counts_by false u a b h e f = omega (arith, e, f)

module _ (ns : List Note) (at p : ℕ) (n m : Note) (r : Bool) (t : Turns ns at p n m r) where
  pub turns_some : r ≡ true → 1 ≤ m.unready
  turns_some e =
      placed_counts 0 ns at p n m t.placed t.here (t.below ∙ ap (λ i. Some i) (first_at p))
      (not_ready r n t.other e) t.there

  pub turns_placed : ArePlaced 0 (slice_set (slice_set ns at (with_ready r n)) p (with_child r m))
  turns_placed =
      placed_turn 0 ns at p n (with_ready r n) m (with_child r m) t.placed t.here t.there
      (t.below ∙ ap (λ i. Some i) (first_at p)) refl refl refl refl
      (subst (λ i. (with_child r m).unready + unready_one i n
      ≡ m.unready + unready_one i (with_ready r n)) (first_at p)
      (counts_by r m.unready (unready_one p n) (unready_one p (with_ready r n)) turns_some
      (one_here p p n (not r) t.below refl t.other)
      (one_here p p (with_ready r n) r t.below refl refl)))

  pub away : slice_get (slice_set ns at (with_ready r n)) p ≡ Some m
  away =
      let before = turns_before ns at p n t.placed t.here t.below in
      get_set_other ns at p (with_ready r n) (λ z. absurd (omega (arith, before, z))) ∙ t.there

  pub turns_fixed :
      SameFixed ns (slice_set (slice_set ns at (with_ready r n)) p (with_child r m))
  turns_fixed =
      fixed_set (slice_set ns at (with_ready r n)) p m (with_child r m) away refl
      ∙ fixed_set ns at n (with_ready r n) t.here refl

  -- the parent is in doubt instead
  pub turns_read : (doubt : ℕ → Bool) → AreReadBut (λ i. (at == i) || doubt i) 0 ns
      → AreReadBut (λ i. (p == i) || doubt i) 0
      (slice_set (slice_set ns at (with_ready r n)) p (with_child r m))
  turns_read doubt h =
      let here = slice_set ns at (with_ready r n) in
      read_set doubt (λ i. (p == i) || doubt i) 0 here p (with_child r m)
      (within here p m away) (λ i q ne. or_right (p == i) (doubt i) q)
      (λ q. let never : true ≡ false = sym (eq-eqb p p refl) ∙ or_left (p == p) (doubt p)
      (subst (λ i. ((p == i) || doubt i) ≡ false) (sym (first_at p)) q) in cc)
      (read_now ns at (with_ready r n) (within ns at n t.here) t.read doubt h)

-- a note turns that has no parent
pub alone_placed : (ns : List Note) (at : ℕ) (n : Note) (r : Bool) → ArePlaced 0 ns
    → slice_get ns at ≡ Some n → n.parent ≡ None
    → ArePlaced 0 (slice_set ns at (with_ready r n))
alone_placed ns at n r h e f =
    placed_set 0 ns at n (with_ready r n) e refl refl
    (λ i le. one_none i (with_ready r n) f ∙ sym (one_none i n f)) h
