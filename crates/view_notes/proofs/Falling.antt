-- While contents come, nodes only become ready, and only cease to keep their own contents.
use Rattle.std.proofs.Common.{ℕ, zero, suc, ◌≡◌, ◌+◌, ◌≤◌, Bool, true, false, not, ◌&&◌, ◌||◌, Some, List, [], ◌∷◌, refl, sym, ◌∙◌, ap, arith}
use Rattle.std.specs.Prelude.{◌==◌, if◌then◌else◌}
use Rattle.std.specs.List.{slice_get, slice_set}
use Rattle.std.proofs.lemmas.Bool.{ne_eqb}
use Rattle.cut_core.proofs.Bools.{and_true}
use Rattle.view_notes.specs.declared.note.Note.{Note}
use Rattle.view_notes.specs.declared.note.Role.{Role}
use Rattle.view_notes.specs.declared.note.Role.TheVariants.{Pending, Leaf, Adding, Replacing}
use Rattle.view_notes.specs.Notes.{is_kept, kept_by, ready_by, ready_of}
use Rattle.view_notes.specs.Rising.{Falls, KeptFrom, ReadyAreRight, with_child, with_ready}
use Rattle.view_notes.specs.Users.{no_lacking_leaves}
use Rattle.view_notes.proofs.Bools.{and-assoc}
use Rattle.view_notes.proofs.Turning.{Turns, away, turns_some}

-- ---- one note

pub right_set : (ns : List Note) (k : ℕ) (m : Note) → (m.ready ≡ true → ready_of m ≡ true)
    → ReadyAreRight ns → ReadyAreRight (slice_set ns k m)
right_set [] k m f h = h
right_set (x ∷ ns) zero m f h = (f, h.1)
right_set (x ∷ ns) (suc k) m f h = (h.0, right_set ns k m f h.1)

right_at : (ns : List Note) (k : ℕ) (n : Note) → slice_get ns k ≡ Some n → ReadyAreRight ns
    → n.ready ≡ true → ready_of n ≡ true
right_at [] k n e h = cc
right_at (x ∷ ns) zero n e h = λ r.
    let same : x ≡ n = cc in
    sym (ap ready_of same) ∙ h.0 (ap (λ (y : Note). y.ready) same ∙ r)
right_at (x ∷ ns) (suc k) n e h = right_at ns k n e h.1

pub kept_set : (start ns : List Note) (k : ℕ) (n m : Note) → slice_get ns k ≡ Some n
    → (is_kept m ≡ true → is_kept n ≡ true) → KeptFrom start ns → KeptFrom start (slice_set ns k m)
kept_set [] [] k n m e f h = h
kept_set [] (x ∷ ns) k n m e f h = absurd h
kept_set (s ∷ ss) [] k n m e f h = h
kept_set (s ∷ ss) (x ∷ ns) zero n m e f h =
    let same : x ≡ n = cc in ((λ q. h.0 (ap is_kept same ∙ f q)), h.1)
kept_set (s ∷ ss) (x ∷ ns) (suc k) n m e f h = (h.0, kept_set ss ns k n m e f h.1)

-- whether a node leaves, by whether it was kept at the start, before this step and behind it
leaves_by : (s n m l r : Bool) → (n ≡ true → s ≡ true) → (m ≡ true → n ≡ true)
    → (not (s && (not m && l)) && r)
    ≡ ((not (s && (not n && l)) && r) && not (n && (not m && l)))
leaves_by true true true l r f g = sym (and_true r)
leaves_by true true false true true f g = refl
leaves_by true true false true false f g = refl
leaves_by true true false false true f g = refl
leaves_by true true false false false f g = refl
leaves_by false true m l r f g = let no : false ≡ true = f refl in cc
leaves_by s false true l r f g = let no : false ≡ true = g refl in cc
leaves_by s false false l r f g = sym (and_true (not (s && (not false && l)) && r))

pub leaves_set : (lacking : ℕ → Bool) (at : ℕ) (start ns : List Note) (k : ℕ) (n m : Note)
    → slice_get ns k ≡ Some n → (is_kept m ≡ true → is_kept n ≡ true) → KeptFrom start ns
    → no_lacking_leaves lacking at start (slice_set ns k m)
    ≡ (no_lacking_leaves lacking at start ns
    && not (is_kept n && (not (is_kept m) && lacking (at + k))))
leaves_set lacking at [] [] k n m e f h = cc
leaves_set lacking at [] (x ∷ ns) k n m e f h = absurd h
leaves_set lacking at (s ∷ ss) [] k n m e f h = cc
leaves_set lacking at (s ∷ ss) (x ∷ ns) zero n m e f h =
    let same : x ≡ n = cc in
    let zero_more : at ≡ at + 0 = omega arith in
    leaves_by (is_kept s) (is_kept n) (is_kept m) (lacking at) (no_lacking_leaves lacking (at + 1) ss ns)
    (λ q. h.0 (ap is_kept same ∙ q)) f
    ∙ ap (λ (y : Note). (not (is_kept s && (not (is_kept y) && lacking at))
    && no_lacking_leaves lacking (at + 1) ss ns)
    && not (is_kept n && (not (is_kept m) && lacking at))) (sym same)
    ∙ ap (λ i. no_lacking_leaves lacking at (s ∷ ss) (x ∷ ns)
    && not (is_kept n && (not (is_kept m) && lacking i))) zero_more
leaves_set lacking at (s ∷ ss) (x ∷ ns) (suc k) n m e f h =
    let first = not (is_kept s && (not (is_kept x) && lacking at)) in
    let up : (at + 1) + k ≡ at + suc k = omega arith in
    ap (λ b. first && b) (leaves_set lacking (at + 1) ss ns k n m e f h.1)
    ∙ sym (and-assoc first (no_lacking_leaves lacking (at + 1) ss ns) _)
    ∙ ap (λ i. no_lacking_leaves lacking at (s ∷ ss) (x ∷ ns)
    && not (is_kept n && (not (is_kept m) && lacking i))) up

stays_kept : (b l : Bool) → not (b && (not b && l)) ≡ true
stays_kept true l = refl
stays_kept false l = refl

-- a node that keeps its own contents as before doesn't leave
pub leaves_same : (lacking : ℕ → Bool) (start ns : List Note) (k : ℕ) (n m : Note)
    → slice_get ns k ≡ Some n → is_kept m ≡ is_kept n → KeptFrom start ns
    → no_lacking_leaves lacking 0 start (slice_set ns k m) ≡ no_lacking_leaves lacking 0 start ns
leaves_same lacking start ns k n m e f h =
    leaves_set lacking 0 start ns k n m e (λ q. sym f ∙ q) h
    ∙ ap (λ b. no_lacking_leaves lacking 0 start ns && not (is_kept n && (not b && lacking (0 + k)))) f
    ∙ ap (λ b. no_lacking_leaves lacking 0 start ns && b) (stays_kept (is_kept n) (lacking (0 + k)))
    ∙ and_true (no_lacking_leaves lacking 0 start ns)

-- ---- one child more is ready

kept_more : (role : Role) (u v : ℕ) → 1 ≤ u → kept_by role v ≡ true → kept_by role u ≡ true
kept_more Pending u v some e = e
kept_more Leaf u v some e = refl
kept_more Adding u v some e = refl
kept_more Replacing u v some e = ap not (ne_eqb u 0 (λ z. absurd (omega (arith, some, z))))

ready_more : (role : Role) (o r u v : ℕ) → 1 ≤ u → ready_by role o r u ≡ true
    → ready_by role o r v ≡ true
ready_more Pending o r u v some e = e
ready_more Leaf o r u v some e = e
ready_more Adding o r u v some e = by (o == 0) (u == 0) (v == 0) (r == o) none e
  where
    none : (u == 0) ≡ false
    none = ne_eqb u 0 (λ z. absurd (omega (arith, some, z)))

    by : (l z z' q : Bool) → z ≡ false → (if l then z else q) ≡ true → (if l then z' else q) ≡ true
    by true z z' q f g = let no : false ≡ true = sym f ∙ g in cc
    by false z z' q f g = g
ready_more Replacing o r u v some e =
    by (not (o == 0) && r == o) (u == 0) (v == 0)
    (ne_eqb u 0 (λ z. absurd (omega (arith, some, z)))) e
  where
    by : (h z z' : Bool) → z ≡ false → (h || z) ≡ true → (h || z') ≡ true
    by true z z' f g = refl
    by false z z' f g = let no : false ≡ true = sym f ∙ g in cc

-- ---- a node turns ready

-- a node whose note isn't right yet turns ready
pub turns_up : (ns : List Note) (k : ℕ) (n : Note) (r : Bool) → slice_get ns k ≡ Some n
    → ReadyAreRight ns → r ≡ ready_of n → n.ready ≡ not r → r ≡ true
turns_up ns k n true e h f g = refl
turns_up ns k n false e h f g = let no : false ≡ true = f ∙ right_at ns k n e h g in cc

module _ (ns : List Note) (at p : ℕ) (n m : Note) (r : Bool) (t : Turns ns at p n m r)
    (up : r ≡ true) where
  pub turns_right : ReadyAreRight ns
      → ReadyAreRight (slice_set (slice_set ns at (with_ready r n)) p (with_child r m))
  turns_right h =
      right_set (slice_set ns at (with_ready r n)) p (with_child r m)
      (λ q. ready_more m.role m.own m.resident m.unready (with_child r m).unready
      (turns_some ns at p n m r t up) (right_at ns p m t.there h q))
      (right_set ns at (with_ready r n) (λ _. sym t.read ∙ up) h)

  turns_kept : is_kept (with_child r m) ≡ true → is_kept m ≡ true
  turns_kept e = kept_more m.role m.unready (with_child r m).unready (turns_some ns at p n m r t up) e

  -- the parent may leave
  pub turns_falls : (lacking : ℕ → Bool) (falls : Bool)
      → falls ≡ (is_kept m && not (is_kept (with_child r m)))
      → Falls lacking (not (falls && lacking p)) ns
      (slice_set (slice_set ns at (with_ready r n)) p (with_child r m))
  turns_falls lacking falls e = record {
    kept = λ start h.
        kept_set start (slice_set ns at (with_ready r n)) p m (with_child r m)
        (away ns at p n m r t) turns_kept
        (kept_set start ns at n (with_ready r n) t.here (λ q. q) h);
    leaves = λ start h.
        let once = slice_set ns at (with_ready r n) in
        let first : 0 + p ≡ p = omega arith in
        leaves_set lacking 0 start once p m (with_child r m) (away ns at p n m r t) turns_kept
        (kept_set start ns at n (with_ready r n) t.here (λ q. q) h)
        ∙ ap (λ b. b && not (is_kept m && (not (is_kept (with_child r m)) && lacking (0 + p))))
        (leaves_same lacking start ns at n (with_ready r n) t.here refl h)
        ∙ ap (λ b. no_lacking_leaves lacking 0 start ns && not b)
        (sym (and-assoc (is_kept m) (not (is_kept (with_child r m))) (lacking (0 + p)))
        ∙ ap (λ b. b && lacking (0 + p)) (sym e) ∙ ap (λ i. falls && lacking i) first);
  }

pub falls_none : (lacking : ℕ → Bool) (ns : List Note) → Falls lacking true ns ns
falls_none lacking ns = record {
  kept = λ start h. h;
  leaves = λ start h. sym (and_true (no_lacking_leaves lacking 0 start ns));
}

-- one way behind another
pub falls_then : (lacking : ℕ → Bool) (a b : Bool) (xs ys zs : List Note) → Falls lacking a xs ys
    → Falls lacking b ys zs → Falls lacking (a && b) xs zs
falls_then lacking a b xs ys zs f g = record {
  kept = λ start h. g.kept start (f.kept start h);
  leaves = λ start h.
      g.leaves start (f.kept start h) ∙ ap (λ c. c && b) (f.leaves start h)
      ∙ and-assoc (no_lacking_leaves lacking 0 start xs) a b;
}

-- and then a node turns that has no parent
pub falls_alone : (lacking : ℕ → Bool) (a : Bool) (xs ns : List Note) (at : ℕ) (n : Note) (r : Bool)
    → slice_get ns at ≡ Some n → Falls lacking a xs ns
    → Falls lacking a xs (slice_set ns at (with_ready r n))
falls_alone lacking a xs ns at n r e f = record {
  kept = λ start h. kept_set start ns at n (with_ready r n) e (λ q. q) (f.kept start h);
  leaves = λ start h.
      leaves_same lacking start ns at n (with_ready r n) e refl (f.kept start h)
      ∙ f.leaves start h;
}
