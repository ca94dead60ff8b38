-- What a note counts for at its parent.
use Rattle.std.proofs.Common.{ℕ, zero, suc, ◌≡◌, ◌+◌, ◌≤◌, Bool, true, false, not, ◌&&◌, Some, None, List, [], ◌∷◌, ◌++◌, length, refl, ◌∙◌, ap, arith}
use Rattle.std.specs.Prelude.{◌==◌, if◌then◌else◌}
use Rattle.std.specs.List.{slice_get, slice_set}
use Rattle.std.proofs.lemmas.Bool.{eq-eqb, ne_eqb}
use Rattle.view_notes.specs.declared.note.Note.{Note}
use Rattle.view_notes.specs.Agreement.{is_at, unready_one, unready_among}

abbrev pub one : Bool → Bool → ℕ
one b c = if b && not c then 1 else 0

abbrev pub one_unless : Bool → ℕ
one_unless d = if d then 0 else 1

pub one_none : (i : ℕ) (n : Note) → n.parent ≡ None → unready_one i n ≡ 0
one_none i n e = ap (λ p. if is_at i p && not n.ready then 1 else 0) e

pub one_by : (b c : Bool) → b ≡ false → one b c ≡ 0
one_by true c e = cc
one_by false c e = refl

pub one_other : (i p : ℕ) (n : Note) → n.parent ≡ Some p → (p ≡ i → ⊥) → unready_one i n ≡ 0
one_other i p n e ne =
    ap (λ q. if is_at i q && not n.ready then 1 else 0) e ∙ one_by (p == i) n.ready (ne_eqb p i ne)

here_by : (b c d : Bool) → b ≡ true → c ≡ d → one b c ≡ one_unless d
here_by true true true e f = refl
here_by true false false e f = refl
here_by true true false e f = cc
here_by true false true e f = cc
here_by false c d e f = cc

pub one_here : (i p : ℕ) (n : Note) (r : Bool) → n.parent ≡ Some p → p ≡ i → n.ready ≡ r
    → unready_one i n ≡ one_unless r
one_here i p n r e same f =
    ap (λ q. if is_at i q && not n.ready then 1 else 0) e
    ∙ here_by (p == i) n.ready r (eq-eqb p i same) f

pub one_same : (i : ℕ) (n m : Note) → n.parent ≡ m.parent → n.ready ≡ m.ready
    → unready_one i n ≡ unready_one i m
one_same i n m e f =
    ap (λ q. if is_at i q && not n.ready then 1 else 0) e
    ∙ ap (λ b. if is_at i m.parent && not b then 1 else 0) f

one_few : (b c : Bool) → one b c ≤ 1
one_few true true = omega arith
one_few true false = omega arith
one_few false c = omega arith

-- ---- among notes

pub among_append : (i : ℕ) (ns ms : List Note)
    → unready_among i (ns ++ ms) ≡ unready_among i ns + unready_among i ms
among_append i [] ms = omega arith
among_append i (n ∷ ns) ms = omega (arith, among_append i ns ms)

pub among_set : (i : ℕ) (ns : List Note) (k : ℕ) (n m : Note) → slice_get ns k ≡ Some n
    → unready_among i (slice_set ns k m) + unready_one i n
    ≡ unready_among i ns + unready_one i m
among_set i [] k n m e = cc
among_set i (x ∷ ns) zero n m e =
    let same : x ≡ n = cc in omega (arith, ap (unready_one i) same)
among_set i (x ∷ ns) (suc k) n m e = omega (arith, among_set i ns k n m e)

pub among_one : (i : ℕ) (ns : List Note) (k : ℕ) (n : Note) → slice_get ns k ≡ Some n
    → unready_one i n ≤ unready_among i ns
among_one i [] k n e = cc
among_one i (x ∷ ns) zero n e = let same : x ≡ n = cc in omega (arith, ap (unready_one i) same)
among_one i (x ∷ ns) (suc k) n e = omega (arith, among_one i ns k n e)

pub among_few : (i : ℕ) (ns : List Note) → unready_among i ns ≤ length ns
among_few i [] = omega arith
among_few i (x ∷ ns) = omega (arith, among_few i ns, one_few (is_at i x.parent) x.ready)
