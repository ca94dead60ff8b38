-- A prefix is read by a cut at the mark and a reader of what stands before it.
use Rattle.std.proofs.Common.{◌≡◌, ◌∙◌, ℕ, List, ◌∷◌, ◌++◌, Some, None, Bor, ap}
use Rattle.session_script.specs.Ascii.{IsWithout}
use Rattle.session_script.specs.Readers.{Cuts, Reads, ReadsPrefix}

-- the spellings of values in range hold no mark
pub record AreWithout {A : Type 0} (spelling : A → List ℕ) (InRange : A → Type 0) (mark : ℕ)
    : Type 0 where
  pub each : (a : A) → InRange a → IsWithout mark (spelling a)

-- there is no mark
pub prefix-uncut : {A : Type 0} (spelling : A → List ℕ) (InRange : A → Type 0) (mark : ℕ)
    (text : List ℕ) → AreWithout spelling InRange mark → Cuts mark text None
    → ReadsPrefix spelling InRange mark text None
prefix-uncut spelling InRange mark text lacks cuts = record {
  found = tt;
  spelled = λ a rest h e. cuts.spelled (spelling a) rest (lacks.each a h) e;
}

-- what stands before the mark spells nothing
pub prefix-unread : {A : Type 0} (spelling : A → List ℕ) (InRange : A → Type 0) (mark : ℕ)
    (text : List ℕ) (cut : Bor (List ℕ) × Bor (List ℕ)) → AreWithout spelling InRange mark
    → Cuts mark text (Some cut) → Reads spelling InRange cut.0.now None
    → ReadsPrefix spelling InRange mark text None
prefix-unread spelling InRange mark text cut lacks cuts reads = record {
  found = tt;
  spelled = λ a rest h e.
      let parts = cuts.spelled (spelling a) rest (lacks.each a h) e in
      let none = reads.spelled a h parts.0 in
      absurd (cc);
}

-- it spells a value
pub prefix-read : {A : Type 0} (spelling : A → List ℕ) (InRange : A → Type 0) (mark : ℕ)
    (text : List ℕ) (cut : Bor (List ℕ) × Bor (List ℕ)) (a : A) → AreWithout spelling InRange mark
    → Cuts mark text (Some cut) → Reads spelling InRange cut.0.now (Some a)
    → ReadsPrefix spelling InRange mark text (Some (a, cut.1))
prefix-read spelling InRange mark text cut a lacks cuts reads = record {
  found = cuts.found ∙ ap (λ t. t ++ mark ∷ cut.1.now) reads.found;
  spelled = λ b rest h e.
      let parts = cuts.spelled (spelling b) rest (lacks.each b h) e in
      let same : Some a ≡ Some b = reads.spelled b h parts.0 in
      (cc, parts.1);
}
