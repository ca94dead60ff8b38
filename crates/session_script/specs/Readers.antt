-- What a reader of a text answers: a value that the text spells, and none only where it spells none
-- in range.
use Rattle.std.specs.Prelude.{◌≡◌, ℕ, List, [], ◌∷◌, ◌++◌, Option, Some, IfSome, IsSomeAnd}
use Rattle.std.specs.Prelude.{MatchOption}
use Rattle.std.specs.Borrow.{Bor}
use Rattle.session_script.specs.Ascii.{IsWithout, parts_at}

-- the answer is the value that the text spells
pub record Reads {A : Type 0} (spelling : A → List ℕ) (InRange : A → Type 0) (text : List ℕ)
    (result : Option A) : Type 0 where
  pub found : IfSome result (λ a. text ≡ spelling a)
  pub spelled : (a : A) → InRange a → text ≡ spelling a → result ≡ Some a

-- the answer is the value that is spelled before a mark, and what stands behind the mark
pub record ReadsPrefix {A : Type 0} (spelling : A → List ℕ) (InRange : A → Type 0) (mark : ℕ)
    (text : List ℕ) (result : Option (A × Bor (List ℕ))) : Type 0 where
  pub found : IfSome result (λ r. text ≡ spelling r.0 ++ mark ∷ r.1.now)
  pub spelled : (a : A) (rest : List ℕ) → InRange a → text ≡ spelling a ++ mark ∷ rest
      → IsSomeAnd result (λ r. (r.0 ≡ a) × (r.1.now ≡ rest))

-- the answer is what stands before the first mark and what stands behind it, or none without a mark
pub record Cuts (mark : ℕ) (text : List ℕ) (result : Option (Bor (List ℕ) × Bor (List ℕ)))
    : Type 0 where
  pub found : IfSome result (λ cut. text ≡ cut.0.now ++ mark ∷ cut.1.now)
  pub spelled : (first rest : List ℕ) → IsWithout mark first → text ≡ first ++ mark ∷ rest
      → IsSomeAnd result (λ cut. (cut.0.now ≡ first) × (cut.1.now ≡ rest))
  pub parts : MatchOption result
      (parts_at mark text ≡ text ∷ [])
      (λ cut. parts_at mark text ≡ cut.0.now ∷ parts_at mark cut.1.now)
