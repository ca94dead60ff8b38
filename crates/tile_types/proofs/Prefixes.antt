-- Prefixes of prefixes.
use Rattle.std.proofs.Common.{◌≡◌, ℕ, zero, suc, ◌+◌, ◌≤◌, List, [], ◌∷◌, ◌++◌, length, take}
use Rattle.std.proofs.Common.{refl, ap, ◌∙◌, arith}
use Rattle.std.proofs.Math.Seq.{take-append-add, take-append_seam}

pub take-take : (len n : ℕ) (xs : List ℕ) → len ≤ n → take len (take n xs) ≡ take len xs
take-take zero n xs h = refl
take-take (suc len) zero xs h = absurd (omega arith)
take-take (suc len) (suc n) [] h = refl
take-take (suc len) (suc n) (x ∷ xs) h =
    ap (λ (ys : List ℕ). x ∷ ys) (take-take len n xs (omega arith))

-- what was copied behind a prefix of this length, and what stood there before
pub take-written : (front more rest : List ℕ) (n : ℕ) → n ≡ length front + length more
    → take n (front ++ (more ++ rest)) ≡ front ++ more
take-written front more rest n h =
    ap (λ k. take k (front ++ (more ++ rest))) h
    ∙ take-append-add front (more ++ rest) (length more)
    ∙ ap (λ (ys : List ℕ). front ++ ys) (take-append_seam more rest)
