use Rattle.std.proofs.Common.{◌≡◌, ℕ, zero, suc, List, [], ◌∷◌, ◌++◌, length, drop, replicate}
use Rattle.std.proofs.Common.{get_or, refl, ap, ◌∙◌}
use Rattle.std.proofs.lemmas.List.{get_or-drop}
use Rattle.avail_bits.proofs.words.padded.Goals as goal

-- zeros behind a list read as if there was nothing
zeros_behind : (xs zs : List ℕ) → ((i : ℕ) → get_or zs i 0 ≡ 0) → (i : ℕ)
    → get_or (xs ++ zs) i 0 ≡ get_or xs i 0
zeros_behind [] zs h i = h i
zeros_behind (x ∷ xs) zs h zero = refl
zeros_behind (x ∷ xs) zs h (suc i) = zeros_behind xs zs h i

all_zero : (k i : ℕ) → get_or {A = ℕ} (replicate k 0) i 0 ≡ 0
all_zero zero i = refl
all_zero (suc k) zero = refl
all_zero (suc k) (suc i) = all_zero k i

pub returns : goal.returns
returns c = λ i.
    zeros_behind c.copy_from_slice.new.self (drop (length c.args.bytes.now) (replicate 8 0))
    (λ k. get_or-drop (length c.args.bytes.now) (replicate 8 0) k 0 ∙ all_zero 8 _) i
    ∙ ap (λ t. get_or t i 0) c.copy_from_slice.ensures.after
