-- Room for what is known of the children of nodes.
use Rattle.std.proofs.Common.{ℕ, zero, suc, ◌≡◌, List, [], ◌∷◌, ◌++◌, get_or, refl}

-- one more of the kind that is taken where there is none changes nothing
pub get_or-more : {A : Type 0} (xs : List A) (d : A) (i : ℕ)
    → get_or (xs ++ d ∷ []) i d ≡ get_or xs i d
get_or-more [] d zero = refl
get_or-more [] d (suc i) = refl
get_or-more (x ∷ xs) d zero = refl
get_or-more (x ∷ xs) d (suc i) = get_or-more xs d i
