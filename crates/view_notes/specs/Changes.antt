-- How contents come and go.
use Rattle.std.specs.Prelude.{All, ℕ, ◌≡◌, Bool, true, false, ◌&&◌, ◌||◌, not, bytes_eq, List}
use Rattle.std.specs.List.{AllPass, IsDistinct, list_any}
use Rattle.cut_core.specs.Cut.{Holdings}
use Rattle.cut_core.specs.Wants.{is_missing}

-- what is absent stays absent, and what is resident, and not absent, stays so
pub record Grows (old new : Holdings) : Type 0 where
  pub absent : (x : List ℕ) → old.absent x ≡ true → new.absent x ≡ true
  pub resident : (x : List ℕ) → old.absent x ≡ false → old.resident x ≡ true
      → (new.absent x ≡ false) × (new.resident x ≡ true)

-- a missing content has become resident or absent, and no other has changed
pub record Settles (address : List ℕ) (old new : Holdings) : Type 0 where
  pub grows : Grows old new
  pub missing : (x : List ℕ) → is_missing new x ≡ (not (bytes_eq address x) && is_missing old x)

-- a missing content has become resident
pub record BecomesResident (address : List ℕ) (old new : Holdings) : Type 0 where
  pub was : is_missing old address ≡ true
  pub resident : (x : List ℕ) → new.resident x ≡ (bytes_eq address x || old.resident x)
  pub absent : (x : List ℕ) → new.absent x ≡ old.absent x

-- a missing content has become absent
pub record BecomesAbsent (address : List ℕ) (old new : Holdings) : Type 0 where
  pub was : is_missing old address ≡ true
  pub resident : (x : List ℕ) → new.resident x ≡ old.resident x
  pub absent : (x : List ℕ) → new.absent x ≡ (bytes_eq address x || old.absent x)

-- of these contents none is resident any more, and nothing else has changed
pub record Evicts (out : List ℕ → Bool) (old new : Holdings) : Type 0 where
  pub resident : (x : List ℕ) → new.resident x ≡ (not (out x) && old.resident x)
  pub absent : (x : List ℕ) → new.absent x ≡ old.absent x

-- a content that was resident, and not absent, has gone
pub record Goes (address : List ℕ) (old new : Holdings) : Type 0 where
  pub was : old.resident address ≡ true
  pub there : old.absent address ≡ false
  pub evicts : Evicts (bytes_eq address) old new

-- the content at this address is one of these
abbrev pub is_one_of : List (List ℕ) → List ℕ → Bool
is_one_of addresses address = list_any (bytes_eq address) addresses

-- each of these contents was resident, and not absent, and has gone; none stands there twice
pub record GoesEach (addresses : List (List ℕ)) (old new : Holdings) : Type 0 where
  pub apart : IsDistinct bytes_eq addresses
  pub were : AllPass old.resident addresses
  pub there : All (λ address. old.absent address ≡ false) addresses
  pub evicts : Evicts (is_one_of addresses) old new

-- the same contents are resident, and the same are absent
pub record SameHoldings (old new : Holdings) : Type 0 where
  pub resident : (x : List ℕ) → new.resident x ≡ old.resident x
  pub absent : (x : List ℕ) → new.absent x ≡ old.absent x
