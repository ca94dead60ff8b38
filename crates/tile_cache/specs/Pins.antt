-- How often addresses are pinned.
use Rattle.std.specs.Prelude.{ℕ, ◌+◌, ◌≡◌, if◌then◌else◌, List, [], ◌∷◌}
use Rattle.tile_cache.specs.Residents.{same_text}

-- how often an address stands in a list
abbrev pub times : List ℕ → List (List ℕ) → ℕ
times address [] = 0
times address (x ∷ xs) = if same_text x address then times address xs + 1 else times address xs

-- the same pins, in whatever order
pub record SamePins (old new : List (List ℕ)) : Type 0 where
  pub same : (address : List ℕ) → times address new ≡ times address old
