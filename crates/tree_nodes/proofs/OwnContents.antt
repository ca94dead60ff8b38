-- The contents of a tile that are no external tilesets, one after the other.
use Rattle.std.proofs.Common.{ℕ, ◌≡◌, ◌<◌, List, length, drop}
use Rattle.std.specs.List.{slice_get}
use Rattle.tree_expansion.specs.Expansion.{own_of}

-- from a place on so many are to be passed before the one of this number
pub record Looking (contents : List (List ℕ)) (number place left : ℕ) : Type 0 where
  pub inside : left < length (own_of (drop place contents))
  pub same : slice_get (own_of (drop place contents)) left ≡ slice_get (own_of contents) number
