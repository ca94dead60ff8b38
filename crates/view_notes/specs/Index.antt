-- How the nodes that name a content are found.
use Rattle.std.specs.Prelude.{IsPermutation, ℕ, ◌≡◌, ◌+◌, List, [], ◌∷◌, ◌++◌, map}
use Rattle.std.specs.List.Sorted.{IsNonDecreasing}
use Rattle.view_notes.specs.declared.name_pair.NamePair.{NamePair}
use Rattle.view_notes.specs.Names.{AreNumbered, Named}

abbrev pub pair_of : ℕ → ℕ → NamePair
pair_of user content = record { content = content; user = user }

-- each number that a node names, with the node; the first node has this number
abbrev pub pairs_of : ℕ → List (List ℕ) → List NamePair
pairs_of at [] = []
pairs_of at (ks ∷ kss) = map (pair_of at) ks ++ pairs_of (at + 1) kss

-- the same pairs, those of one content together
pub record IsIndex (names : Named) (contents users : List ℕ) : Type 0 where
  pub numbered : AreNumbered names
  pub pairs : List NamePair
  pub same : IsPermutation (pairs_of 0 names.numbers) pairs
  pub contents_are : contents ≡ map (λ p. p.content) pairs
  pub users_are : users ≡ map (λ p. p.user) pairs
  pub sorted : IsNonDecreasing contents
