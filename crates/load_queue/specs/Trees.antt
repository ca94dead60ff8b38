-- Ranks in a binary tree, each of whose inner nodes has the first least one of those below it.
use Rattle.std.specs.Prelude.{◌≡◌, ◌≢◌, ℕ, ◌+◌, ◌*◌, ◌/◌, ◌<◌, ◌≤◌, if◌then◌else◌, nat_lt, List}
use Rattle.std.specs.Prelude.{length, map, drop}
use Rattle.std.specs.Prelude.{EachIndex, slice_index, slice_index_or}
use Rattle.load_queue.specs.declared.rank_at.RankAt.{RankAt}

-- ---- the first least rank of a list

pub record IsFirstLeast (ranks : List ℕ) (rank place : ℕ) : Type 0 where
  pub within : place < length ranks
  pub is : slice_index ranks place ≡ rank
  pub least : EachIndex ranks (λ k. rank ≤ slice_index ranks k)
  pub first : (k : ℕ) → k < place → rank < slice_index ranks k

-- ---- trees

-- the lesser rank, and of equal ranks the one at the earlier place
abbrev pub first_of : RankAt → RankAt → RankAt
first_of a b =
    if nat_lt b.rank a.rank then b else if nat_lt a.rank b.rank then a
    else if nat_lt b.place a.place then b else a

abbrev pub node : List RankAt → ℕ → RankAt
node nodes i = slice_index_or nodes i (record { rank = 0; place = 0 })

-- what stands below node i gives it what it has
abbrev pub IsFilled : List RankAt → ℕ → Type 0
IsFilled nodes i = node nodes i ≡ first_of (node nodes (2 * i)) (node nodes (2 * i + 1))

-- each inner node is filled
abbrev pub AreFilled : ℕ → List RankAt → Type 0
AreFilled count nodes = (i : ℕ) → 0 < i → i < count → IsFilled nodes i

-- each inner node is filled but the one above node j
abbrev pub AreFilledBut : ℕ → ℕ → List RankAt → Type 0
AreFilledBut count j nodes = (i : ℕ) → 0 < i → i < count → i ≢ j / 2 → IsFilled nodes i

-- the ranks at the leaves
abbrev pub ranks_in : ℕ → List RankAt → List ℕ
ranks_in count nodes = map (λ n. n.rank) (drop count nodes)

-- a tree of so many leaves, which tell their places
pub record IsTree (count : ℕ) (nodes : List RankAt) : Type 0 where
  pub len : length nodes ≡ 2 * count
  pub places : (q : ℕ) → q < count → (node nodes (count + q)).place ≡ q
  pub filled : AreFilled count nodes

-- behind the nodes there were stand these ranks with their places
pub record ArePlaced (before : List RankAt) (ranks : List ℕ) (nodes : List RankAt) : Type 0 where
  pub len : length nodes ≡ length before + length ranks
  pub leaves : (q : ℕ) → q < length ranks
      → node nodes (length before + q) ≡ record { rank = slice_index ranks q; place = q }
