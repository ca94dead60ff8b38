-- What is read of what was written (OGC 22-025r4, "Subtrees").
use Rattle.std.specs.Prelude.{◌≡◌, ℕ, Bool, Ok, List, length, All}
use Rattle.subtree_binary.specs.Causes.{seen_by}
use Rattle.subtree_binary.specs.Counts.{tile_count, child_count}
use Rattle.subtree_binary.specs.Reading.{subtree}
use Rattle.subtree_binary.specs.Subtrees.{SubtreeParts}
use Rattle.subtree_write.specs.declared.spec.SubtreeSpec.{SubtreeSpec}

-- there is a bit for each tile, and for each child subtree
pub record HasAllBits (spec : SubtreeSpec) : Type 0 where
  pub tiles : length spec.tiles ≡ tile_count spec.octree spec.levels
  pub contents : All (λ bits. length bits ≡ tile_count spec.octree spec.levels) spec.contents
  pub children : length spec.children ≡ child_count spec.octree spec.levels

-- the bits of a subtree: those of tiles, of each content, and of child subtrees
abbrev pub all_bits : SubtreeParts → List Bool × List (List Bool) × List Bool
all_bits parts = (parts.tiles, parts.contents, parts.children)

-- the bytes are read as a subtree of these bits
abbrev pub ReadsAs : SubtreeSpec → List ℕ → Type 0
ReadsAs spec bytes =
    seen_by all_bits (subtree spec.octree spec.levels (length spec.contents) bytes)
    ≡ Ok (spec.tiles, spec.contents, spec.children)
