-- Which keys are the same.
use Rattle.std.specs.Prelude.{ℕ, Bool, true, false, ◌&&◌, ◌==◌, nat_eq}
use Rattle.std.specs.Bool.{beq}
use Rattle.std.specs.Cmp.Lexicographic.{pointwise}
use Rattle.tile_types.specs.declared.key.Key.{Key}
use Rattle.tile_types.specs.declared.key.Kind.{Kind}
use Rattle.tile_types.specs.declared.key.Kind.TheVariants.{Content, Tileset, Subtree}

abbrev pub same_kind : Kind → Kind → Bool
same_kind Content Content = true
same_kind Tileset Tileset = true
same_kind (Subtree octree levels contents) (Subtree octree' levels' contents') =
    beq octree octree' && (levels == levels' && contents == contents')
same_kind Content (Subtree octree levels contents) = false
same_kind Content Tileset = false
same_kind Tileset Content = false
same_kind Tileset (Subtree octree levels contents) = false
same_kind (Subtree octree levels contents) Content = false
same_kind (Subtree octree levels contents) Tileset = false

abbrev pub same_key : Key → Key → Bool
same_key a b = same_kind a.kind b.kind && pointwise nat_eq a.address b.address
