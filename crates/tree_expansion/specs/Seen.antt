-- What a view sees of a tree that grows.
use Rattle.std.specs.Prelude.{◌≡◌, true, false, not, if◌then◌else◌, Option, None, List, [], filter_map, option_to_list, IsTrue}
use Rattle.std.specs.List.{flat_map, list_all}
use Rattle.tile_types.specs.declared.key.Key.{Key}
use Rattle.error_test.specs.Views.{ViewParts}
use Rattle.doc_store.specs.Docs.{Docs}
use Rattle.expanded_tree.specs.Tree.{Tree, tile, list_of, children_of, key_of}
use Rattle.cut_core.specs.Cut.{is_culled, wants}
use Rattle.cut_core.specs.Visits.{visits}
use Rattle.tree_expansion.specs.Growth.{Grown, same_tile, read, AllGrown, none_grown, more_grown, dropped, RootGrown, leaves_none}

-- no child of a tile that the view visits and that wants its children was dropped
abbrev mutual
  pub KeepsChildren : ViewParts → (new : Docs) (t u : Tree) → Grown new t u → Type 0
  KeepsChildren view new t u (same_tile parts ts ts' g) =
      is_culled view (tile parts ts) ≡ false → wants view (tile parts ts) ≡ true
      → KeepsAll view new (list_of ts) (list_of ts') g
  KeepsChildren view new t u (read name facts key u' found s) = Unit {0}

  pub KeepsAll : ViewParts → (new : Docs) (ts us : List Tree) → AllGrown new ts us → Type 0
  KeepsAll view new ts us none_grown = Unit {0}
  KeepsAll view new ts us (more_grown t u ts' us' g gs) =
      KeepsChildren view new t u g × KeepsAll view new ts' us' gs
  KeepsAll view new ts us (dropped name facts key ts' us' why gs) = ⊥

-- the same of roots, which themselves may have been dropped
abbrev pub KeepsBelow : ViewParts → (new : Docs) (ts us : List Tree) → AllGrown new ts us → Type 0
KeepsBelow view new ts us none_grown = Unit {0}
KeepsBelow view new ts us (more_grown t u ts' us' g gs) =
    KeepsChildren view new t u g × KeepsBelow view new ts' us' gs
KeepsBelow view new ts us (dropped name facts key ts' us' why gs) =
    KeepsBelow view new ts' us' gs

abbrev pub RootKeeps : ViewParts → (new : Docs) (from to : Option Tree) → RootGrown new from to
    → Type 0
RootKeeps view new from to g = KeepsBelow view new (option_to_list from) (option_to_list to) g

-- ---- what waits out of sight

-- the key that a node waits for, where the view doesn't see the node
abbrev pub culled_key : ViewParts → Tree → Option Key
culled_key view t = if is_culled view t then key_of t else None

-- the keys that children of a tile wait for out of sight, where the tile wants its children
abbrev pub culled_below : ViewParts → Tree → List Key
culled_below view t = if wants view t then filter_map (culled_key view) (children_of t) else []

-- the keys that children of visited tiles wait for out of sight: nobody loads them for this view
abbrev pub culled_waits : ViewParts → Option Tree → List Key
culled_waits view root = flat_map (culled_below view) (visits view root)

-- each of these keys leaves a node
abbrev pub LeaveNodes : Docs → List Key → Type 0
LeaveNodes docs keys = IsTrue (list_all (λ key. not (leaves_none docs key)) keys)
