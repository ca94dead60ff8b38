-- What loading documents does to the expanded tree.
use Rattle.std.specs.Prelude.{ℕ, ◌≡◌, ◌⊎◌, Bool, true, false, not, if◌then◌else◌, Option, Some, None, List, [], ◌∷◌, option_to_list}
use Rattle.tile_types.specs.declared.key.Key.{Key}
use Rattle.tileset_schema.specs.Implicit.{ImplicitParts}
use Rattle.tileset_schema.specs.Parts.{WrittenParts}
use Rattle.tileset_schema.specs.Tiles.{WrittenTile, written}
use Rattle.subtree_binary.specs.Found.{Found, waiting, lost, here}
use Rattle.subtree_binary.specs.Subtrees.{SubtreeParts}
use Rattle.implicit_walk.specs.Places.{root_place}
use Rattle.implicit_walk.specs.Presences.{is_set, subtree_at as found_at}
use Rattle.doc_store.specs.Docs.{Docs, is_tileset, tileset_at, subtree_at}
use Rattle.expanded_tree.specs.Facts.{Facts}
use Rattle.expanded_tree.specs.Tree.{Tree, TileParts, Trees, tile, pending, list_of, name_of, facts_of}
use Rattle.tree_expansion.specs.Expansion.{top_holder, root_tile}

-- what is known of a key stays, unless it waited
pub record Extends (old new : Docs) : Type 0 where
  pub tilesets : (address : List ℕ)
      → (tileset_at old address ≡ waiting) ⊎ (tileset_at old address ≡ tileset_at new address)
  pub subtrees : (key : Key)
      → (subtree_at old key ≡ waiting) ⊎ (subtree_at old key ≡ subtree_at new key)

-- a node for which a pending one stood has its name, and its volume and its request volume if they
-- were known
pub record StandsFor (name : List ℕ) (facts : Facts) (t : Tree) : Type 0 where
  pub same_name : name_of t ≡ name
  pub same_volume : (facts.volume ≡ None) ⊎ ((facts_of t).volume ≡ facts.volume)
  pub same_request : (facts.request ≡ None) ⊎ ((facts_of t).request ≡ facts.request)

-- ---- what leaves no node

-- a subtree that is lost, or has no tile at its root
abbrev pub lacks_root_tile : Found SubtreeParts → Bool
lacks_root_tile waiting = false
lacks_root_tile lost = true
lacks_root_tile (here subtree) = not (is_set subtree.tiles 0)

-- the subtree that an implicit root is in, in the document at this address; neither its name nor
-- what it hands down tell anything of that
abbrev pub root_subtree : Docs → List ℕ → WrittenParts → ImplicitParts → Found SubtreeParts
root_subtree docs address own part =
    found_at (root_tile address [] top_holder own part).root (subtree_at docs) root_place

-- an implicit root leaves no node where its subtree leaves none; another tile always leaves one
abbrev pub leaves_none_by : Docs → List ℕ → WrittenParts → Option ImplicitParts → Bool
leaves_none_by docs address own None = false
leaves_none_by docs address own (Some part) = lacks_root_tile (root_subtree docs address own part)

-- a tileset that is lost, or whose root leaves no node
abbrev pub tileset_leaves_none : Docs → List ℕ → Found WrittenTile → Bool
tileset_leaves_none docs address waiting = false
tileset_leaves_none docs address lost = true
tileset_leaves_none docs address (here (written own children)) =
    leaves_none_by docs address own own.implicit

-- nothing comes of the key, of which something is known
abbrev pub leaves_none : Docs → Key → Bool
leaves_none docs key =
    if is_tileset key then tileset_leaves_none docs key.address (tileset_at docs key.address)
    else lacks_root_tile (subtree_at docs key)

-- ---- growth

-- a pending node has become none where nothing comes of its key, and else may have become another
-- node; all else is as before
mutual
  pub data Grown (new : Docs) : Tree → Tree → Type 0 where
    same_tile : (parts : TileParts) (ts ts' : Trees)
        → AllGrown new (list_of ts) (list_of ts') → Grown new (tile parts ts) (tile parts ts')
    read : (name : List ℕ) (facts : Facts) (key : Key) (t : Tree)
        → leaves_none new key ≡ false → StandsFor name facts t
        → Grown new (pending name facts key) t

  pub data AllGrown (new : Docs) : List Tree → List Tree → Type 0 where
    none_grown : AllGrown new [] []
    more_grown : (t t' : Tree) (ts ts' : List Tree)
        → Grown new t t' → AllGrown new ts ts' → AllGrown new (t ∷ ts) (t' ∷ ts')
    dropped : (name : List ℕ) (facts : Facts) (key : Key) (ts ts' : List Tree)
        → leaves_none new key ≡ true → AllGrown new ts ts'
        → AllGrown new (pending name facts key ∷ ts) ts'

abbrev pub RootGrown : Docs → Option Tree → Option Tree → Type 0
RootGrown new from to = AllGrown new (option_to_list from) (option_to_list to)
