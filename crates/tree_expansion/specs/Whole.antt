-- The tree of all documents of a library.
use Rattle.std.specs.Prelude.{ℕ, ◌≡◌, nat_le, if◌then◌else◌, Bool, true, false, ◌&&◌, is_none, Option, Some, None, List, length, IsTrue}
use Rattle.tile_types.specs.declared.key.Key.{Key}
use Rattle.tile_types.specs.declared.key.Kind.{Kind}
use Rattle.tile_types.specs.declared.key.Kind.TheVariants.{Content, Tileset, Subtree}
use Rattle.subtree_binary.specs.Counts.{level_limit}
use Rattle.source_port.specs.Library.{Library, bytes_at}
use Rattle.doc_store.specs.Docs.{Docs}
use Rattle.doc_store.specs.declared.limits.TheConstants.{DOCUMENT_LIMIT}
use Rattle.expanded_tree.specs.Tree.{Tree, Trees, tile, pending, no_trees, more_trees}
use Rattle.tree_expansion.specs.Expansion.{expand}

-- the bytes, if they are within the limit
abbrev pub if_within : ℕ → Option (List ℕ) → Option (List ℕ)
if_within limit None = None
if_within limit (Some bytes) = if nat_le (length bytes) limit then Some bytes else None

-- the library's document at a key, if it has one within the limit
abbrev pub document_of : Library → Key → Option (List ℕ)
document_of library key = if_within DOCUMENT_LIMIT (bytes_at library key.address)

-- all that the library has is loaded, and all else is absent
abbrev pub whole_docs : Library → Docs
whole_docs library = record {
  loaded = document_of library;
  gone = λ key. is_none (document_of library key);
}

-- the whole tree of the library's document at the address `root`
unfoldable pub full : Library → List ℕ → Option Tree
full library root = expand (whole_docs library) root

-- what is loaded is the library's, and what is absent the library lacks, or it is too long
pub record AgreesWith (library : Library) (docs : Docs) : Type 0 where
  pub loaded : (key : Key) (bytes : List ℕ)
      → docs.loaded key ≡ Some bytes → document_of library key ≡ Some bytes
  pub gone : (key : Key) → docs.gone key ≡ true → document_of library key ≡ None

-- the test holds of the key of each pending node
abbrev mutual
  pub all_keys : (Key → Bool) → Tree → Bool
  all_keys test (tile parts children) = all_keys_in test children
  all_keys test (pending name facts key) = test key

  pub all_keys_in : (Key → Bool) → Trees → Bool
  all_keys_in test no_trees = true
  all_keys_in test (more_trees t ts) = all_keys test t && all_keys_in test ts

abbrev pub all_root_keys : (Key → Bool) → Option Tree → Bool
all_root_keys test None = true
all_root_keys test (Some t) = all_keys test t

-- a tileset, or a subtree whose levels are within the limits
abbrev pub is_document_kind : Kind → Bool
is_document_kind Content = false
is_document_kind Tileset = true
is_document_kind (Subtree octree levels contents) =
    nat_le 1 levels && nat_le levels (level_limit octree)

abbrev pub is_document : Key → Bool
is_document key = is_document_kind key.kind

-- no node waits for a document
abbrev pub IsWhole : Option Tree → Type 0
IsWhole root = IsTrue (all_root_keys (λ key. false) root)
