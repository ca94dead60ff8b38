-- Which documents what is asked for waits for.
use Rattle.std.specs.Prelude.{◌≡◌, true, false, Option, List, ◌++◌, Contains, map}
use Rattle.std.specs.List.{flat_map}
use Rattle.tile_types.specs.declared.key.Key.{Key}
use Rattle.error_test.specs.Views.{ViewParts}
use Rattle.expanded_tree.specs.Tree.{Tree, key_of}
use Rattle.cut_core.specs.Cut.{Holdings}
use Rattle.cut_core.specs.Wants.{key_list, wanted}
use Rattle.doc_store.specs.Docs.{Loaded}
use Rattle.doc_store.specs.Store.{Stored}
use Rattle.plain_tree.specs.Preorder.{nodes_of}
use Rattle.tree_nodes.specs.Trees.{stored_tree}
use Rattle.words_table.specs.declared.command.Command.{Command}
use Rattle.words_table.specs.declared.command.Command.TheVariants.{Cut, Tiles, Meta}

-- every content is there
abbrev pub nothing_absent : Holdings
nothing_absent = record { resident = λ address. true; absent = λ address. false }

-- the keys that the nodes visited by a view wait for, in preorder, each once
abbrev pub awaited_in_view : ViewParts → Option Tree → List Key
awaited_in_view view root = map (λ want. want.key) (wanted view nothing_absent root)

-- the keys that nodes of a tree wait for, in preorder
abbrev pub awaited_anywhere : Option Tree → List Key
awaited_anywhere root = flat_map (λ t. key_list (key_of t)) (nodes_of root)

-- the keys that what a command asks for waits for
abbrev pub awaited : Command → Option Tree → List Key
awaited (Cut address view) root = awaited_in_view view root
awaited (Tiles address) root = awaited_anywhere root
awaited (Meta address) root = awaited_anywhere root

-- what an earlier store held comes first in the later one
pub record IsEarlier (old new : Stored) : Type 0 where
  pub added : List Loaded
  pub marked : List Key
  pub loaded : new.loaded ≡ old.loaded ++ added
  pub gone : new.gone ≡ old.gone ++ marked

-- the tree of an earlier store waited for the key
pub record WasAwaited (command : Command) (store : Stored) (key : Key) : Type 0 where
  pub earlier : Stored
  pub before : IsEarlier earlier store
  pub awaited : Contains (awaited command (stored_tree earlier)) key
