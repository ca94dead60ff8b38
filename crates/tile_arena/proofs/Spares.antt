-- An arena whose store has taken memory for more absent keys.
use Rattle.std.proofs.Common.{◌≡◌, ◌≤◌, ◌+◌, sym, subst, length, map, List}
use Rattle.doc_store.specs.Store.{Stored}
use Rattle.expanded_tree.specs.declared.node.Node.{Node}
use Rattle.expanded_tree.specs.Tree.{Tree}
use Rattle.tree_nodes.specs.Nodes.{node_trees}
use Rattle.tree_nodes.specs.TreeIn.{tree_in}
use Rattle.tree_nodes.proofs.Spares.{spare_sound, spare_trees}
use Rattle.tile_arena.specs.declared.held.Held.{Held}
use Rattle.tile_arena.specs.Children.{AreAtHand, child_count}
use Rattle.tile_arena.specs.Standing.{IsHeld}

pub still_held : (old new : Stored) (held : Held) → new.loaded ≡ old.loaded → new.gone ≡ old.gone
    → IsHeld old held → IsHeld new held
still_held old new held loaded gone h =
    let same : node_trees new held.list ≡ node_trees old held.list =
    spare_trees old new loaded gone held.list in
    record {
      sound = spare_sound old new loaded gone held.list h.sound;
      children = subst (λ ts. AreAtHand ts held.children.items) (sym same) h.children;
      valid = h.valid;
      few = subst (λ (ts : List Tree). length held.list.nodes.items ≤ 1 + child_count
          (map (λ (n : Node). tree_in ts n.number) held.opened.items)) (sym same) h.few;
    }
