-- Lists to which nodes and values of tables were added, though perhaps not all that were to be.
use Rattle.std.proofs.Common.{ℕ, ◌≡◌, Option, List, [], sym, ◌∙◌, append-nil}
use Rattle.doc_store.specs.Store.{Stored}
use Rattle.expanded_tree.specs.Tree.{Tree}
use Rattle.tree_nodes.specs.declared.node_list.NodeList.{NodeList}
use Rattle.tree_nodes.specs.Fronts.{Continues}
use Rattle.tree_nodes.specs.Growth.{Extends, Grows}
use Rattle.tree_nodes.proofs.Fronts.{Continues-same, Continues-then, IsFront-more, IsFront-same, IsFront-then}

pub extends_same : (list : NodeList) → Extends list list
extends_same list = record {
  nodes = IsFront-same list.nodes.items;
  tables = Continues-same list.tables;
}

pub extends_then : (a b c : NodeList) → Extends a b → Extends b c → Extends a c
extends_then a b c f g = record {
  nodes = IsFront-then _ _ _ f.nodes g.nodes;
  tables = Continues-then _ _ _ f.tables g.tables;
}

-- no further node
pub extends_tables : (old new : NodeList) → new.nodes.items ≡ old.nodes.items
    → Continues old.tables new.tables → Extends old new
extends_tables old new nodes tables = record {
  nodes = IsFront-more old.nodes.items new.nodes.items []
      (nodes ∙ sym (append-nil old.nodes.items));
  tables = tables;
}

-- as many as there were to be
pub grows_extends : (store : Stored) (limit : Option ℕ) (a b : NodeList) (ts : List Tree)
    → Grows store limit a b ts → Extends a b
grows_extends store limit a b ts g = record { nodes = g.nodes; tables = g.tables }
