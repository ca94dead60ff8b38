use Rattle.std.proofs.Common.{subst}
use Rattle.implicit_walk.specs.Presences.{presence}
use Rattle.implicit_walk.specs.Roots.{RootParts}
use Rattle.doc_store.specs.Docs.{subtree_at}
use Rattle.doc_store.specs.Store.{docs}
use Rattle.tree_nodes.specs.Places.{IsFoundTile}
use Rattle.tree_nodes.proofs.Places.{told_root}
use Rattle.tree_nodes.proofs.node_list.NodeList.push_below.Goals as goal

pub push_found-requires-clause-found : goal.push_found-requires-clause-found
push_found-requires-clause-found c =
    let store = c.args.store.now in
    let below = c.requires.below in
    record {
      top = below.top;
      is_top = below.is_top;
      place = below.place;
      is = subst (λ (root : RootParts). IsFoundTile store root c.args.at
          (presence root (subtree_at (docs store)) c.args.at) c.in-Ok.found)
          (told_root store c.args.self.now.tables c.args.top below.top below.is_top c.root.result
          c.root.ensures)
          c.in-Ok.ensures;
    }
