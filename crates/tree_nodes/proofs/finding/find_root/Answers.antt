use Rattle.std.proofs.Common.{subst}
use Rattle.std.specs.Prelude.{IfOk}
use Rattle.implicit_walk.specs.declared.place.Place.{Place}
use Rattle.implicit_walk.specs.Presences.{own_presence}
use Rattle.doc_store.specs.Docs.{subtree_at}
use Rattle.doc_store.specs.Store.{docs}
use Rattle.tree_nodes.specs.Places.{IsFoundTile}
use Rattle.tree_nodes.proofs.finding.find_root.Goals as goal

pub returns : goal.returns
returns c =
    let store = c.args.store.now in
    let root = c.args.root.now in
    subst (λ (at : Place). IfOk c.find_own.result (λ found. IsFoundTile store root at
    (own_presence root (subtree_at (docs store)) at) found)) c.root.ensures c.find_own.ensures
