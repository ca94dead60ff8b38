use Rattle.indexmap.specs.IndexSet.{spare}
use Rattle.tile_types.specs.contracts.key.KeyPartialEq.TheImpl.{eq-value}
use Rattle.doc_store.proofs.Keys.{eq_is_same}
use Rattle.doc_store.proofs.Numbered.{is_numbered}
use Rattle.doc_store.proofs.store.DocStore.numbered.Goals as goal

pub returns : goal.returns
returns c =
    let s = c.self.inside in
    let own = c.in_ok-loaded.field-0-0.now in
    rw (← c.self.view_is)
    (is_numbered s.documents.entries s.absent.keys (spare s.absent) c.self.invariant.read
    c.self.invariant.apart c.args.number own c.in_ok-loaded.loaded.now
    c.in_ok-loaded.ensures.entry (eq-value.it own) (eq_is_same own) c.in_ok-loaded.ensures.value)
