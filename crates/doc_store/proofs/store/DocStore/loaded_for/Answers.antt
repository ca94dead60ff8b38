use Rattle.tile_types.specs.contracts.key.KeyPartialEq.TheImpl.{eq-value}
use Rattle.doc_store.proofs.Keys.{eq_is_same}
use Rattle.doc_store.proofs.Entries.{found_finds}
use Rattle.doc_store.proofs.store.DocStore.loaded_for.Goals as goal

pub returns : goal.returns
returns c =
    let s = c.self.inside in
    rw (← c.self.view_is)
    (found_finds s.documents.entries s.absent.keys c.self.invariant.read c.self.invariant.apart
    c.args.key.now (eq-value.it c.args.key.now) (eq_is_same c.args.key.now) c.get.result
    c.get.ensures.value)
