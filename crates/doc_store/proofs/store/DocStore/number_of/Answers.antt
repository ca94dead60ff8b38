use Rattle.std.proofs.Common.{◌∙◌, sym}
use Rattle.tile_types.specs.contracts.key.KeyPartialEq.TheImpl.{eq-value}
use Rattle.doc_store.proofs.Keys.{eq_is_same}
use Rattle.doc_store.proofs.Numbers.{numbers_agree}
use Rattle.doc_store.proofs.store.DocStore.number_of.Goals as goal

pub returns-in_err-number : goal.returns-in_err-number
returns-in_err-number c =
    rw (← c.self.view_is)
    (c.from_residual.ensures ∙ sym c.in_err-number.was ∙ c.get_index_of.ensures.index
    ∙ numbers_agree c.self.inside.documents.entries c.args.key.now
    (eq-value.it c.args.key.now) (eq_is_same c.args.key.now))

pub returns : goal.returns
returns c =
    rw (← c.self.view_is)
    (sym c.in_ok-number.was ∙ c.get_index_of.ensures.index
    ∙ numbers_agree c.self.inside.documents.entries c.args.key.now
    (eq-value.it c.args.key.now) (eq_is_same c.args.key.now))
