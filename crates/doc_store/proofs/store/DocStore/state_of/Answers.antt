use Rattle.std.proofs.Common.{◌≡◌, ◌∙◌, sym, ap, true, true≢false}
use Rattle.std.specs.List.{list_any}
use Rattle.doc_store.specs.Store.{docs}
use Rattle.doc_store.proofs.Keys.{eq_is_same}
use Rattle.doc_store.proofs.Adding.{not_gone}
use Rattle.doc_store.proofs.store.DocStore.state_of.Goals as goal

pub returns-in-None-clause-unread : goal.returns-in-None-clause-unread
returns-in-None-clause-unread c =
    let gone : (docs c.args.self.now).gone c.args.key.now ≡ true =
    rw (← c.self.view_is)
    (sym (ap (λ is. list_any is c.self.inside.absent.keys) (eq_is_same c.args.key.now))
    ∙ (sym c.contains.ensures ∙ c.if-contains.true)) in (
      λ e. cc,
      λ unread. absurd
          (true≢false (sym gone ∙ not_gone (docs c.args.self.now) c.args.key.now unread)),
    )
