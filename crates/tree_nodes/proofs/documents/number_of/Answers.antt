use Rattle.std.proofs.Common.{sym, ap, ◌∙◌}
use Rattle.doc_store.specs.States.{number_in}
use Rattle.tree_nodes.proofs.Known.{is_number, is_tileset_key, no_number}
use Rattle.tree_nodes.proofs.documents.number_of.Goals as goal

pub returns-in_err-number-clause-unread : goal.returns-in_err-number-clause-unread
returns-in_err-number-clause-unread c e =
    no_number c.args.store.now c.args.key.now.address
    (ap (number_in c.args.store.now) (sym (is_tileset_key c.args.key.now c.requires))
    ∙ sym c.number_of.ensures ∙ c.in_err-number.was)

pub returns-in-None-clause-unread : goal.returns-in-None-clause-unread
returns-in-None-clause-unread c e =
    sym (c.in-None.ensures.named c.args.key.now.address
    (ap (number_in c.args.store.now) (sym (is_tileset_key c.args.key.now c.requires))
    ∙ sym c.in_ok-number.ensures))

pub returns-in-Some-clause-read : goal.returns-in-Some-clause-read
returns-in-Some-clause-read c =
    let key = c.args.key.now in
    let at = ap (number_in c.args.store.now) (sym (is_tileset_key key c.requires))
    ∙ sym c.in_ok-number.ensures in
    is_number c.args.store.now key.address c.in_ok-number.number _ at
    c.in-Some.ensures.tiles (c.in-Some.ensures.named key.address at)
