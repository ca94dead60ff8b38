use Rattle.std.proofs.Common.{sym, ap, Some, ◌∙◌}
use Rattle.tree_nodes.proofs.FoundTiles.{numbered_kind}
use Rattle.tree_nodes.proofs.Known.{is_here, no_subtree}
use Rattle.tree_nodes.proofs.finding.subtree_number.Goals as goal

pub returns-in_err-number-clause-unread : goal.returns-in_err-number-clause-unread
returns-in_err-number-clause-unread c e =
    no_subtree c.args.store.now c.args.key.now (sym c.number_of.ensures ∙ c.in_err-number.was)

pub returns-in-Some-clause-read : goal.returns-in-Some-clause-read
returns-in-Some-clause-read c =
    let at = sym c.in_ok-number.ensures in
    record {
      parts = c.in-Some.field-0.now;
      found = is_here _ _ (c.in-Some.ensures.named c.args.key.now at);
      read = sym c.in-Some.ensures.value;
      counts = λ octree levels contents e. c.in-Some.ensures.counts octree levels contents
          (numbered_kind c.args.store.now c.args.key.now c.in_ok-number.number at ∙ ap Some e);
    }
