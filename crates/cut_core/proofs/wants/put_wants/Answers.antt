use Rattle.std.proofs.Common.{◌≡◌, ◌∙◌, [], ap, sym, true, None, Some, fold, filter, map}
use Rattle.std.specs.Prelude.{option_map}
use Rattle.expanded_tree.specs.Tree.{addresses_of, key_of}
use Rattle.cut_core.specs.Noted.{measured_at, wants_noted}
use Rattle.cut_core.specs.WantMap.{wants_in}
use Rattle.cut_core.specs.Wants.{is_missing, missing_contents, with_want}
use Rattle.cut_core.proofs.Wanting.{none_missing, wants_none}
use Rattle.cut_core.proofs.wants.put_wants.Goals as goal

pub returns-then-own : goal.returns-then-own
returns-then-own g c =
    let s = g.T.TileTree.standing c.args.tree.now in
    let view = c.args.context.now.view.now in
    let holdings = g.H.Holdings.holdings c.args.context.now.holdings.now in
    let v = c.args.visit.now in
    let t = s.node_tree v.node in
    let tile : key_of t ≡ None = sym c.in_default.ensures in
    let none = none_missing holdings c.own_of-own.result.lacking c.own_of-own.result.resident
    (addresses_of t)
    c.own_of-own.ensures.lacking c.own_of-own.ensures.resident c.if-own.true in
    let missing : missing_contents holdings true t ≡ [] = none in
    sym (ap (fold with_want (wants_in c.args.wants.now))
    (ap (λ b. wants_noted s view holdings (record {
      node = v.node;
      measured_by = v.measured_by;
      parent = v.parent;
      wants = v.wants;
      kept = b;
    })) c.if-not-visit.false
    ∙ wants_none holdings true (measured_at s view v) tile missing))
