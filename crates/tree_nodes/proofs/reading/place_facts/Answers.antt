use Rattle.std.proofs.Common.{◌≡◌, subst, sym}
use Rattle.std.specs.Option.{ForSome}
use Rattle.volumes.specs.Limits.{IsInRange}
use Rattle.tree_nodes.proofs.PlaceFacts.{facts_made, request_at_root, request_below, request_small}
use Rattle.tree_nodes.proofs.reading.place_facts.Goals.{then-entry-eq0, else-entry-eq0}
use Rattle.tree_nodes.proofs.reading.place_facts.Goals as goal

pub invariant_of-result : goal.invariant_of-result
invariant_of-result c =
    let small : ForSome c.index-top.result.now.request IsInRange =
    request_small c.args.store.now c.args.tables.now c.args.number c.requires
    c.index-entry.result.now c.index-entry.ensures c.index-top.result.now c.index-top.ensures in
    record {
      volume_in_range = λ volume e.
          let same : c.volume_at.result ≡ volume = cc in
          subst IsInRange same c.volume_at.ensures.within.in_range;
      request_in_range = elim c.if-entry-eq0.branch [
        | then-entry-eq0 w ↦ subst (λ r. ForSome r IsInRange) (sym w.request-is) small
        | else-entry-eq0 w ↦ rw w.request-is (λ volume e. cc)
      ];
      error_in_range = c.error_at.ensures.within;
    }

pub returns : goal.returns
returns c = λ p.
    let entry = c.index-entry.result.now in
    let top = c.index-top.result.now in
    let request = c.if-entry-eq0.request in
    facts_made c.args.store.now c.args.tables.now c.args.number p entry c.index-entry.ensures top
    c.index-top.ensures c.root-root.result c.root-root.ensures c.volume_at.result request
    c.error_at.result c.volume_at.ensures.value
    (elim c.if-entry-eq0.branch [
      | then-entry-eq0 w ↦ request_at_root entry.at.level request top.request w.if-entry-eq0.true
          w.request-is
      | else-entry-eq0 w ↦ request_below entry.at.level request top.request w.if-entry-eq0.false
          w.request-is
    ]) c.error_at.ensures.value
