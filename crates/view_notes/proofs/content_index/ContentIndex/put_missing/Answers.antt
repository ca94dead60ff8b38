use Rattle.std.proofs.Common.{◌∙◌, Some, ap, arith, filter, fold, map, sym}
use Rattle.std.specs.Option.{option_map}
use Rattle.std.proofs.lemmas.List.{length-map, take_all}
use Rattle.std.proofs.lemmas.Option.{slice_get-get_or, slice_get-map}
use Rattle.cut_core.specs.Visits.{content_key}
use Rattle.cut_core.specs.WantMap.{wants_in}
use Rattle.cut_core.specs.Wants.{is_missing, want_with, with_want}
use Rattle.cut_core.proofs.Wanting.{put_no, put_one}
use Rattle.view_notes.specs.Names.{address_at}
use Rattle.view_notes.proofs.Indexing.{node_names}
use Rattle.view_notes.proofs.content_index.ContentIndex.put_missing.Goals as goal
use Rattle.view_notes.proofs.content_index.ContentIndex.put_missing.Goals.{then-is_missing+in_ok-key+in_ok-put, else-is_missing}

pub loop-number-preserved : goal.loop-number-preserved
loop-number-preserved g c =
    let h = g.H.Holdings.holdings c.args.holdings.now in
    let n = c.self.inside.names in
    let ks = c.numbers-number-items.result.now in
    let k = c.loop-number.number-index in
    let contents = map (address_at n.addresses) ks in
    let at = slice_get-map (address_at n.addresses) ks k
    ∙ ap (option_map (address_at n.addresses)) (slice_get-get_or ks k 0 c.loop-number-test.true)
    ∙ ap Some c.address-address.ensures in
    let f = want_with c.args.facts in
    elim c.if-is_missing.branch [
      | then-is_missing+in_ok-key+in_ok-put w ↦
          put_one h f (wants_in c.args.wants.now) contents k c.address-address.result.now at _ _
          (sym c.is_missing.ensures ∙ w.if-is_missing.true) c.loop-number.invariant
          (ap wants_in w.wants-is ∙ w.in_ok-put.ensures
          ∙ ap (λ q. with_want (wants_in c.loop-number.wants) (f q)) w.in_ok-key.ensures)
      | else-is_missing w ↦
          ap wants_in w.wants-is
          ∙ put_no h f (wants_in c.args.wants.now) contents k c.address-address.result.now at _
          (sym c.is_missing.ensures ∙ w.if-is_missing.false) c.loop-number.invariant
    ]

pub returns : goal.returns
returns g c =
    let h = g.H.Holdings.holdings c.args.holdings.now in
    let n = c.self.inside.names in
    let ks = c.numbers-number-items.result.now in
    let k = c.loop-number.number-index in
    let contents = map (address_at n.addresses) ks in
    let f = want_with c.args.facts in
    rw (← c.self.view_is)
    (c.loop-number.invariant
    ∙ ap (λ xs. fold with_want (wants_in c.args.wants.now) (map f (map content_key
    (filter (is_missing h) xs))))
    (take_all k contents (omega (arith, c.loop-number-test.false, length-map ks (address_at n.addresses)))
    ∙ sym (node_names n c.args.node ks c.numbers-number-items.ensures.numbers)))
