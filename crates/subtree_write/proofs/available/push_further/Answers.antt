use Rattle.std.proofs.Common.{◌∷◌, [], sym, ◌∙◌, ap, refl}
use Rattle.subtree_write.specs.StreamsSeen.{views_with, binary_with}
use Rattle.subtree_write.proofs.Adding.{counts, views_more, binary_more, none_left}
use Rattle.subtree_write.proofs.Pieces.{row_text}
use Rattle.subtree_write.proofs.available.push_further.Goals as goal

pub loop-row-preserved : goal.loop-row-preserved
loop-row-preserved c =
    let row = c.as_slice.result.now in
    let more = c.in-Some.more.now in
    let split = c.in-Some.ensures.cases.0 ∙ rw (← c.as_slice.ensures) refl in
    let old = c.loop-row.streams in
    let new = c.push_row.new.self in
    let adds = c.in_ok-push_row.ensures.rows in
    record {
      json =
          row_text c.loop-row.json.items c.push.new.json.items c.push_row.new.json.items _ _ row
          c.loop-row.rest.now more split (counts old new (row ∷ []) adds) c.in_ok-push.ensures
          c.in_ok-push_row.ensures.json
          ∙ c.loop-row.invariant.json;
      views = views_more old new (row ∷ []) adds more ∙ ap (views_with old) (sym split)
          ∙ c.loop-row.invariant.views;
      binary = binary_more old new (row ∷ []) adds more ∙ ap (binary_with old) (sym split)
          ∙ c.loop-row.invariant.binary;
    }

pub returns-clause-rows : goal.returns-clause-rows
returns-clause-rows c =
    none_left c.args.streams.now c.loop-row.streams c.args.rows.now c.loop-row.rest.now
    c.in_default.ensures.cases c.loop-row.invariant.views c.loop-row.invariant.binary
