use Rattle.std.proofs.Common.{sym, ◌∙◌}
use Rattle.std.proofs.lemmas.List.{length-set}
use Rattle.json_decimal.specs.Handles.{json_of, items_left}
use Rattle.tileset_schema.proofs.Counts.{filled_step}
use Rattle.tileset_schema.proofs.numbers.numbers.Goals as goal

pub loop-i-preserved : goal.loop-i-preserved
loop-i-preserved c = record {
  filled = sym
      (filled_step c.loop-i.places c.loop-i.i c.in_ok-places.field-0
      (json_of c.in_ok-next.field-0) (items_left c.next.new.self) (items_left c.loop-i.rest)
      (rw c.loop-i.invariant.places c.loop-i-test.true) c.in_ok-places.ensures
      c.in_ok-next.ensures) ∙ c.loop-i.invariant.filled;
  places = length-set c.loop-i.places c.loop-i.i c.in_ok-places.field-0
      ∙ c.loop-i.invariant.places;
}
