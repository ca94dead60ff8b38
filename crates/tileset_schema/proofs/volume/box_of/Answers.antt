use Rattle.tileset_schema.proofs.Places.{box_at}
use Rattle.tileset_schema.proofs.volume.box_of.Goals as goal

pub returns-clause-value : goal.returns-clause-value
returns-clause-value c =
    rw (
      c.box_by.ensures.value,
      c.point.ensures.value,
      c.point-2.ensures.value,
      c.point-3.ensures.value,
      c.point-4.ensures.value,
    )
    (box_at c.args.numbers.now _ c.told-numbers)
