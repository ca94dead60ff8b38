use Rattle.std.proofs.Common.{refl}
use Rattle.tileset_schema.proofs.tile_values.TileValues.put.Goals as goal

pub returns : goal.returns
returns c =
    rw (
      c.put_at.ensures,
      c.put_at-2.ensures,
      c.put_at-3.ensures,
      c.put_at-4.ensures,
      c.put_at-5.ensures,
      c.put_at-6.ensures,
      c.put_at-7.ensures,
      c.put_at-8.ensures,
      c.put_at-9.ensures,
    ) refl
