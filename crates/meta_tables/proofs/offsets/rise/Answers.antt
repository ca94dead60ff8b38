use Rattle.std.proofs.Common.{◌≡◌, ◌≤◌, ◌+◌, true, ◌∙◌, arith}
use Rattle.std.proofs.lemmas.Bool.{le-leb}
use Rattle.meta_tables.specs.Offsets.{offset_at, rises_at}
use Rattle.meta_tables.proofs.EachRow.{one_row}
use Rattle.meta_tables.proofs.offsets.rise.Goals as goal

pub loop-row-preserved : goal.loop-row-preserved
loop-row-preserved c =
    let type = c.args.offset_type in
    let offsets = c.args.offsets.now in
    let row = c.loop-row.row in
    let before = c.loop-row.invariant.1 in
    let next = c.offset_at-next.ensures in
    let test = c.if-next-before.false in
    let rises : offset_at type offsets row ≤ offset_at type offsets (row + 1) =
    omega (arith, before, next, test) in
    let is : rises_at type offsets row ≡ true =
    le-leb (offset_at type offsets row) (offset_at type offsets (row + 1)) rises in (
      omega arith,
      next,
      one_row (rises_at type offsets) row c.args.count (omega arith) is ∙ c.loop-row.invariant.2,
    )
