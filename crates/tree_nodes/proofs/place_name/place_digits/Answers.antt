use Rattle.std.proofs.Common.{◌≤◌, arith, decimal, length, rules}
use Rattle.std.proofs.lemmas.Fmt.{length-decimal-le}
use Rattle.tree_nodes.proofs.place_name.place_digits.Goals as goal

pub write_digits-requires : goal.write_digits-requires
write_digits-requires c = search (rules, length-decimal-le 10)

pub returns-clause-start : goal.returns-clause-start
returns-clause-start c =
    let short : length (decimal c.from.result) ≤ 10 =
    length-decimal-le 10 c.from.result (omega arith)
    (omega (arith, c.from.ensures, c.ranges.number.fits))
    (omega (arith, c.from.ensures, c.ranges.number.fits)) in (
      omega (arith, c.write_digits.ensures.start),
      omega (arith, c.write_digits.ensures.start, short),
    )
