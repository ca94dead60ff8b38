use Rattle.std.proofs.Common.{◌≤◌, arith, decimal, length, subst, sym}
use Rattle.std.specs.Prelude.{IsUtf8}
use Rattle.std.proofs.lemmas.Fmt.{IsAscii-decimal, length-decimal-le}
use Rattle.std.proofs.lemmas.Str.{IsUtf8-append, IsUtf8-from_ascii}
use Rattle.tile_uri.proofs.placing.place_number.Goals as goal

pub write_digits-requires : goal.write_digits-requires
write_digits-requires c =
    let short : length (decimal c.args.number) ≤ 10 =
    length-decimal-le 10 c.args.number (omega arith) (omega (arith, c.ranges.number.fits))
    (omega (arith, c.ranges.number.fits)) in
    (omega (arith, short, c.if-end-lt-DIGITS.false), c.requires.within)

pub returns-clause-utf8 : goal.returns-clause-utf8
returns-clause-utf8 c =
    subst IsUtf8 (sym c.write_digits.ensures.written)
    (IsUtf8-append (decimal c.args.number) _ (IsUtf8-from_ascii (decimal c.args.number)
    (IsAscii-decimal c.args.number (omega (arith, c.ranges.number.fits)))) c.requires.utf8)
