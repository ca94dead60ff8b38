use Rattle.std.proofs.Common.{◌∷◌, ap, arith, decimal, drop, subst, sym, ◌∙◌}
use Rattle.std.specs.Prelude.{IsUtf8}
use Rattle.std.proofs.lemmas.Fmt.{IsAscii-decimal}
use Rattle.std.proofs.lemmas.Str.{IsUtf8-append, IsUtf8-from_ascii}
use Rattle.std.proofs.lemmas.Str.Ascii.{IsAscii-cons}
use Rattle.tree_nodes.proofs.place_name.place_number.Goals as goal

pub returns-clause-utf8 : goal.returns-clause-utf8
returns-clause-utf8 c =
    let digits = decimal c.args.number in
    let rest = drop c.args.end c.args.bytes.now in
    let shown = IsAscii-cons c.args.mark digits c.requires.mark
    (IsAscii-decimal c.args.number (omega (arith, c.ranges.number.fits))) in
    subst IsUtf8 (sym (c.place_byte.ensures.written
    ∙ ap (λ t. c.args.mark ∷ t) c.place_digits-start.ensures.written))
    (IsUtf8-append (c.args.mark ∷ digits) rest
    (IsUtf8-from_ascii (c.args.mark ∷ digits) shown) c.requires.utf8)
