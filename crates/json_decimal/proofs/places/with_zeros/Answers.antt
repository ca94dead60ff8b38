use Rattle.json_decimal.proofs.Wholes.{zeros_clamped}
use Rattle.json_decimal.proofs.places.with_zeros.Goals as goal

pub returns : goal.returns
returns c =
    rw (c.saturating_mul.ensures, c.saturating_pow.ensures, c.min.ensures)
    (zeros_clamped c.args.value c.args.zeros)
