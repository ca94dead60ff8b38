use Rattle.std.proofs.Common.{◌≡◌, ◌-◌, arith}
use Rattle.json_decimal.proofs.Extents.{plain_extent_utf8}
use Rattle.json_decimal.proofs.json_string.JsonString.spelled.Goals as goal

pub from_utf8_unchecked-requires : goal.from_utf8_unchecked-requires
from_utf8_unchecked-requires c =
    let two : c.args.extent - 1 - 1 ≡ c.args.extent - 2 = omega arith in
    rw two (plain_extent_utf8 c.args.spelled.now c.args.extent (λ e. omega arith) c.requires.extent)
