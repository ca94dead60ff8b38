use Rattle.std.proofs.Common.{◌-◌, length, refl, sym}
use Rattle.json_decimal.proofs.Leaves.{number_is_read}
use Rattle.json_decimal.proofs.SoundNumber.{number_within}
use Rattle.json_decimal.proofs.primitives.any_number.Goals as goal

pub overflow_sub-spelled : goal.overflow_sub-spelled
overflow_sub-spelled c =
    number_within c.args.spelled.now c.in_ok-rest.rest.now (sym c.in_ok-rest.ensures)

pub returns : goal.returns
returns c =
    number_is_read c.args.bytes.now c.args.spelled.now c.in_ok-rest.rest.now
    (length c.args.spelled.now - length c.in_ok-rest.rest.now)
    c.args.entries.now.items c.add.new.entries.items c.requires.ends c.requires.form
    c.in_ok-rest.ensures refl c.in_ok-add.ensures.ok
