use Rattle.std.proofs.Common.{refl}
use Rattle.json_decimal.proofs.Leaves.{short_number_is_read}
use Rattle.json_decimal.proofs.primitives.number.Goals as goal

pub returns-in_ok-add-in-Some : goal.returns-in_ok-add-in-Some
returns-in_ok-add-in-Some c =
    short_number_is_read c.args.bytes.now c.args.spelled.now _ c.in-Some.len
    c.args.entries.now.items c.add.new.entries.items
    c.requires.ends c.requires.form c.in-Some.ensures.read c.in-Some.ensures.within refl
    c.in_ok-add-in-Some.ensures.ok
