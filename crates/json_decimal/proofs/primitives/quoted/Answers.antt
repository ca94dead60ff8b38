use Rattle.std.proofs.Common.{refl}
use Rattle.json_decimal.proofs.Leaves.{short_quoted_is_read}
use Rattle.json_decimal.proofs.primitives.quoted.Goals as goal

pub returns-in_ok-add-in-Some : goal.returns-in_ok-add-in-Some
returns-in_ok-add-in-Some c =
    short_quoted_is_read c.args.bytes.now c.args.spelled.now c.in_ok-inside.inside.now _
    c.in-Some.len
    c.args.entries.now.items c.add.new.entries.items c.requires.ends c.in_ok-inside.ensures
    c.in-Some.ensures refl
    c.in_ok-add-in-Some.ensures.ok
