use Rattle.json_decimal.proofs.NestedRead.{name_before}
use Rattle.json_decimal.proofs.entries.before_value.Goals as goal

pub returns-in_ok-behind_name-in-Object : goal.returns-in_ok-behind_name-in-Object
returns-in_ok-behind_name-in-Object c =
    rw c.in-Object.is
    (name_before c.args.bytes.now c.args.spelled.now c.in_ok-behind_name-in-Object.behind_name.now
    c.skip_whitespace.result.now _ _
    c.in_ok-behind_name-in-Object.ensures c.skip_whitespace.ensures)
