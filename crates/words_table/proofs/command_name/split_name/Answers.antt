use Rattle.std.proofs.Common.{sym}
use Rattle.words_table.proofs.Naming.{named_option, named_plain}
use Rattle.words_table.proofs.command_name.split_name.Goals as goal

pub returns-then-has_option : goal.returns-then-has_option
returns-then-has_option c =
    let first = c.in_ok-first in
    named_option c.args.words.now first.first.now first.behind.now c.in_ok-name.name
    first.ensures.cases.0 (sym c.in_ok-name.ensures) (sym c.if-has_option.ensures)

pub returns : goal.returns
returns c =
    let first = c.in_ok-first in
    named_plain c.args.words.now first.first.now first.behind.now c.in_ok-name.name
    first.ensures.cases.0 (sym c.in_ok-name.ensures) (sym c.if-has_option.ensures)
