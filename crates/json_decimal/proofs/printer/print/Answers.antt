use Rattle.json_decimal.specs.View.{value_of}
use Rattle.json_decimal.proofs.Printing.{printed_spells, printed_read}
use Rattle.json_decimal.proofs.printer.print.Goals as goal

pub returns-clause-spelled : goal.returns-clause-spelled
returns-clause-spelled c =
    rw (c.in_ok-push_value.ensures.added, c.new-text.ensures.items)
    (printed_spells (value_of c.args.value.now) c.in_ok-push_value.ensures.well_formed
    c.requires.nesting)

pub returns-clause-read : goal.returns-clause-read
returns-clause-read c =
    rw (c.in_ok-push_value.ensures.added, c.new-text.ensures.items)
    (printed_read (value_of c.args.value.now) c.in_ok-push_value.ensures.well_formed
    c.requires.nesting)
