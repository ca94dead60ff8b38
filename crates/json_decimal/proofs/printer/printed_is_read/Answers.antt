use Rattle.json_decimal.proofs.Printing.{printed_spells, printed_read, spells_numbers}
use Rattle.json_decimal.proofs.printer.printed_is_read.Goals as goal

pub returns-clause-spelled : goal.returns-clause-spelled
returns-clause-spelled c = printed_spells

pub returns-clause-read : goal.returns-clause-read
returns-clause-read c = printed_read

pub returns-clause-numbers : goal.returns-clause-numbers
returns-clause-numbers c = spells_numbers
