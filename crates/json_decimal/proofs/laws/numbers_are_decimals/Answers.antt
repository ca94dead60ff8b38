use Rattle.json_decimal.proofs.DecimalLaw.{decimal_is_number}
use Rattle.json_decimal.proofs.NumberLaw.{number_is_decimal}
use Rattle.json_decimal.proofs.laws.numbers_are_decimals.Goals as goal

pub returns : goal.returns
returns c text = (number_is_decimal text, decimal_is_number text)
