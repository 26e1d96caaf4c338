use Rattle.spelling.proofs.Digits.{number_fields}
use Rattle.spelling.proofs.laws.number_fields_are_decimals.Goals as goal

pub returns : goal.returns
returns c = number_fields
