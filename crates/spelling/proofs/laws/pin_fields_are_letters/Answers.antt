use Rattle.spelling.proofs.Digits.{pin_fields}
use Rattle.spelling.proofs.laws.pin_fields_are_letters.Goals as goal

pub returns : goal.returns
returns c = pin_fields
