use Rattle.spelling.proofs.Spelling.{spelling_is_unique}
use Rattle.spelling.proofs.laws.spelling_is_unique.Goals as goal

pub returns : goal.returns
returns c = spelling_is_unique
