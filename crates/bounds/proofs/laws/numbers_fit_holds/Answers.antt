use Rattle.bounds.proofs.Sums.{numbers_fit}
use Rattle.bounds.proofs.laws.numbers_fit_holds.Goals as goal

pub returns : goal.returns
returns c = numbers_fit
