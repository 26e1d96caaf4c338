use Rattle.bisection.proofs.Halves.{least_lot_weighs}
use Rattle.bisection.proofs.laws.least_lot_weight_holds.Goals as goal

pub returns : goal.returns
returns c = least_lot_weighs
