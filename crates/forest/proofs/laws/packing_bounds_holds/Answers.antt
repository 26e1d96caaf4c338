use Rattle.forest.proofs.Theorems.{packing_bounds}
use Rattle.forest.proofs.laws.packing_bounds_holds.Goals as goal

pub returns : goal.returns
returns c = packing_bounds
