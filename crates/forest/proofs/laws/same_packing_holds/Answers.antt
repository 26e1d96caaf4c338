use Rattle.forest.proofs.Theorems.{same_packing}
use Rattle.forest.proofs.laws.same_packing_holds.Goals as goal

pub returns : goal.returns
returns c = same_packing
