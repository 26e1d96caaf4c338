use Rattle.forest.proofs.Theorems.{packing_laws}
use Rattle.forest.proofs.laws.packing_laws_hold.Goals as goal

pub returns : goal.returns
returns c = packing_laws
