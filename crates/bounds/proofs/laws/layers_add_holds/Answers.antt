use Rattle.bounds.proofs.Adding.{added_bounds}
use Rattle.bounds.proofs.laws.layers_add_holds.Goals as goal

pub returns : goal.returns
returns c = added_bounds
