use Rattle.flows.proofs.Theorems.{flow_bounds}
use Rattle.flows.proofs.laws.flow_bounds_holds.Goals as goal

pub returns : goal.returns
returns c = flow_bounds
