use Rattle.flows.proofs.Theorems.{same_flow}
use Rattle.flows.proofs.laws.same_flow_holds.Goals as goal

pub returns : goal.returns
returns c = same_flow
