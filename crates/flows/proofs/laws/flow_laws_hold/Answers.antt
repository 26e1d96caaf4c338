use Rattle.flows.proofs.Theorems.{flow_laws}
use Rattle.flows.proofs.laws.flow_laws_hold.Goals as goal

pub returns : goal.returns
returns c = flow_laws
