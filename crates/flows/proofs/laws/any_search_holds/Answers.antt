use Rattle.flows.proofs.Theorems.{any_search}
use Rattle.flows.proofs.laws.any_search_holds.Goals as goal

pub returns : goal.returns
returns c = any_search
