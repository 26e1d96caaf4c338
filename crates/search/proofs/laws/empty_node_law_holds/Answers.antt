use Rattle.search.proofs.Unclosing.{empty_first}
use Rattle.search.proofs.laws.empty_node_law_holds.Goals as goal

pub returns : goal.returns
returns c = empty_first
