use Rattle.search.proofs.Ordering.{ordered}
use Rattle.search.proofs.laws.order_law_holds.Goals as goal

pub returns : goal.returns
returns c = ordered
