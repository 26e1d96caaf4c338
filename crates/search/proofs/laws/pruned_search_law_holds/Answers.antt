use Rattle.search.proofs.Pruning.{pruned_rightly}
use Rattle.search.proofs.laws.pruned_search_law_holds.Goals as goal

pub returns : goal.returns
returns c = pruned_rightly
