use Rattle.search.proofs.Unclosing.{in_words}
use Rattle.search.proofs.laws.standing_law_holds.Goals as goal

pub returns : goal.returns
returns c = in_words
