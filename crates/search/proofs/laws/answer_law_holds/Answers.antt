use Rattle.search.proofs.Answering.{answered_rightly}
use Rattle.search.proofs.laws.answer_law_holds.Goals as goal

pub returns : goal.returns
returns c = answered_rightly
