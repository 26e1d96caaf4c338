use Rattle.bisection.proofs.Firsts.{before_decided}
use Rattle.bisection.proofs.laws.before_in_words_holds.Goals as goal

pub returns : goal.returns
returns c = before_decided
