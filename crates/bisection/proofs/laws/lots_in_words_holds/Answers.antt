use Rattle.bisection.proofs.Tests.{lots_decided}
use Rattle.bisection.proofs.laws.lots_in_words_holds.Goals as goal

pub returns : goal.returns
returns c = lots_decided
