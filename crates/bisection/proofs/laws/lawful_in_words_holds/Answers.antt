use Rattle.bisection.proofs.Tests.{lawful_decided}
use Rattle.bisection.proofs.laws.lawful_in_words_holds.Goals as goal

pub returns : goal.returns
returns c = lawful_decided
