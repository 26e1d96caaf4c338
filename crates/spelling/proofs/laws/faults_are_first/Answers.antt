use Rattle.spelling.proofs.Spelling.{faults_are_first}
use Rattle.spelling.proofs.laws.faults_are_first.Goals as goal

pub returns : goal.returns
returns c = faults_are_first
