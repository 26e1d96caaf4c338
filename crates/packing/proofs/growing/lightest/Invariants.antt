use Rattle.packing.specs.Growing.{Lightest}
use Rattle.packing.proofs.growing.lightest.Given as goal

abbrev pub invariant-loop-root : goal.invariant-loop-root
invariant-loop-root l = Lightest l.trees l.root l.best
