use Rattle.parish.specs.View.{view}
use Rattle.spelling.specs.Laws.{Loaded}
use Rattle.bench_load.proofs.load.Given as goal

abbrev pub invariant-loop : goal.invariant-loop
invariant-loop l = Loaded l.households l.links (view l.parish) l.counts
