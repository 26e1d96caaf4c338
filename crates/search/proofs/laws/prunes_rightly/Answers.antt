use Rattle.bisection.specs.Meanings.{Meaning}
use Rattle.search.proofs.Pruning.{pruned_rightly}
use Rattle.search.proofs.laws.prunes_rightly.Goals as goal

pub returns : goal.returns
returns g c =
    let b = c.args.bound.now in
    let B : Meaning = g.B.LowerBound.meaning b in
    pruned_rightly B.number (λ m limit lots sound fit. (B.charges m limit lots, g.met.B.LowerBound.bounds b m limit lots sound fit))
