use Rattle.std.proofs.Common.{◌≡◌, ◌*◌, ◌≤◌, take, sum_by}
use Rattle.parish.specs.Limits.{strongest_held}
use Rattle.parish.specs.View.{view}
use Rattle.bisection.specs.Costs.{cut_strength}
use Rattle.bisection.proofs.costs.cost.Given as goal

abbrev pub invariant-loop-link : goal.invariant-loop-link
invariant-loop-link l =
    (l.sum ≡ sum_by (cut_strength l.lots) (take l.link-index (view l.parish).links)) × (l.sum ≤ strongest_held * l.link-index)
