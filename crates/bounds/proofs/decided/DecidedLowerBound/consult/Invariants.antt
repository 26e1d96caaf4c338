use Rattle.std.proofs.Common.{◌≡◌, ℕ, ◌*◌, ◌<◌, ◌≤◌, map, get_or, take, sum_by}
use Rattle.parish.specs.Limits.{strongest_held}
use Rattle.bisection.specs.Meanings.{decided_charge}
use Rattle.bounds.proofs.decided.DecidedLowerBound.consult.Given as goal

abbrev pub invariant-loop-k : goal.invariant-loop-k
invariant-loop-k l =
    ((j : ℕ) → j < l.k → get_or l.charges j 0 ≡ get_or (map (decided_charge l.lots) l.links) j 0)
    × (l.sum ≡ sum_by (decided_charge l.lots) (take l.k l.links))
    × (l.sum ≤ strongest_held * l.k)
