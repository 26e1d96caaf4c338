use Rattle.std.proofs.Common.{◌≡◌, ℕ, ◌+◌, ◌<◌, ◌≤◌, get_or}
use Rattle.flows.specs.Paths.{distance}
use Rattle.flow.proofs.network.Search.add_amounts.Given as goal

abbrev pub invariant-loop-k : goal.invariant-loop-k
invariant-loop-k l =
    record {
      done : (j : ℕ) → j < l.k → get_or l.charges j 0 ≡ get_or l.initial.charges j 0 + distance (get_or l.self.network.left.now j 0) (get_or l.self.room.now j 0);
      rest : (j : ℕ) → l.k ≤ j → get_or l.charges j 0 ≡ get_or l.initial.charges j 0;
    }
