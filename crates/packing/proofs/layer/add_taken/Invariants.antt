use Rattle.std.proofs.Common.{◌≡◌, ℕ, ◌+◌, ◌<◌, ◌≤◌, get_or}
use Rattle.packing.proofs.layer.add_taken.Given as goal

abbrev pub invariant-loop-link : goal.invariant-loop-link
invariant-loop-link l =
    record {
      done : (j : ℕ) → j < l.link → get_or l.charges j 0 ≡ get_or l.initial.charges j 0 + get_or l.taken j 0;
      rest : (j : ℕ) → l.link ≤ j → get_or l.charges j 0 ≡ get_or l.initial.charges j 0;
    }
