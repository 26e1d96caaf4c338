use Rattle.std.proofs.Common.{◌≡◌, ℕ, ◌-◌, ◌<◌, get_or}
use Rattle.bounds.specs.Left.{link_at}
use Rattle.flow.proofs.charges.fill_left.Given as goal

abbrev pub invariant-loop-k : goal.invariant-loop-k
invariant-loop-k l = (j : ℕ) → j < l.k → get_or l.left j 0 ≡ (link_at l.links j).strength - get_or l.charges j 0
