use Rattle.std.proofs.Common.{◌+◌, ◌-◌}
use Rattle.flow.proofs.Scanned.{Seeking}
use Rattle.flow.proofs.network.Search.search.Given as goal

abbrev pub invariant-loop-depth : goal.invariant-loop-depth
invariant-loop-depth l = Seeking l.fn.self l.self (l.depth-end + 1 - l.depth) l.depth
