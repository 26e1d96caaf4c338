use Rattle.std.proofs.Common.{◌-◌, sum}
use Rattle.flow.proofs.Sent.{Round}
use Rattle.flow.proofs.network.Search.send_all.Given as goal

abbrev pub invariant-loop-total : goal.invariant-loop-total
invariant-loop-total l = Round l.fn.self l.self l.total

abbrev pub decreases-loop-total : goal.decreases-loop-total
decreases-loop-total l = sum l.fn.self.network.left.now - l.total
