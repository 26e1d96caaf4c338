use Rattle.std.proofs.Common.{length}
use Rattle.flows.specs.Paths.{send_all}
use Rattle.flow.specs.Searching.{path_to}
use Rattle.flow.proofs.Walking.{path_by, Walking}
use Rattle.flow.proofs.network.Search.send_back.Given as goal

abbrev pub invariant-loop-next : goal.invariant-loop-next
invariant-loop-next l = Walking l.fn.self l.self l.amount l.next (send_all l.amount l.fn.self.room.now (path_to l.fn.self l.fn.last))

abbrev pub decreases-loop-next : goal.decreases-loop-next
decreases-loop-next l = length (path_by l.fn.self l.next)
