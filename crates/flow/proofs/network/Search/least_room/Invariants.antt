use Rattle.std.proofs.Common.{length}
use Rattle.flow.specs.Searching.{least_room_in}
use Rattle.flow.proofs.Walking.{path_by, Measuring}
use Rattle.flow.proofs.network.Search.least_room.Given as goal

abbrev pub invariant-loop-next : goal.invariant-loop-next
invariant-loop-next l = Measuring l.self l.next l.least (least_room_in l.self l.fn.last)

abbrev pub decreases-loop-next : goal.decreases-loop-next
decreases-loop-next l = length (path_by l.self l.next)
