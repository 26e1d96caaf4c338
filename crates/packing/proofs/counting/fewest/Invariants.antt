use Rattle.std.proofs.Common.{length}
use Rattle.packing.proofs.Counts.{Counting}
use Rattle.packing.proofs.counting.fewest.Given as goal

abbrev pub invariant-loop-left : goal.invariant-loop-left
invariant-loop-left l = Counting (length l.initial.trees) l.initial.trees l.trees l.goal l.left l.count

abbrev pub decreases-loop-left : goal.decreases-loop-left
decreases-loop-left l = l.left
