use Rattle.std.proofs.Common.{◌≡◌, ◌-◌, ◌*◌, ◌≤◌, length, take}
use Rattle.report.proofs.Joined.{joined}
use Rattle.report.proofs.rows.write_row.Given as goal

abbrev pub invariant-loop-k : goal.invariant-loop-k
invariant-loop-k l =
    (l.line.bytes ≡ joined (take l.k l.number-items))
    × (length l.line.bytes ≤ 21 * l.k - 1)
