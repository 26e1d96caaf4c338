use Rattle.std.proofs.Common.{arith}
use Rattle.std.proofs.lemmas.List.{append_assoc, length-append}
use Rattle.report.proofs.Joined.{joined_first, joined_more}
use Rattle.report.proofs.rows.write_row.Goals.{then-k-gt0, else-k-gt0}
use Rattle.report.proofs.rows.write_row.Goals as goal

pub loop-k-preserved : goal.loop-k-preserved
loop-k-preserved c =
    elim c.if-k-gt0.branch [
      | then-k-gt0 w ↦
          let more = joined_more c.loop-k.k c.args.numbers w.if-k-gt0.true (omega arith) in
          grind (arith, append_assoc, length-append)
      | else-k-gt0 w ↦
          let first = joined_first c.args.numbers (omega arith) in
          grind (arith, append_assoc, length-append)
    ]
