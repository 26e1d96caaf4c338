use Rattle.std.proofs.Common.{arith}
use Rattle.std.proofs.lemmas.Grind.{common_steps}
use Rattle.spelling.proofs.Reading.{line_unspelt, line_refused, line_added}
use Rattle.sheets.proofs.loading.read_lines.Goals as goal

pub returns-in_err-record : goal.returns-in_err-record
returns-in_err-record g c = grind (arith, common_steps, line_unspelt)

pub returns-in_err-add : goal.returns-in_err-add
returns-in_err-add g c = grind (arith, common_steps, line_refused)

pub loop-line-preserved : goal.loop-line-preserved
loop-line-preserved g c = (
  c.loop-line.invariant.0,
  omega (arith, c.loop-line.invariant.1, c.in-Some.ensures.1),
  grind (arith, common_steps, line_added),
)
