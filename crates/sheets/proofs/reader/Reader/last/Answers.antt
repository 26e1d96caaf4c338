use Rattle.std.proofs.Common.{arith}
use Rattle.std.proofs.lemmas.Grind.{common_steps}
use Rattle.spelling.proofs.Cutting.{pieces_one, pieces_more}
use Rattle.sheets.proofs.reader.Reader.last.Goals as goal

pub returns : goal.returns
returns c = grind (arith, common_steps, pieces_one, pieces_more)
