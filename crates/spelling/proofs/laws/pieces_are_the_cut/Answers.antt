use Rattle.spelling.proofs.Cutting.{pieces_are_the_cut}
use Rattle.spelling.proofs.laws.pieces_are_the_cut.Goals as goal

pub returns : goal.returns
returns c = pieces_are_the_cut
