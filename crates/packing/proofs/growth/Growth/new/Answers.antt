use Rattle.std.proofs.Common.{refl}
use Rattle.packing.proofs.Planted.{sow_start}
use Rattle.packing.proofs.growth.Growth.new.Goals as goal

pub returns-clause-bare : goal.returns-clause-bare
returns-clause-bare c = sow_start _ refl refl refl
