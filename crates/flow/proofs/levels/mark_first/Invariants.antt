use Rattle.std.proofs.Common.{◌≡◌, ℕ, ◌<◌, None, get_or}
use Rattle.flows.specs.Levels.{level_one}
use Rattle.flow.proofs.levels.mark_first.Given as goal

abbrev pub invariant-loop-household : goal.invariant-loop-household
invariant-loop-household l = (j : ℕ) → j < l.household → get_or l.marks j None ≡ get_or (level_one l.lots) j None
