use Rattle.std.proofs.Common.{ℕ, Option, None, arith}
use Rattle.std.proofs.lemmas.List.{length-map, ext_get_or}
use Rattle.flows.specs.declared.items.Mark.{Mark}
use Rattle.flows.specs.Levels.{level_one}
use Rattle.flow.proofs.levels.mark_first.Goals as goal

pub returns : goal.returns
returns c =
    ext_get_or None c.loop-household.marks (level_one c.args.lots.now)
    (omega (arith, length-map {A = ℕ} {B = Option Mark}, c.loop-household.auto.marks, c.requires)) (λ j lt. c.loop-household.invariant j (omega arith))
