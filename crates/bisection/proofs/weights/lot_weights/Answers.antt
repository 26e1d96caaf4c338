use Rattle.std.proofs.Common.{arith}
use Rattle.std.proofs.lemmas.Grind.{common_steps}
use Rattle.bisection.proofs.Halves.{lot_light, lot_weight-nil}
use Rattle.bisection.proofs.weights.lot_weights.Goals as goal

pub overflow_add-a : goal.overflow_add-a
overflow_add-a c =
    let light = lot_light c.args.parish.now c.args.lots.now 1 in
    grind (arith, common_steps, light)

pub overflow_add-b : goal.overflow_add-b
overflow_add-b c =
    let light = lot_light c.args.parish.now c.args.lots.now 2 in
    grind (arith, common_steps, light)

pub returns : goal.returns
returns c = grind (arith, common_steps, lot_weight-nil)
