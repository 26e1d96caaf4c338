use Rattle.std.proofs.Common.{◌+◌, ◌≤◌, arith}
use Rattle.std.proofs.lemmas.Nat.{mul-le}
use Rattle.parish.proofs.Viewed.{total_held, half_up-div_ceil}
use Rattle.parish.proofs.store.Parish.weight_cap.Goals as goal

pub overflow_mul-result : goal.overflow_mul-result
overflow_mul-result c =
    let w = c.total_weight.result in
    let held = total_held c.args.self.now in
    let half : c.div_ceil-half.result ≤ 640000 = omega (arith, half_up-div_ceil w, c.div_ceil-half.ensures, c.total_weight.ensures, held) in
    omega (arith, mul-le (1000 + c.args.tolerance) c.div_ceil-half.result 2000 640000 (omega arith) half)
