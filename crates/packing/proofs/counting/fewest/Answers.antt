use Rattle.std.proofs.Common.{refl, arith}
use Rattle.packing.proofs.Counts.{counting_more, counting_done, counting_short}
use Rattle.packing.proofs.counting.fewest.Goals as goal

pub returns-in_default : goal.returns-in_default
returns-in_default c = counting_short c.loop-left.invariant c.args.roots c.loop-left-test.true (λ k l. c.in_default.ensures k (omega (arith, c.loop-left.auto.trees)))

pub loop-left-preserved : goal.loop-left-preserved
loop-left-preserved c =
    let most = c.in-Some.ensures in
    counting_more c.loop-left.invariant c.in-Some.root c.saturating_sub-left.result _ refl (omega (arith, most.0, c.loop-left.auto.trees)) most.1
    (λ k l. most.2 k (omega (arith, c.loop-left.auto.trees))) c.loop-left-test.true c.saturating_sub-left.ensures

pub returns : goal.returns
returns c = counting_done c.loop-left.invariant c.args.roots (omega (arith, c.loop-left-test.false))
