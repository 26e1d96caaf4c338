use Rattle.std.proofs.Common.{◌≡◌, ◌+◌}
use Rattle.std.specs.Iterator.Adapters.{zip_first, zip_second}
use Rattle.std.specs.Slice.Iter.{iter_rest}
use Rattle.parish.specs.View.{view}
use Rattle.bisection.specs.Weights.{lot_weight}
use Rattle.bisection.proofs.weights.lot_weights.Given as goal

-- what is weighed and what is left make the whole
abbrev pub invariant-loop-household : goal.invariant-loop-household
invariant-loop-household l =
    let hs = iter_rest (zip_first l.household-iterator) in
    let lots = iter_rest (zip_second l.household-iterator) in
    record {
      in_A : l.a + lot_weight 1 hs lots ≡ lot_weight 1 (view l.parish).households l.lots;
      in_B : l.b + lot_weight 2 hs lots ≡ lot_weight 2 (view l.parish).households l.lots;
    }
