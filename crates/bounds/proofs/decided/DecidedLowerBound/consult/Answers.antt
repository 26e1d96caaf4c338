use Rattle.std.proofs.Common.{◌≤◌, map, get_or, sym, ◌∙◌, arith, rules}
use Rattle.std.proofs.lemmas.List.{get_or-map}
use Rattle.std.proofs.lemmas.List.Edits.{fill_by_more}
use Rattle.std.proofs.lemmas.List.Sums.{sum_by_more}
use Rattle.parish.specs.Limits.{strongest_held}
use Rattle.parish.specs.Model.{no_link}
use Rattle.bisection.specs.Meanings.{decided_charge}
use Rattle.bisection.proofs.Steps.{link_joins}
use Rattle.bounds.specs.Charges.{decided_most}
use Rattle.bounds.proofs.decided.DecidedLowerBound.consult.Goals as goal

-- a charge is no larger than a strength can be
small : (c : goal.After-charge_of-charge) → c.charge_of-charge.result ≤ strongest_held
small c =
    let ls = c.links-links.result.now in
    let j = link_joins c.args.parish.now ls c.loop-k.k c.links-links.ensures c.loop-k-test.true in
    omega (arith, j.4, decided_most c.args.lots.now (get_or ls c.loop-k.k no_link), c.charge_of-charge.ensures)

pub loop-k-preserved : goal.loop-k-preserved
loop-k-preserved c =
    let ls = c.links-links.result.now in
    let k = c.loop-k.k in
    let f = decided_charge c.args.lots.now in
    let e = c.charge_of-charge.ensures in
    let s = small c in (
      rw (e ∙ sym (get_or-map f ls k no_link 0 c.loop-k-test.true))
          (fill_by_more (λ j. get_or (map f ls) j 0) c.loop-k.charges k 0 (search rules) c.loop-k.invariant.0),
      omega (arith, c.loop-k.invariant.1, e, sum_by_more f ls k no_link c.loop-k-test.true),
      omega (arith, c.loop-k.invariant.2, s),
    )
