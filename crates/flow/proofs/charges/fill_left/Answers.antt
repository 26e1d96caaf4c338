use Rattle.std.proofs.Common.{◌-◌, get_or, arith}
use Rattle.std.proofs.lemmas.List.FromFn.{fill_by_all}
use Rattle.bounds.specs.Left.{link_at}
use Rattle.flow.proofs.charges.fill_left.Goals as goal

pub returns : goal.returns
returns c =
    fill_by_all (λ k. (link_at c.args.links.now k).strength - get_or c.args.charges.now k 0) c.loop-k.left _ 0 (omega (arith, c.requires.left_fit))
    (λ j lt. c.loop-k.invariant j (omega arith))
