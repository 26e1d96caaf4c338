use Rattle.std.proofs.Common.{arith}
use Rattle.std.proofs.lemmas.List.{ext_get_or}
use Rattle.bounds.specs.Adding.{added}
use Rattle.bounds.proofs.Adding.{get_or_added, length_added}
use Rattle.flows.specs.Paths.{amounts}
use Rattle.flows.proofs.Adds.{amounts_at, length_amounts}
use Rattle.flow.proofs.network.Search.add_amounts.Goals as goal

pub returns : goal.returns
returns c =
    let cs = c.args.charges.now in
    let left = c.args.self.now.network.left.now in
    let room = c.args.self.now.room.now in
    let long = length_amounts left room in
    ext_get_or 0 c.loop-k.charges (added cs (amounts left room)) (omega (arith, length_added cs (amounts left room)))
    (λ j lt. omega (
      arith,
      c.loop-k.invariant.done j (omega arith),
      amounts_at left room j (omega arith),
      get_or_added cs (amounts left room) j (omega (arith, c.requires.fit, c.args.self.now.network.fits.left_long)),
    ))
