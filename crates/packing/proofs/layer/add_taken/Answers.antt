use Rattle.std.proofs.Common.{arith}
use Rattle.std.proofs.lemmas.List.{ext_get_or}
use Rattle.bounds.specs.Adding.{added}
use Rattle.bounds.proofs.Adding.{get_or_added, length_added}
use Rattle.packing.proofs.layer.add_taken.Goals as goal

pub returns : goal.returns
returns c =
    let cs = c.args.charges.now in
    let taken = c.args.taken.now in
    ext_get_or 0 c.loop-link.charges (added cs taken) (omega (arith, length_added cs taken))
    (λ j lt. omega (arith, c.loop-link.invariant.done j (omega arith), get_or_added cs taken j c.requires.same))
