use Rattle.std.proofs.Common.{◌+◌, ◌*◌, ◌≤◌, arith, rules}
use Rattle.parish.specs.Limits.{most_links, strongest_held}
use Rattle.parish.specs.View.{view}
use Rattle.parish.proofs.Viewed.{parish_sound}
use Rattle.bounds.proofs.Sums.{strengths_most}
use Rattle.bounds.proofs.Over.{answer_within, over_answers, over_fits}
use Rattle.forest.specs.Layers.{packing_addition}
use Rattle.forest.proofs.Theorems.{packing_is_layer}
use Rattle.packing.proofs.layer.consult_over.Goals as goal

pub add_packing-more-requires-clause-small : goal.add_packing-more-requires-clause-small
add_packing-more-requires-clause-small g c =
    let s = c.args.below.now in
    let m = view c.args.parish.now in
    let sound = parish_sound c.args.parish.now in
    let a = c.in_ok-number.ensures in
    let within = answer_within (g.B.LowerBound.meaning s) (g.met.B.LowerBound.bounds s) m _ _ _ _ _ sound a in
    let adds = packing_is_layer c.args.home m c.args.cap c.args.lots.now _ sound a.fit.lots_fit within in
    λ k. omega (arith, adds.left k, strengths_most m sound k)

pub overflow_add-result : goal.overflow_add-result
overflow_add-result g c =
    let s = c.args.below.now in
    let layer = packing_addition c.args.home in
    let fits : c.in_ok-number.number + c.add_packing-more.result ≤ strongest_held * most_links =
    over_fits layer (packing_is_layer c.args.home) (g.B.LowerBound.meaning s) (g.met.B.LowerBound.bounds s) (view c.args.parish.now) c.args.cap _ _ _ _ _ (parish_sound c.args.parish.now)
    c.in_ok-number.ensures c.add_packing-more.ensures.number in
    search rules

pub returns : goal.returns
returns g c =
    over_answers (packing_addition c.args.home) (g.B.LowerBound.meaning c.args.below.now) (view c.args.parish.now) c.args.cap _ _ _ _ _ _
    c.in_ok-number.ensures c.add_packing-more.ensures.number c.add_packing-more.ensures.charges
