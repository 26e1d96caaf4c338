use Rattle.std.proofs.Common.{◌∙◌, ap, ap₂, arith}
use Rattle.parish.specs.View.{view}
use Rattle.forest.specs.Grounds.{ground_for}
use Rattle.forest.specs.Layers.{packed_number}
use Rattle.packing.proofs.layer.add_packing.Goals as goal

pub returns-clause-number : goal.returns-clause-number
returns-clause-number c =
    let p = c.args.parish.now in
    c.pack-packed.ensures.number
    ∙ ap₂ (λ hs ls. packed_number (ground_for c.args.home (record { households = hs; links = ls }) c.args.lots.now c.args.charges.now) c.saturating_sub-least.result)
    c.households.ensures c.links.ensures
    ∙ ap (packed_number (ground_for c.args.home (view c.args.parish.now) c.args.lots.now c.args.charges.now))
    (omega (arith, c.saturating_sub-least.ensures, c.total_weight.ensures))
