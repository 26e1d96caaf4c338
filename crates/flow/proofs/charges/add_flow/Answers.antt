use Rattle.std.proofs.Common.{length, refl, arith, ap, ◌∙◌}
use Rattle.parish.specs.View.{view}
use Rattle.parish.proofs.Viewed.{parish_sound}
use Rattle.bounds.specs.Adding.{added}
use Rattle.flows.specs.Cuts.{least_cut}
use Rattle.flow.specs.declared.network.Network.{Network}
use Rattle.flow.proofs.Marks.{scratch_tree}
use Rattle.flow.proofs.Parishes.{left_is, parish_network, amounts_are, amounts_small}
use Rattle.flow.proofs.charges.add_flow.Goals as goal

pub invariant_of-network : goal.invariant_of-network
invariant_of-network c =
    record { fits = parish_network c.args.parish.now c.args.charges.now c.requires.fit c.links-2.ensures (left_is c.args.parish.now c.args.charges.now c.requires.fit c.fill_left.ensures c.links.ensures) }

pub invariant_of-search-clause-tree : goal.invariant_of-search-clause-tree
invariant_of-search-clause-tree c =
    rw c.none-mark_scratch.ensures
    (scratch_tree c.links-2.result.now c.args.lots.now (length c.args.lots.now) refl
    (omega (arith, c.requires.fit.long, (parish_sound c.args.parish.now).few)))

pub add_amounts-requires-clause-small : goal.add_amounts-requires-clause-small
add_amounts-requires-clause-small c =
    amounts_small c.args.parish.now c.args.charges.now c.requires.fit (left_is c.args.parish.now c.args.charges.now c.requires.fit c.fill_left.ensures c.links.ensures) (ap (λ (net : Network). net.left.now) c.send_all-sent.ensures.network)
    (c.send_all-sent.ensures.room (view c.args.parish.now) (record { sound = parish_sound c.args.parish.now; links = c.links-2.ensures; lots = c.requires.fit })) c.requires.within

pub returns-clause-sent : goal.returns-clause-sent
returns-clause-sent c =
    c.send_all-sent.ensures.sent (view c.args.parish.now) (record { sound = parish_sound c.args.parish.now; links = c.links-2.ensures; lots = c.requires.fit })
    ∙ ap (least_cut (view c.args.parish.now) c.args.lots.now) (left_is c.args.parish.now c.args.charges.now c.requires.fit c.fill_left.ensures c.links.ensures)

pub returns-clause-after : goal.returns-clause-after
returns-clause-after c =
    c.add_amounts.ensures
    ∙ ap (added c.args.charges.now)
    (amounts_are c.args.parish.now c.args.charges.now c.requires.fit (left_is c.args.parish.now c.args.charges.now c.requires.fit c.fill_left.ensures c.links.ensures) (ap (λ (net : Network). net.left.now) c.send_all-sent.ensures.network)
    (c.send_all-sent.ensures.room (view c.args.parish.now) (record { sound = parish_sound c.args.parish.now; links = c.links-2.ensures; lots = c.requires.fit })))
