use Rattle.std.proofs.Common.{Some, refl, ◌∙◌}
use Rattle.flow.proofs.Walking.{before_kept, fewer, next_is, walking_more}
use Rattle.flow.proofs.network.Search.send_back.Goals as goal

pub loop-next-init : goal.loop-next-init
loop-next-init c =
    walking_more c.args.self.now {next = Some c.args.last} refl (record { network = refl; marks = refl; goes_on = refl; clear = c.requires.open })
    c.send_along.ensures (c.requires.before ∙ before_kept c.send_along.ensures _)

pub loop-next-smaller : goal.loop-next-smaller
loop-next-smaller c =
    fewer c.args.self.now c.in-Some.is
    (next_is c.args.self.now c.in-Some.is c.loop-next.invariant c.send_along-in-Some.ensures c.before-next.ensures)

pub loop-next-preserved : goal.loop-next-preserved
loop-next-preserved c =
    walking_more c.args.self.now c.in-Some.is c.loop-next.invariant c.send_along-in-Some.ensures c.before-next.ensures
