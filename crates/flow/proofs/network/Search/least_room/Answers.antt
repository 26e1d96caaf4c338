use Rattle.flow.proofs.Walking.{fewer, measuring_first, measuring_more}
use Rattle.flow.proofs.network.Search.least_room.Goals as goal

pub loop-next-init : goal.loop-next-init
loop-next-init c = measuring_first c.args.self.now c.args.last c.requires.before c.room_along-least.ensures

pub loop-next-smaller : goal.loop-next-smaller
loop-next-smaller c = fewer c.args.self.now c.in-Some.is c.before-next.ensures

pub loop-next-preserved : goal.loop-next-preserved
loop-next-preserved c =
    measuring_more c.args.self.now c.in-Some.is c.before-next.ensures c.lesser-least.ensures c.loop-next.invariant
