use Rattle.std.proofs.Common.{◌+◌, ◌*◌, ◌≤◌, arith, rules}
use Rattle.parish.specs.Limits.{most_links, strongest_held}
use Rattle.flow.proofs.Sent.{first_round, next_most, next_small, next_round, last_round}
use Rattle.flow.proofs.network.Search.send_all.Goals as goal

pub loop-total-init : goal.loop-total-init
loop-total-init c = first_round c.args.self.now c.requires.unused

pub overflow_add-total : goal.overflow_add-total
overflow_add-total c =
    let fits : c.loop-total.total + c.search-sent.result ≤ strongest_held * most_links = next_small c.loop-total.invariant c.search-sent.ensures in
    search rules

pub loop-total-smaller : goal.loop-total-smaller
loop-total-smaller c = omega (arith, c.if-sent-eq0.false, next_most c.loop-total.invariant c.search-sent.ensures)

pub loop-total-preserved : goal.loop-total-preserved
loop-total-preserved c = next_round c.loop-total.invariant c.search-sent.ensures c.if-sent-eq0.false

pub returns-then-sent-eq0 : goal.returns-then-sent-eq0
returns-then-sent-eq0 c = last_round c.loop-total.invariant c.search-sent.ensures c.if-sent-eq0.true
