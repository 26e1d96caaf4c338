use Rattle.std.proofs.Common.{◌+◌, ◌*◌, ◌≤◌, rules}
use Rattle.parish.specs.Limits.{most_links, strongest_held}
use Rattle.parish.specs.View.{view}
use Rattle.parish.proofs.Viewed.{parish_sound}
use Rattle.bounds.proofs.Over.{over_answers, over_fits}
use Rattle.flows.specs.Layers.{flow_addition}
use Rattle.flows.proofs.Theorems.{flow_adds}
use Rattle.flow.proofs.layer.consult_over.Goals as goal

pub overflow_add-result : goal.overflow_add-result
overflow_add-result g c =
    let s = c.args.below.now in
    let fits : c.in_ok-number.number + c.add_flow-sent.result ≤ strongest_held * most_links =
    over_fits flow_addition flow_adds (g.B.LowerBound.meaning s) (g.met.B.LowerBound.bounds s) (view c.args.parish.now) c.args.cap _ _ _ _ _ (parish_sound c.args.parish.now)
    c.in_ok-number.ensures c.add_flow-sent.ensures.sent in
    search rules

pub returns : goal.returns
returns g c =
    over_answers flow_addition (g.B.LowerBound.meaning c.args.below.now) (view c.args.parish.now) c.args.cap _ _ _ _ _ _
    c.in_ok-number.ensures c.add_flow-sent.ensures.sent c.add_flow-sent.ensures.after
