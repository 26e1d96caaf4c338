use Rattle.std.proofs.Common.{◌+◌, ◌≤◌, get_or, ap, ◌∙◌, sym, arith, rules}
use Rattle.flow.proofs.Scanned.{most_sent, sent_fits, scan_open, scan_pass, scan_send, scan_reach}
use Rattle.flow.proofs.network.Search.scan_level.Goals as goal
use Rattle.flow.proofs.network.Search.scan_level.Goals.{in-Some+then-network-head-eq-IN_B, in-Some+else-network-head-eq-IN_B, in_default}

pub send_most-sent-requires : goal.send_most-sent-requires
send_most-sent-requires c =
    scan_open c.loop-link.invariant c.requires.ready c.loop-link-test.true c.in-Some.ensures
    (ap (λ v. get_or c.args.self.now.network.lots.now v 0) (sym c.head.ensures) ∙ c.if-network-head-eq-IN_B.true)

pub overflow_add-sent : goal.overflow_add-sent
overflow_add-sent c =
    let next =
    scan_send c.loop-link.invariant c.requires.ready c.loop-link-test.true c.in-Some.ensures
    (ap (λ v. get_or c.args.self.now.network.lots.now v 0) (sym c.head.ensures) ∙ c.if-network-head-eq-IN_B.true)
    c.send_most-sent.ensures.amount c.send_most-sent.ensures.after in
    let fits : c.loop-link.sent + c.send_most-sent.result ≤ most_sent =
    sent_fits c.args.self.now c.args.depth (c.loop-link.link + 1) c.requires.ready (omega arith) next.scan in
    search rules

pub loop-link-preserved : goal.loop-link-preserved
loop-link-preserved c =
    elim c.match-arc_on.branch [
      | in-Some+then-network-head-eq-IN_B w ↦
          rw (w.self-is, w.grew-is, w.sent-is)
          (scan_send c.loop-link.invariant c.requires.ready c.loop-link-test.true w.in-Some.ensures
          (ap (λ v. get_or c.args.self.now.network.lots.now v 0) (sym w.head.ensures) ∙ w.if-network-head-eq-IN_B.true)
          w.send_most-sent.ensures.amount w.send_most-sent.ensures.after)
      | in-Some+else-network-head-eq-IN_B w ↦
          rw (w.self-is, w.grew-is, w.sent-is)
          (scan_reach c.loop-link.invariant c.requires.ready c.loop-link-test.true w.in-Some.ensures
          (λ q. w.if-network-head-eq-IN_B.false (ap (λ v. get_or c.args.self.now.network.lots.now v 0) w.head.ensures ∙ q)) w.reach.ensures)
      | in_default w ↦
          rw (w.self-is, w.grew-is, w.sent-is)
          (scan_pass c.loop-link.invariant c.requires.ready c.loop-link-test.true w.in_default.ensures)
    ]
