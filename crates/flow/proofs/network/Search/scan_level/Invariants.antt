use Rattle.flow.proofs.Scanned.{Taking}
use Rattle.flow.proofs.network.Search.scan_level.Given as goal

abbrev pub invariant-loop-link : goal.invariant-loop-link
invariant-loop-link l = Taking l.fn.self l.self l.depth l.link l.grew l.sent
