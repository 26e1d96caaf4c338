use Rattle.std.proofs.Common.{◌≡◌, [], take}
use Rattle.parish.specs.View.{view}
use Rattle.ask_bounds.specs.Parishes.{parish_of}
use Rattle.ask_bounds.proofs.answers.fill.Given as goal

abbrev pub invariant-loop-weight : goal.invariant-loop-weight
invariant-loop-weight l = view l.parish ≡ parish_of (take l.weight-index l.weights) []

abbrev pub invariant-loop-link : goal.invariant-loop-link
invariant-loop-link l = view l.parish ≡ parish_of l.weights (take l.link-index l.links)
