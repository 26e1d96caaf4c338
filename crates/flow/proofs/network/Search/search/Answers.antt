use Rattle.std.proofs.Common.{◌+◌, ◌-◌, length, sym, refl, ◌∙◌, arith}
use Rattle.flow.proofs.Marks.{first_tree}
use Rattle.flow.proofs.Scanned.{first_level, level_stops, level_goes}
use Rattle.flow.proofs.network.Search.search.Goals as goal

pub invariant_of-self-clause-tree : goal.invariant_of-self-clause-tree
invariant_of-self-clause-tree c = rw c.mark_first.ensures (first_tree c.args.self.now)

pub loop-depth-init : goal.loop-depth-init
loop-depth-init c = first_level c.args.self.now _ _ (omega arith) refl refl c.mark_first.ensures

pub returns-then-not-goes_on : goal.returns-then-not-goes_on
returns-then-not-goes_on c =
    level_stops c.loop-depth.invariant c.scan_level-level.ensures (length c.args.self.now.network.lots.now - c.loop-depth.depth) (omega arith)
    (sym c.goes_on.ensures ∙ c.if-not-goes_on.true)

pub loop-depth-preserved : goal.loop-depth-preserved
loop-depth-preserved c =
    level_goes c.loop-depth.invariant c.scan_level-level.ensures (length c.args.self.now.network.lots.now + 1 - (c.loop-depth.depth + 1)) (omega arith)
    (sym c.goes_on.ensures ∙ c.if-not-goes_on.false)
