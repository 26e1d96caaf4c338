use Rattle.std.proofs.Common.{rules}
use Rattle.std.proofs.iter.runs.Sources.{sums}
use Rattle.parish.proofs.Viewed.{total_held}
use Rattle.parish.proofs.store.Parish.total_weight.Goals as goal

pub sum-requires-clause-fits : goal.sum-requires-clause-fits
sum-requires-clause-fits c = let held = total_held c.args.self.now in search (rules, sums, held)
