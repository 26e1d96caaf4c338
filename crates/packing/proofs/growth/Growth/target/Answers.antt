use Rattle.std.proofs.Common.{refl, arith, rules}
use borrow.Author.Tests.{tests}
use Rattle.std.specs.List.{range_with_len}
use Rattle.std.proofs.lemmas.Iterator.{YieldsList-from_range, YieldsList-from_map}
use Rattle.std.proofs.lemmas.Iterator.Consumers.{YieldsList-at, sum_by_from_yields_List, fits_by_from_yields_list}
use Rattle.packing.specs.Grounded.{ground_of}
use Rattle.packing.specs.Stands.{forest_of}
use Rattle.packing.specs.Counting.{weight_off}
use Rattle.packing.proofs.Questions.{off_all, off_fits}
use Rattle.packing.proofs.growth.Growth.target.Goals as goal

pub sum-off-requires-clause-fits : goal.sum-off-requires-clause-fits
sum-off-requires-clause-fits c =
    let q = c.args.self.now.question in
    let n = (ground_of c.args.self.now.question).households in
    fits_by_from_yields_list (weight_off (ground_of c.args.self.now.question) (forest_of c.args.self.now)) (range_with_len 0 n) _ _
    (YieldsList-from_map _ (weight_off (ground_of c.args.self.now.question) (forest_of c.args.self.now))
    (YieldsList-at c.map.ensures.source (YieldsList-from_range 0 n n refl (omega arith))) c.map.ensures.closure (λ x r f called. search (rules, tests)))
    (off_fits q (forest_of c.args.self.now))

pub returns : goal.returns
returns c =
    let q = c.args.self.now.question in
    let n = (ground_of c.args.self.now.question).households in
    let off =
    sum_by_from_yields_List (weight_off (ground_of c.args.self.now.question) (forest_of c.args.self.now)) (range_with_len 0 n) _ _ c.sum-off.ensures.ran
    (YieldsList-from_map _ (weight_off (ground_of c.args.self.now.question) (forest_of c.args.self.now))
    (YieldsList-at c.map.ensures.source (YieldsList-from_range 0 n n refl (omega arith))) c.map.ensures.closure (λ x r f called. search (rules, tests))) in
    omega (arith, c.saturating_sub.ensures, off, off_all q (forest_of c.args.self.now))
