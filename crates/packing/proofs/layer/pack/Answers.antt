use Rattle.std.proofs.Common.{ℕ, take, ap, ◌∙◌, subst, arith}
use Rattle.std.proofs.lemmas.List.{get_or-take, length-take}
use Rattle.forest.specs.Searches.{count_below}
use Rattle.forest.specs.Forests.{is_root}
use Rattle.forest.specs.Fewest.{target}
use Rattle.forest.proofs.Packed.{packed_counted}
use Rattle.packing.specs.declared.question.Question.{Question}
use Rattle.packing.specs.declared.growth.Tree.{Tree}
use Rattle.packing.specs.Grounded.{ground_of}
use Rattle.packing.specs.Stands.{bare, forest_of, held_weight, Whole}
use Rattle.packing.specs.Counting.{Counted}
use Rattle.packing.proofs.Questions.{fair}
use Rattle.packing.proofs.Counts.{counted_least}
use Rattle.packing.proofs.layer.pack.Goals as goal

pub returns-clause-number : goal.returns-clause-number
returns-clause-number c =
    let q = c.args.question.now in
    let g = c.grow.new.self in
    let n : ℕ = (ground_of c.args.question.now).households in
    let planted' = c.plant-roots.ensures.question ∙ c.new-growth.ensures.question in
    let same = c.grow.ensures.question ∙ planted' in
    let W = subst (λ (x : Question). Whole (ground_of x) c.grow.new.self) same c.grow.ensures.whole in
    let counted =
    subst (λ m. Counted m (held_weight (take (ground_of c.args.question.now).households c.grow.new.self.trees)) c.plant-roots.result c.target-goal.result c.fewest-number.result)
    (omega (arith, length-take n g.trees, g.long, q.few)) c.fewest-number.ensures in
    packed_counted (ground_of q) c.args.least c.fewest-number.result (held_weight (take n g.trees))
    (λ r l. ap (λ (x : Tree). x.weight) (get_or-take n g.trees r bare l) ∙ W.weighs r l) (fair q) c.target-goal.result
    (c.target-goal.ensures ∙ ap (λ (x : Question). target (ground_of x) (forest_of c.grow.new.self) c.args.least) same ∙ ap (λ F. target (ground_of c.args.question.now) F c.args.least) W.is)
    (counted_least counted)
    (λ short. counted.short short ∙ c.plant-roots.ensures.sown.counts ∙ ap (λ (x : Question). count_below (is_root (ground_of x)) (ground_of x).households) planted')
