use Rattle.std.proofs.Common.{None, ◌<◌, refl, ap, ◌∙◌, subst, arith, below_more}
use Rattle.packing.specs.declared.growth.Growth.{Growth}
use Rattle.packing.specs.Grounded.{ground_of}
use Rattle.packing.specs.Stands.{forest_of}
use Rattle.packing.proofs.Planted.{tree_light}
use Rattle.packing.proofs.Grown.{lightest_at, left_out, alive, takes, takes_fewer, closes, fewer_alive, grown_whole, growing_start}
use Rattle.packing.proofs.growth.Growth.grow.Goals as goal

pub grow-init : goal.grow-init
grow-init c = record { stands = growing_start c.args.self.now c.requires.0 c.requires.1; question = refl }

pub join-requires-clause-light : goal.join-requires-clause-light
join-requires-clause-light c =
    let g = c.loop-link.self in
    let now' = c.loop-link.invariant in
    omega (arith, now'.stands.weighs c.in-Some.root now'.best.there, tree_light g.question (forest_of g) c.in-Some.root)

pub grow-smaller : goal.grow-smaller
grow-smaller c =
    let now' = c.loop-link.invariant in
    let far = c.in-Some-far_end.ensures in
    let there : c.loop-link.link < (ground_of c.loop-link.self.question).links = omega (arith, c.loop-link-test.true, ap (λ (x : Growth). (ground_of x.question).links) now'.same) in
    subst (λ n. left_out c.join.new.self < n) (ap left_out now'.same ∙ c.loop-root.invariant.left)
    (takes_fewer c.loop-link.self now'.stands c.in-Some.root now'.best c.loop-link.link c.in-Some-far_end.household c.join.new.self there far.0 now'.none far.1 c.join.ensures)

pub grow-preserved : goal.grow-preserved
grow-preserved c =
    let now' = c.loop-link.invariant in
    let far = c.in-Some-far_end.ensures in
    let there : c.loop-link.link < (ground_of c.loop-link.self.question).links = omega (arith, c.loop-link-test.true, ap (λ (x : Growth). (ground_of x.question).links) now'.same) in
    record {
      stands = takes c.loop-link.self now'.stands c.in-Some.root now'.best c.loop-link.link c.in-Some-far_end.household c.join.new.self there far.0 now'.none far.1 c.join.ensures;
      question = c.join.ensures.question ∙ ap (λ (x : Growth). x.question) now'.same ∙ c.loop-root.invariant.question ∙ c.grow.invariant.question;
    }

pub loop-link-preserved : goal.loop-link-preserved
loop-link-preserved c =
    let now' = c.loop-link.invariant in
    record { same = now'.same; stands = now'.stands; best = now'.best; none = below_more _ _ now'.none c.in_default-far_end.ensures }

pub loop-root-smaller : goal.loop-root-smaller
loop-root-smaller c =
    let now' = c.loop-link.invariant in
    fewer_alive c.loop-link.self now'.stands c.in-Some.root now'.best.there
    (λ j l. now'.none j (omega (arith, c.loop-link-test.false, ap (λ (x : Growth). (ground_of x.question).links) now'.same))) now'.best.lives _
    (ap (λ (x : Growth). alive (ground_of x.question).households x.trees) now'.same)

pub loop-root-preserved : goal.loop-root-preserved
loop-root-preserved c =
    let now' = c.loop-link.invariant in
    record {
      stands =
          closes c.loop-link.self now'.stands c.in-Some.root now'.best.there
          (λ j l. now'.none j (omega (arith, c.loop-link-test.false, ap (λ (x : Growth). (ground_of x.question).links) now'.same)));
      left = ap left_out now'.same ∙ c.loop-root.invariant.left;
      question = ap (λ (x : Growth). x.question) now'.same ∙ c.loop-root.invariant.question;
    }

pub returns-clause-whole : goal.returns-clause-whole
returns-clause-whole c =
    let same = c.loop-root.invariant.question ∙ c.grow.invariant.question in
    grown_whole c.loop-root.self c.loop-root.invariant.stands (lightest_at c.loop-root.self c.args.self.now.question None same c.in_default.ensures)
