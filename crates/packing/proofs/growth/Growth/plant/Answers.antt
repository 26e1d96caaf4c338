use Rattle.std.proofs.Common.{◌≡◌, ℕ, ◌+◌, ◌<◌, cond, sym, ap, ◌∙◌, subst, inl, inr, add-one, arith}
use Rattle.std.proofs.lemmas.Bool.{cases_Bool, cond-true, cond-false}
use Rattle.packing.specs.Grounded.{ground_of}
use Rattle.packing.specs.Stands.{Sown}
use Rattle.packing.specs.declared.question.Question.{Question}
use Rattle.forest.specs.Forests.{planted}
use Rattle.forest.proofs.Sums.{cond_most}
use Rattle.packing.proofs.Planted.{tree_light, sow_more}
use Rattle.packing.proofs.growth.Growth.plant.Goals as goal

pub plant_at-requires-clause-household : goal.plant_at-requires-clause-household
plant_at-requires-clause-household c = omega (arith, c.loop-household-test.true, ap (λ (q : Question). (ground_of q).households) c.loop-household.invariant.question)

pub plant_at-requires-clause-light : goal.plant_at-requires-clause-light
plant_at-requires-clause-light c =
    let v = c.loop-household.household in
    let q = c.loop-household.self.question in
    omega (arith, c.loop-household.invariant.sown.weighs v (plant_at-requires-clause-household c), tree_light q (planted (ground_of q) v) v)

pub loop-household-preserved : goal.loop-household-preserved
loop-household-preserved c =
    let g = c.loop-household.self in
    let v = c.loop-household.household in
    let lt : c.loop-household.household < (ground_of c.loop-household.self.question).households =
    omega (arith, c.loop-household-test.true, ap (λ (q : Question). (ground_of q).households) c.loop-household.invariant.question) in
    let one : c.from-roots.result ≡ cond c.plant_at.result 1 0 =
    elim (cases_Bool c.plant_at.result) [
      | inl root ↦ omega (arith, rw root at c.from-roots.ensures, cond-true {A = ℕ} c.plant_at.result 1 0 root)
      | inr none ↦ omega (arith, rw none at c.from-roots.ensures, cond-false {A = ℕ} c.plant_at.result 1 0 none)
    ]
    in
    record {
      sown =
          subst (λ i. Sown (ground_of c.plant_at.new.self.question) i c.plant_at.new.self (c.loop-household.roots + c.from-roots.result)) (sym (add-one v))
          (sow_more g c.plant_at.new.self v c.loop-household.roots c.plant_at.result _ lt c.loop-household.invariant.sown c.plant_at.ensures
          (ap (λ x. c.loop-household.roots + x) one));
      few = omega (arith, one, cond_most c.plant_at.result 1);
      question = c.plant_at.ensures.question ∙ c.loop-household.invariant.question;
    }
