use Rattle.std.proofs.Common.{◌≡◌, ℕ, zero, suc, ◌+◌, ◌≤◌, cond, not, eqb, [], ◌∷◌, get_or, refl, arith}
use Rattle.std.proofs.lemmas.Bool.Decides.{nat_tests}
use Rattle.bisection.specs.Lots.{Extends}
use Rattle.bisection.specs.Bisections.{Lawful}
use Rattle.bisection.proofs.Tests.{lawful_decided, extends_decided}
use Rattle.bounds.specs.Bounds.{strengths}
use Rattle.bounds.specs.Charges.{decided_bounds}
use Rattle.bounds.proofs.Sums.{below_costs}
use Rattle.cases.specs.Parishes.{worked}
use Rattle.cases.specs.Full.{ends_set, halves}
use Rattle.cases.proofs.full_strengths_do_not_add.Goals as goal

-- either way round the ring one link is cut
cut_twice : (a b c d : ℕ) → a ≡ 1 → d ≡ 2
    → 2 ≤ cond (not (eqb a b)) 1 0 + (cond (not (eqb b c)) 1 0 + (cond (not (eqb c d)) 1 0 + (cond (not (eqb a d)) 1 0 + 0)))
cut_twice a b c d p q = grind (arith, nat_tests)

one_each : (k : ℕ) → get_or (1 ∷ 1 ∷ 1 ∷ 1 ∷ []) k 0 ≤ get_or (strengths worked.links) k 0
one_each zero = omega arith
one_each (suc zero) = omega arith
one_each (suc (suc zero)) = omega arith
one_each (suc (suc (suc zero))) = omega arith
one_each (suc (suc (suc (suc k)))) = omega arith

halves_lawful : Lawful worked 5 halves
halves_lawful = (lawful_decided worked 5 halves).0 refl

halves_extend : Extends ends_set halves
halves_extend = (extends_decided ends_set halves).0 refl

pub returns : goal.returns
returns c = record {
  parting = record {
    long = refl;
    within = one_each;
    charged = omega arith;
    paid = λ d whole ext even. cut_twice (get_or d 0 0) (get_or d 1 0) (get_or d 2 0) (get_or d 3 0) (ext 0 (omega arith)) (ext 3 (omega arith));
  };
  decided_alone = decided_bounds worked 5 ends_set;
  decided_number = refl;
  lawful_halves = halves_lawful;
  extending = halves_extend;
  costs_2 = refl;
  unsound = λ charges b.
      let p = below_costs worked 5 ends_set 3 charges b halves halves_lawful.whole halves_extend halves_lawful.light in
      absurd (omega (arith, p));
}
