-- The answer, in words. Assumes nothing.
use Rattle.std.proofs.Common.{◌≡◌, ℕ, ◌<◌, ◌≤◌, true, ◌⊎◌, List, Some, None, Option, sym, refl, ◌∙◌, subst, inl, inr, arith}
use Rattle.std.proofs.ByRecursion.{all-has}
use Rattle.parish.specs.Model.{Model}
use Rattle.bisection.specs.Costs.{cost}
use Rattle.bisection.specs.Bisections.{Lawful, lawful_bisections, before}
use Rattle.bisection.specs.Answers.{answer, Answers, NoneBelow}
use Rattle.search.specs.Words.{Answered, AnswerLaw}
use Rattle.search.proofs.Best.{Outcome, Best, best_law}
use Rattle.search.proofs.Listed.{all_lawful, lawful_has, sorted_lawful, before_self}
use Rattle.search.proofs.Ordering.{one_first}

-- the first of least cost in the list, in words
answers_by : (m : Model) (limit u : ℕ) (d : List ℕ) → Best (cost m) before u (lawful_bisections m limit) d → Answers m limit u d
answers_by m limit u d b = record {
  is_lawful = all-has (Lawful m limit) (lawful_bisections m limit) d (all_lawful m limit) b.among;
  below_ceiling = b.below;
  least_cost = lawful_has m limit (λ e. cost m d ≤ cost m e) b.most;
  comes_first = lawful_has m limit (λ e. before e d ≡ true → cost m d < cost m e) b.first;
}

-- there is only one
same_answer : (m : Model) (limit u : ℕ) (d e : List ℕ) → Answers m limit u d → Answers m limit u e → d ≡ e
same_answer m limit u d e a b =
    let w = a.is_lawful.whole in
    let v = b.is_lawful.whole in
    elim (one_first d e (w.long ∙ sym v.long) w.set_each v.set_each) [
      | inl p ↦ absurd (omega (arith, b.comes_first d a.is_lawful p, a.least_cost e b.is_lawful))
      | inr q ↦ by q
    ]
  where
    by : (d ≡ e) ⊎ (before e d ≡ true) → d ≡ e
    by (inl p) = p
    by (inr p) = absurd (omega (arith, a.comes_first e b.is_lawful p, b.least_cost d a.is_lawful))

by_outcome : (m : Model) (limit u : ℕ) (o : Option (List ℕ)) → Outcome (cost m) before u (lawful_bisections m limit) o
    → answer m limit u ≡ o → Answered m limit u
by_outcome m limit u None h e =
    let none : NoneBelow m limit u = lawful_has m limit (λ d. u ≤ cost m d) h.most in
    record {
      found = λ d q. absurd (cc);
      only = λ d a. absurd (omega (arith, none d a.is_lawful, a.below_ceiling));
      none_below = λ _. none;
      none_since = λ _. e;
    }
by_outcome m limit u (Some y) h e =
    let a = answers_by m limit u y h in
    record {
      found = λ d q. let same : y ≡ d = cc in subst (Answers m limit u) same a;
      only = λ d b. e ∙ (let same = same_answer m limit u y d a b in cc);
      none_below = λ q. absurd (cc);
      none_since = λ below. absurd (omega (arith, below y a.is_lawful, a.below_ceiling));
    }

pub answered_rightly : AnswerLaw
answered_rightly m limit u =
    by_outcome m limit u (answer m limit u) (best_law (cost m) before before_self u (lawful_bisections m limit) (sorted_lawful m limit)) refl
