-- What each bound and layer that can be stacked answers keeps the law of a lower bound. Assumes nothing.
use Rattle.std.proofs.Common.{◌≡◌, ℕ, List, Ok, Err, Result, subst}
use Rattle.parish.specs.Model.{Model, Sound}
use Rattle.parish.specs.declared.refusals.Refusal.{Refusal}
use Rattle.bisection.specs.Meanings.{Meaning, bare, decided}
use Rattle.bounds.specs.Bounds.{Bounds, IsLowerBound}
use Rattle.bounds.specs.Charges.{bare_bounds, decided_bounds}
use Rattle.bounds.specs.Consulting.{Consulted}
use Rattle.flows.specs.Layers.{flow_over}
use Rattle.flows.proofs.Theorems.{flow_bounds}
use Rattle.ask_bounds.specs.Told.{Told}

pub bare_keeps : IsLowerBound bare
bare_keeps m limit lots sound fit = bare_bounds m limit lots

pub decided_keeps : IsLowerBound decided
decided_keeps m limit lots sound fit = decided_bounds m limit lots

pub flow_keeps : (B : Meaning) → IsLowerBound B → IsLowerBound (flow_over B)
flow_keeps B law m limit lots sound fit = flow_bounds B m limit lots sound fit (law m limit lots sound fit)

-- an answer is a meaning that keeps the law
pub told : (A : Meaning) (m : Model) (limit : ℕ) (lots before after : List ℕ) (r : Result ℕ Refusal)
    → Consulted A m limit lots before after r → Sound m → (B : Meaning) → IsLowerBound B → A ≡ B → Told m limit lots before after r
told A m limit lots before after (Ok n) a sound B law e =
    let number_is : B.number m limit lots ≡ n = cc in
    let charges_are : B.charges m limit lots ≡ after = cc in
    subst (λ k. Bounds m limit lots k after) number_is
    (subst (λ cs. Bounds m limit lots (B.number m limit lots) cs) charges_are (law m limit lots sound a.fit.lots_fit))
told A m limit lots before after (Err x) a sound B law e = a
