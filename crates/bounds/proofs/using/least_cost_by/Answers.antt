use Rattle.std.proofs.Common.{◌≡◌, ℕ, cond, not, List, length, Some, None, Ok, Err, Result, sym, ap, ◌∙◌, inl, inr, arith}
use Rattle.std.proofs.lemmas.Bool.{cases_Bool}
use Rattle.parish.specs.Edits.{answered, answer_by}
use Rattle.parish.specs.Model.{Model}
use Rattle.parish.specs.View.{view}
use Rattle.parish.specs.declared.refusals.Refusal.{Refusal}
use Rattle.parish.specs.declared.refusals.Refusal.TheVariants.{WrongList}
use Rattle.parish.proofs.Viewed.{parish_sound}
use Rattle.bisection.specs.Lots.{Lots, lots_fit, lots_table}
use Rattle.bisection.proofs.Steps.{fit_answers}
use Rattle.bisection.proofs.Tests.{lots_decided}
use Rattle.bisection.specs.Meanings.{Meaning}
use Rattle.bounds.specs.Bounds.{Bounds}
use Rattle.bounds.specs.Consulting.{Consulted, LeastCost}
use Rattle.bounds.proofs.Sums.{below_costs}
use Rattle.bounds.proofs.using.least_cost_by.Goals as goal

-- lots that do not fit are refused
unfit_refuses : (m : Model) (lots : List ℕ) (e : Refusal) (v : ℕ) → (Lots m lots → ⊥) → e ≡ WrongList → Err e ≡ answered (lots_table m lots) v
unfit_refuses m lots e v unfit why =
    elim (cases_Bool (lots_fit m lots)) [
      | inl fit ↦ absurd (unfit ((lots_decided m lots).0 fit))
      | inr no' ↦ ap Err why ∙ sym (ap (λ b. answer_by (cond (not b) (Some WrongList) None) v) no')
    ]

least_by : (B : Meaning) (m : Model) (limit : ℕ) (lots : List ℕ)
    → (Lots m lots → Bounds m limit lots (B.number m limit lots) (B.charges m limit lots)) → (before after : List ℕ) → length before ≡ length m.links
    → (r : Result ℕ Refusal) → Consulted B m limit lots before after r → LeastCost B.number m limit lots r
least_by B m limit lots law before after long (Ok n) a =
    record {
      answer = fit_answers m lots n (B.number m limit lots) ((lots_decided m lots).1 a.fit.lots_fit) a.says;
      below_costs = λ d whole ext even.
          omega (arith, a.says, below_costs m limit lots (B.number m limit lots) (B.charges m limit lots) (law a.fit.lots_fit) d whole ext even);
    }
least_by B m limit lots law before after long (Err e) a =
    record {
      answer = unfit_refuses m lots e (B.number m limit lots) (λ fit. a.unfit (record { lots_fit = fit; charges_fit = long })) a.why;
      below_costs = tt;
    }

pub returns : goal.returns
returns g c =
    let b = c.args.bound.now in
    least_by (g.B.LowerBound.meaning b) (view c.args.parish.now) c.args.cap c.args.lots.now
    (g.met.B.LowerBound.bounds b _ c.args.cap c.args.lots.now (parish_sound c.args.parish.now))
    _ _ c.requires c.consult.result c.consult.ensures
