-- What a lower bound answers when it is consulted. Assumes nothing.
use Rattle.std.specs.Prelude.{◌≡◌, ℕ, List, length, IfOk, Ok, Err, Result}
use Rattle.parish.specs.Edits.{answered}
use Rattle.parish.specs.Model.{Model}
use Rattle.parish.specs.declared.refusals.Refusal.{Refusal}
use Rattle.parish.specs.declared.refusals.Refusal.TheVariants.{WrongList}
use Rattle.bisection.specs.Lots.{Lots, lots_table}
use Rattle.bisection.specs.Meanings.{Number, Meaning}
use Rattle.bounds.specs.Bounds.{BelowCosts}

-- both lists fit the parish: a lot or none for each household, a charge for each link
pub record Fit (m : Model) (lots charges : List ℕ) : Type 0 where
  pub lots_fit : Lots m lots
  pub charges_fit : length charges ≡ length m.links

-- an answer: the lists fit, the number is as the meaning has it, and the list holds every charge
pub record Answer (meaning : Meaning) (m : Model) (limit : ℕ) (lots before after : List ℕ) (n : ℕ) : Type 0 where
  pub fit : Fit m lots before
  pub says : n ≡ meaning.number m limit lots
  pub fills : after ≡ meaning.charges m limit lots

-- a refusal: the lists do not fit, and nothing is changed
pub record NoAnswer (m : Model) (lots before after : List ℕ) (e : Refusal) : Type 0 where
  pub unfit : Fit m lots before → ⊥
  pub why : e ≡ WrongList
  pub leaves : after ≡ before

-- consulted on a parish, a limit and a list of lots, with a list of charges before and after
abbrev pub Consulted : Meaning → Model → ℕ → List ℕ → List ℕ → List ℕ → Result ℕ Refusal → Type 0
Consulted meaning m limit lots before after (Ok n) = Answer meaning m limit lots before after n
Consulted meaning m limit lots before after (Err e) = NoAnswer m lots before after e

-- the number alone: it is refused by the list of lots, and answered it is at most the cost of every bisection that extends
-- the list and keeps both lots within the limit
pub record LeastCost (number : Number) (m : Model) (limit : ℕ) (lots : List ℕ) (r : Result ℕ Refusal) : Type 0 where
  pub answer : r ≡ answered (lots_table m lots) (number m limit lots)
  pub below_costs : IfOk r (BelowCosts m limit lots)
