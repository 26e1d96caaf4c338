-- Parishes written out, and what a search of one comes to. Assumes nothing.
use Rattle.std.specs.Prelude.{ℕ, List, [], ◌∷◌, Some, None, Option}
use Rattle.parish.specs.Model.{Model}
use Rattle.parish.specs.Weights.{total_weight, cap_at}
use Rattle.parish.specs.declared.items.Household.{Household}
use Rattle.parish.specs.declared.items.Link.{Link}
use Rattle.parish.specs.declared.items.Lot.TheVariants.{A, B}
use Rattle.bisection.specs.Costs.{cost}
use Rattle.bisection.specs.Answers.{answer}
use Rattle.bisection.specs.Meanings.{Meaning}
use Rattle.search.specs.Nodes.{steps}

-- a free household of weight w
abbrev pub free : ℕ → Household
free w = record { weight = w; pin = None }

-- one that is pinned to A
abbrev pub in_A : ℕ → Household
in_A w = record { weight = w; pin = Some A }

-- one that is pinned to B
abbrev pub in_B : ℕ → Household
in_B w = record { weight = w; pin = Some B }

-- a link between two households, with its strength
abbrev pub link : ℕ → ℕ → ℕ → Link
link from to strength = record { from = from; to = to; strength = strength }

-- four households, the first in A, and a ring of links
abbrev pub worked : Model
worked =
    record {
      households = in_A 3 ∷ free 2 ∷ free 2 ∷ free 3 ∷ [];
      links = link 0 1 4 ∷ link 1 2 1 ∷ link 2 3 4 ∷ link 0 3 1 ∷ [];
    }

-- the cap of a parish at p thousandths
abbrev pub cap_of : Model → ℕ → ℕ
cap_of m p = cap_at (total_weight m.households) p

-- a bisection with its cost
abbrev pub priced : Model → Option (List ℕ) → Option (List ℕ × ℕ)
priced m None = None
priced m (Some d) = Some (d, cost m d)

-- the answer of a parish at p thousandths and under a ceiling, with its cost
abbrev pub priced_answer : Model → ℕ → ℕ → Option (List ℕ × ℕ)
priced_answer m p ceiling = priced m (answer m (cap_of m p) ceiling)

-- the steps of a search over a bound
abbrev pub steps_over : Meaning → Model → ℕ → ℕ → ℕ
steps_over M m p ceiling = steps M.number m (cap_of m p) ceiling
