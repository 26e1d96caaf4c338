-- The weight of a parish, and the cap on a lot. Assumes nothing.
use Rattle.std.specs.Prelude.{ℕ, ◌+◌, ◌*◌, ◌/◌, List, [], ◌∷◌, sum_by, nat_lt}
use Rattle.parish.specs.declared.items.Household.{Household}
use Rattle.parish.specs.declared.refusals.Refusal.TheVariants.{OutsideLimits}
use Rattle.parish.specs.Limits.{most_tolerance}
use Rattle.parish.specs.Refusals.{Row}

-- the weight of all households
abbrev pub total_weight : List Household → ℕ
total_weight hs = sum_by (λ (h : Household). h.weight) hs

-- half a weight, rounded up
abbrev pub half_up : ℕ → ℕ
half_up w = (w + 1) / 2

-- what a lot may weigh, of a total weight w, at p thousandths above half: the whole part of (1000 + p) × half / 1000
abbrev pub cap_at : ℕ → ℕ → ℕ
cap_at w p = (1000 + p) * half_up w / 1000

-- why a tolerance is refused
abbrev pub cap_table : ℕ → List Row
cap_table p = record { applies = nat_lt most_tolerance p; refusal = OutsideLimits } ∷ []
