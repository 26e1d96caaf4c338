-- What the lots of a list weigh. Assumes nothing.
use Rattle.std.specs.Prelude.{ℕ, ◌+◌, ◌-◌, ◌≤◌, Bool, cond, ◌&&◌, List, [], ◌∷◌, ◌==◌, nat_le}
use Rattle.parish.specs.Model.{Model}
use Rattle.parish.specs.Weights.{total_weight}
use Rattle.parish.specs.declared.items.Household.{Household}

-- the weight of the households that a list of lots has in one lot
abbrev pub lot_weight : ℕ → List Household → List ℕ → ℕ
lot_weight lot [] lots = 0
lot_weight lot (h ∷ hs) [] = 0
lot_weight lot (h ∷ hs) (x ∷ lots) = cond (x == lot) h.weight 0 + lot_weight lot hs lots

-- what a lot weighs at least, where neither weighs more than the limit: the total less the limit, or 0
abbrev pub least_lot_weight : Model → ℕ → ℕ
least_lot_weight m limit = total_weight m.households - limit

-- no lot weighs more than the limit
abbrev pub balanced : Model → ℕ → List ℕ → Bool
balanced m limit lots = nat_le (lot_weight 1 m.households lots) limit && nat_le (lot_weight 2 m.households lots) limit

-- the same in words
pub record Balanced (m : Model) (limit : ℕ) (lots : List ℕ) : Type 0 where
  pub light_A : lot_weight 1 m.households lots ≤ limit
  pub light_B : lot_weight 2 m.households lots ≤ limit
