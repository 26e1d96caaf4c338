-- What counting trees asks. Assumes nothing.
use Rattle.std.specs.Prelude.{◌≡◌, ℕ, ◌<◌, ◌≤◌, Bool, cond, ◌||◌, List, Some, None, Option}
use Rattle.bounds.specs.Sums.{sum_below}
use Rattle.forest.specs.Searches.{count_below}
use Rattle.forest.specs.Grounds.{Ground}
use Rattle.forest.specs.Forests.{Forest, outside}
use Rattle.forest.specs.Fewest.{choice_weight}
use Rattle.packing.specs.declared.growth.Tree.{Tree}
use Rattle.packing.specs.Stands.{held_weight}

-- what a household takes from the target: its weight where it is set in the other lot, or unset in no tree
abbrev pub weight_off : Ground → Forest → ℕ → ℕ
weight_off G F v = cond (G.away v || outside G F v) (G.weight v) 0

-- of the first n trees the place of the heaviest, or none where no weight is above 0
abbrev pub Heaviest : List Tree → ℕ → Option ℕ → Type 0
Heaviest trees n None = (k : ℕ) → k < n → held_weight trees k ≡ 0
Heaviest trees n (Some i) = (i < n) × (0 < held_weight trees i) × ((k : ℕ) → k < n → held_weight trees k ≤ held_weight trees i)

-- c is the fewest of n weights that reach a goal; or all together do not reach it, and c is the number of all trees
pub record Counted (n : ℕ) (w : ℕ → ℕ) (trees goal c : ℕ) : Type 0 where
  pub short : sum_below n w < goal → c ≡ trees
  pub fewer : goal ≤ sum_below n w → (p : ℕ → Bool) → goal ≤ choice_weight n w p → c ≤ count_below p n
  pub choice : goal ≤ sum_below n w → (p : ℕ → Bool) × (goal ≤ choice_weight n w p) × (count_below p n ≤ c)
