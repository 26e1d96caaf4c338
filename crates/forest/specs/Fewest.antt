-- The fewest trees whose weights reach a target. Assumes nothing.
use Rattle.std.specs.Prelude.{◌≡◌, ℕ, ◌-◌, ◌<◌, ◌≤◌, Bool, true, cond, List, length, sum_by, filter, nat_le}
use Rattle.bisection.specs.Answers.{least}
use Rattle.bounds.specs.Sums.{sum_below}
use Rattle.forest.specs.Searches.{count_below, those_below, sublists}
use Rattle.forest.specs.Grounds.{Ground, weight_of}
use Rattle.forest.specs.Forests.{Forest, is_root, outside, tree_weight}

-- the target: the least that a lot weighs, less the weight set in the other lot, less the unset weight in no tree; 0 if that
-- is negative
abbrev pub target : Ground → Forest → ℕ → ℕ
target G F least_weight = least_weight - weight_of G G.away - weight_of G (outside G F)

-- the trees, by their roots
abbrev pub roots : Ground → List ℕ
roots G = those_below (is_root G) G.households

-- the fewest trees whose weights reach a goal, or all trees where none suffice
abbrev pub fewest : Ground → Forest → ℕ → ℕ
fewest G F goal =
    least (λ s. length s) (length (roots G)) (filter (λ s. nat_le goal (sum_by (tree_weight G F) s)) (sublists (roots G)))

-- the same in words, for n weights of which some are those of trees. What a choice of trees weighs
abbrev pub choice_weight : ℕ → (ℕ → ℕ) → (ℕ → Bool) → ℕ
choice_weight n w p = sum_below n (λ r. cond (p r) (w r) 0)

-- some trees reach the goal: c of them do, and no fewer; or all together do not, and c is the number of all
pub record Fewest (n : ℕ) (w : ℕ → ℕ) (tree : ℕ → Bool) (goal c : ℕ) : Type 0 where
  pub fewer : (p : ℕ → Bool) → ((r : ℕ) → r < n → p r ≡ true → tree r ≡ true) → goal ≤ choice_weight n w p → c ≤ count_below p n
  pub choice : goal ≤ choice_weight n w tree
      → (p : ℕ → Bool) × ((r : ℕ) → r < n → p r ≡ true → tree r ≡ true) × (goal ≤ choice_weight n w p) × (count_below p n ≡ c)
  pub all : choice_weight n w tree < goal → c ≡ count_below tree n
