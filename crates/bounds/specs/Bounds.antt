-- What a number and charges must satisfy to bound the cost of bisections from below. Assumes nothing.
use Rattle.std.specs.Prelude.{◌≡◌, ℕ, ◌*◌, ◌≤◌, List, map, length, sum, slice_index}
use Rattle.parish.specs.Limits.{most_links, strongest_held}
use Rattle.parish.specs.Model.{Model, Sound}
use Rattle.parish.specs.declared.items.Link.{Link}
use Rattle.bisection.specs.Lots.{Lots, Bisects, Extends}
use Rattle.bisection.specs.Weights.{Balanced}
use Rattle.bisection.specs.Costs.{cost}
use Rattle.bisection.specs.Meanings.{Number, Meaning, cut_charges}

-- the strength of each link
abbrev pub strengths : List Link → List ℕ
strengths ls = map (λ (l : Link). l.strength) ls

-- the law of a lower bound, at one parish, limit on the lots and list of lots
pub record Bounds (m : Model) (limit : ℕ) (lots : List ℕ) (number : ℕ) (charges : List ℕ) : Type 0 where
  -- there is a charge for each link
  pub long : length charges ≡ length m.links
  -- no charge exceeds its link's strength
  pub within : (k : ℕ) → slice_index charges k ≤ slice_index (strengths m.links) k
  -- the number is at most the sum of all charges
  pub charged : number ≤ sum charges
  -- for every bisection that extends the list and keeps both lots within the limit, the charges of its cut links sum to the
  -- number or more
  pub paid : (d : List ℕ) → Bisects m d → Extends lots d → Balanced m limit d → number ≤ cut_charges m.links charges d

-- what a lower bound means keeps the law everywhere
abbrev pub IsLowerBound : Meaning → Type 0
IsLowerBound B =
    (m : Model) (limit : ℕ) (lots : List ℕ) → Sound m → Lots m lots
    → Bounds m limit lots (B.number m limit lots) (B.charges m limit lots)

-- a number that keeps the law everywhere, with some charges
abbrev pub Lower : Number → Type 0
Lower number =
    (m : Model) (limit : ℕ) (lots : List ℕ) → Sound m → Lots m lots
    → (charges : List ℕ) × Bounds m limit lots (number m limit lots) charges

-- a number is at most the cost of every bisection that extends the list and keeps both lots within the limit
abbrev pub BelowCosts : Model → ℕ → List ℕ → ℕ → Type 0
BelowCosts m limit lots n = (d : List ℕ) → Bisects m d → Extends lots d → Balanced m limit d → n ≤ cost m d

-- in a parish that keeps its limits, what a bound answers fits 32 bits: no charge exceeds the strongest link that a parish
-- can hold, and no number that of as many links as it can hold
abbrev pub NumbersFit : Type 0
NumbersFit =
    (m : Model) (limit : ℕ) (lots : List ℕ) (number : ℕ) (charges : List ℕ) → Sound m → Bounds m limit lots number charges
    → (number ≤ strongest_held * most_links) × ((k : ℕ) → slice_index charges k ≤ strongest_held)
