-- Why a layer may only add what the charges below it leave: two bounds, each right, whose sum on full strengths is wrong.
-- Assumes nothing.
use Rattle.std.specs.Prelude.{◌≡◌, ℕ, ◌+◌, List, [], ◌∷◌}
use Rattle.bisection.specs.Lots.{Extends}
use Rattle.bisection.specs.Costs.{cost}
use Rattle.bisection.specs.Bisections.{Lawful}
use Rattle.bisection.specs.Meanings.{decided}
use Rattle.bounds.specs.Bounds.{Bounds}
use Rattle.cases.specs.Parishes.{worked}

-- household 0 in A, 3 in B
abbrev pub ends_set : List ℕ
ends_set = 1 ∷ 0 ∷ 0 ∷ 2 ∷ []

-- a bisection that keeps them
abbrev pub halves : List ℕ
halves = 1 ∷ 1 ∷ 2 ∷ 2 ∷ []

-- each of the two is a lower bound, and their sum is none
pub record FullStrengthsDoNotAdd : Type 0 where
  -- two links must be cut to part 0 from 3: along each way round the ring one
  pub parting : Bounds worked 5 ends_set 2 (1 ∷ 1 ∷ 1 ∷ 1 ∷ [])
  -- the link between 0 and 3 is decided
  pub decided_alone : Bounds worked 5 ends_set 1 (decided.charges worked 5 ends_set)
  pub decided_number : decided.number worked 5 ends_set ≡ 1
  -- a lawful bisection that extends the list costs 2
  pub lawful_halves : Lawful worked 5 halves
  pub extending : Extends ends_set halves
  pub costs_2 : cost worked halves ≡ 2
  -- so the sum, 3, is no lower bound, whatever is charged
  pub unsound : (charges : List ℕ) → Bounds worked 5 ends_set (2 + 1) charges → ⊥
