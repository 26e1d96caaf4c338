-- The least cost, and the answer of a search. Assumes nothing.
use Rattle.std.specs.Prelude.{◌≡◌, ℕ, ◌<◌, ◌≤◌, min, true, cond, List, [], ◌∷◌, Some, None, Option, nat_lt}
use Rattle.parish.specs.Model.{Model}
use Rattle.bisection.specs.Costs.{cost}
use Rattle.bisection.specs.Bisections.{Lawful, lawful_bisections, before}

-- the least of u and of the costs in a list
abbrev pub least : {X : Type 0} → (X → ℕ) → ℕ → List X → ℕ
least f u [] = u
least f u (x ∷ xs) = least f (min u (f x)) xs

-- x, unless there is another
abbrev pub or_else : {X : Type 0} → X → Option X → Option X
or_else x None = Some x
or_else x (Some y) = Some y

-- the first of least cost in a list, where that is below u: x, unless a later one costs less
abbrev pub first_least : {X : Type 0} → (X → ℕ) → ℕ → List X → Option X
first_least f u [] = None
first_least f u (x ∷ xs) = cond (nat_lt (f x) u) (or_else x (first_least f (f x) xs)) (first_least f u xs)

-- the first lawful bisection of least cost, where that is below the ceiling
abbrev pub answer : Model → ℕ → ℕ → Option (List ℕ)
answer m limit ceiling = first_least (cost m) ceiling (lawful_bisections m limit)

-- the same in words: a lawful bisection below the ceiling, such that no lawful one costs less, and none that comes
-- before it costs as little
pub record Answers (m : Model) (limit ceiling : ℕ) (d : List ℕ) : Type 0 where
  pub is_lawful : Lawful m limit d
  pub below_ceiling : cost m d < ceiling
  pub least_cost : (e : List ℕ) → Lawful m limit e → cost m d ≤ cost m e
  pub comes_first : (e : List ℕ) → Lawful m limit e → before e d ≡ true → cost m d < cost m e

-- no lawful bisection costs less than the ceiling
abbrev pub NoneBelow : Model → ℕ → ℕ → Type 0
NoneBelow m limit ceiling = (d : List ℕ) → Lawful m limit d → ceiling ≤ cost m d
