-- What charges leave of each link, and the least of it that parts the households set in A from those set in B.
-- Assumes nothing.
use Rattle.std.specs.Prelude.{◌≡◌, ℕ, ◌≤◌, List, length, sum, filter}
use Rattle.parish.specs.Model.{Model}
use Rattle.bisection.specs.Lots.{Bisects, extends, Extends}
use Rattle.bisection.specs.Bisections.{bisections}
use Rattle.bisection.specs.Answers.{least}
use Rattle.bisection.specs.Meanings.{cut_charges}

-- the ways to part the two groups: every bisection that leaves what a list of lots sets
abbrev pub ways : Model → List ℕ → List (List ℕ)
ways m lots = filter (extends lots) (bisections (length m.households))

-- the least that is left of the links cut, over all ways to part the groups; no way cuts more than all links
abbrev pub least_cut : Model → List ℕ → List ℕ → ℕ
least_cut m lots left = least (cut_charges m.links left) (sum left) (ways m lots)

-- the same in words: no way to part the groups cuts less, and one cuts just as much
pub record LeastCut (m : Model) (lots left : List ℕ) (n : ℕ) : Type 0 where
  pub below : (d : List ℕ) → Bisects m d → Extends lots d → n ≤ cut_charges m.links left d
  pub way : List ℕ
  pub whole : Bisects m way
  pub parts : Extends lots way
  pub cuts : cut_charges m.links left way ≡ n
