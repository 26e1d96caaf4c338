-- What a layer owes that adds to the number and the charges of the bound below it. Assumes nothing.
use Rattle.std.specs.Prelude.{◌≡◌, ℕ, ◌+◌, ◌≤◌, List, [], ◌∷◌, length, sum, slice_index}
use Rattle.parish.specs.Model.{Model, Sound}
use Rattle.bisection.specs.Lots.{Lots, Bisects, Extends}
use Rattle.bisection.specs.Weights.{Balanced}
use Rattle.bisection.specs.Meanings.{Meaning, cut_charges}
use Rattle.bounds.specs.Bounds.{strengths, Bounds}

-- charges on top of charges
abbrev pub added : List ℕ → List ℕ → List ℕ
added [] es = []
added (c ∷ cs) [] = c ∷ cs
added (c ∷ cs) (e ∷ es) = (c + e) ∷ added cs es

-- what is added is no more than the charges below leave of each link, and the cut links pay for it
pub record Adds (m : Model) (limit : ℕ) (lots below : List ℕ) (v : ℕ) (extra : List ℕ) : Type 0 where
  pub long : length extra ≡ length m.links
  pub left : (k : ℕ) → slice_index below k + slice_index extra k ≤ slice_index (strengths m.links) k
  pub charged : v ≤ sum extra
  pub paid : (d : List ℕ) → Bisects m d → Extends lots d → Balanced m limit d → v ≤ cut_charges m.links extra d

-- over any bound, what is so added gives a bound again
abbrev pub LayersAdd : Type 0
LayersAdd =
    (m : Model) (limit : ℕ) (lots : List ℕ) (n v : ℕ) (below extra : List ℕ)
    → Bounds m limit lots n below → Adds m limit lots below v extra → Bounds m limit lots (n + v) (added below extra)

-- what a layer adds to a number and to the charges below it, at each parish, limit, list of lots and charges below
pub record Addition : Type 0 where
  pub number : Model → ℕ → List ℕ → List ℕ → ℕ
  pub charges : Model → ℕ → List ℕ → List ℕ → List ℕ

-- what a layer that adds so much means, over a bound
abbrev pub over : Addition → Meaning → Meaning
over layer below =
    record {
      number = λ m limit lots. below.number m limit lots + layer.number m limit lots (below.charges m limit lots);
      charges = λ m limit lots. added (below.charges m limit lots) (layer.charges m limit lots (below.charges m limit lots));
    }

-- it keeps what it owes over any charges that are within the strengths
abbrev pub IsLayer : Addition → Type 0
IsLayer layer =
    (m : Model) (limit : ℕ) (lots below : List ℕ) → Sound m → Lots m lots → ((k : ℕ) → slice_index below k ≤ slice_index (strengths m.links) k)
    → Adds m limit lots below (layer.number m limit lots below) (layer.charges m limit lots below)
