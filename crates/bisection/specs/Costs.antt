-- What a bisection costs. Assumes nothing.
use Rattle.std.specs.Prelude.{ℕ, Bool, cond, not, List, sum_by, ◌==◌, slice_index}
use Rattle.parish.specs.Model.{Model}
use Rattle.parish.specs.declared.items.Link.{Link}

-- the two ends of a link lie in different lots
abbrev pub cut : List ℕ → Link → Bool
cut d l = not (slice_index d l.from == slice_index d l.to)

-- what a link adds to the cost: its strength where it is cut
abbrev pub cut_strength : List ℕ → Link → ℕ
cut_strength d l = cond (cut d l) l.strength 0

-- the summed strength of the links between the lots
abbrev pub cost : Model → List ℕ → ℕ
cost m d = sum_by (cut_strength d) m.links
