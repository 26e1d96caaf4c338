-- What the packing layer means, over any lower bound and for a home lot. Assumes nothing.
use Rattle.std.specs.Prelude.{ℕ, List}
use Rattle.parish.specs.declared.items.Lot.{Lot}
use Rattle.bisection.specs.Meanings.{Meaning}
use Rattle.bisection.specs.Weights.{least_lot_weight}
use Rattle.bounds.specs.Adding.{Addition, over}
use Rattle.forest.specs.Grounds.{Ground, ground_for}
use Rattle.forest.specs.Forests.{Forest, forest}
use Rattle.forest.specs.Fewest.{target, fewest}

-- what is added to each charge: 1 for each root link and tree link
abbrev pub packed_charges : Ground → List ℕ
packed_charges G = (forest G).taken

-- what is added to the number: the fewest trees that reach the target
abbrev pub packed_number : Ground → ℕ → ℕ
packed_number G least_weight = let F : Forest = forest G in fewest G F (target G F least_weight)

-- both, on the ground that the charges below leave
abbrev pub packing_addition : Lot → Addition
packing_addition home =
    record {
      number = λ m limit lots below. packed_number (ground_for home m lots below) (least_lot_weight m limit);
      charges = λ m limit lots below. packed_charges (ground_for home m lots below);
    }

-- are added to what a bound answers
abbrev pub packing_over : Lot → Meaning → Meaning
packing_over home below = over (packing_addition home) below
