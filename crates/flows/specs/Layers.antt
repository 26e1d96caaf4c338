-- What the flow layer means, over any lower bound. Assumes nothing.
use Rattle.bisection.specs.Meanings.{Meaning}
use Rattle.bounds.specs.Adding.{Addition, over}
use Rattle.bounds.specs.Left.{left_of}
use Rattle.flows.specs.Cuts.{least_cut}
use Rattle.flows.specs.Levels.{flow_charges}

-- the least cut of what the charges below leave is added to the number, and the amounts of a greatest flow to the charges
abbrev pub flow_addition : Addition
flow_addition =
    record {
      number = λ m limit lots below. least_cut m lots (left_of m.links below);
      charges = λ m limit lots below. flow_charges m lots (left_of m.links below);
    }

-- to what a bound answers
abbrev pub flow_over : Meaning → Meaning
flow_over below = over flow_addition below
