-- The parish that a question is asked of. Assumes nothing.
use Rattle.std.specs.Prelude.{ℕ, List, map, None}
use Rattle.parish.specs.Model.{Model}
use Rattle.parish.specs.declared.items.Household.{Household}
use Rattle.parish.specs.declared.items.Link.{Link}

-- a household of a weight, without a pin
abbrev pub unpinned : ℕ → Household
unpinned weight = record { weight = weight; pin = None }

-- the parish of weights and links
abbrev pub parish_of : List ℕ → List Link → Model
parish_of weights links = record { households = map unpinned weights; links = links }
