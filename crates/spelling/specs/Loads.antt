-- What a load of two sheets gives: the parish that they spell, or the first fault. Assumes nothing.
use Rattle.std.specs.Prelude.{ℕ, List, length, Ok, Err, Result}
use Rattle.parish.specs.Model.{Model, no_model}
use Rattle.spelling.specs.declared.counts.Counts.{Counts}
use Rattle.faults.specs.declared.LoadFault.{LoadFault}
use Rattle.spelling.specs.Kinds.{households_kind, links_kind}
use Rattle.spelling.specs.Lines.{and_then, sheet_read}

-- the households sheet whole, then the links sheet
abbrev pub loaded : List ℕ → List ℕ → Result Model LoadFault
loaded households links = and_then (sheet_read households_kind no_model households) (λ m. sheet_read links_kind m links)

-- how many households and links there are
abbrev pub counts_of : Model → Counts
counts_of m = record { households = length m.households; links = length m.links }

-- a good load leaves the parish that the sheets spell; a bad one the parish that was there
abbrev pub load_leaves : Result Model LoadFault → Model → Model
load_leaves (Ok m) before = m
load_leaves (Err f) before = before
