-- What a parish can hold, and what its calls accept. The two are apart, so that a parish derived from others may one day
-- hold heavier households and stronger links than a call accepts. Assumes nothing.
use Rattle.std.specs.Prelude.{ℕ, ◌<◌, ◌≤◌, List, length, get_or, ◌≢◌, slice_index_or}
use Rattle.parish.specs.declared.items.Household.{Household}
use Rattle.parish.specs.declared.items.Link.{Link}

-- how many households there may be
abbrev pub most_households : ℕ
most_households = 128

-- how many links there may be
abbrev pub most_links : ℕ
most_links = 1024

-- what a parish can hold: the heaviest household
abbrev pub heaviest_held : ℕ
heaviest_held = 10000

-- and the strongest link
abbrev pub strongest_held : ℕ
strongest_held = 1000

-- what a call accepts: the greatest weight
abbrev pub most_weight : ℕ
most_weight = 10000

-- and the greatest strength
abbrev pub most_strength : ℕ
most_strength = 1000

-- and the greatest tolerance, in thousandths
abbrev pub most_tolerance : ℕ
most_tolerance = 1000

-- no household is heavier than a parish can hold
abbrev pub Weights : List Household → Type 0
Weights hs = (k : ℕ) (d : Household) → k < length hs → (get_or hs k d).weight ≤ heaviest_held

-- a link joins two different ones of n households, with a strength of at least 1
abbrev pub Joins : ℕ → Link → Type 0
Joins n l = (l.from < n) × (l.to < n) × (l.from ≢ l.to) × (1 ≤ l.strength) × (l.strength ≤ strongest_held)

-- every link does
abbrev pub Joined : ℕ → List Link → Type 0
Joined n ls = (k : ℕ) (d : Link) → k < length ls → Joins n (slice_index_or ls k d)
