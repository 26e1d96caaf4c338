-- A parish as two lists, and what its edits make of them. Assumes nothing.
use Rattle.std.specs.Prelude.{ℕ, ◌≤◌, List, [], ◌∷◌, ◌++◌, length, None, Option, slice_index_or, slice_set}
use Rattle.parish.specs.declared.items.Household.{Household}
use Rattle.parish.specs.declared.items.Link.{Link}
use Rattle.parish.specs.declared.items.Lot.{Lot}
use Rattle.parish.specs.Limits.{most_households, most_links, Weights, Joined}

-- households and links, each numbered by its place
pub record Model : Type 0 where
  pub households : List Household
  pub links : List Link

-- the limits that every parish keeps
pub record Sound (m : Model) : Type 0 where
  pub few : length m.households ≤ most_households
  pub weights : Weights m.households
  pub short : length m.links ≤ most_links
  pub joined : Joined (length m.households) m.links

-- what stands past the end of a list of households
abbrev pub no_household : Household
no_household = record { weight = 0; pin = None }

-- and of a list of links
abbrev pub no_link : Link
no_link = record { from = 0; to = 0; strength = 0 }

-- a parish of no household
abbrev pub no_model : Model
no_model = record { households = []; links = [] }

-- one household more, at the end
abbrev pub with_household : Model → Household → Model
with_household m h = record { households = m.households ++ (h ∷ []); links = m.links }

-- one link more, at the end
abbrev pub with_link : Model → Link → Model
with_link m l = record { households = m.households; links = m.links ++ (l ∷ []) }

-- another pin for household k
abbrev pub with_pin : Model → ℕ → Option Lot → Model
with_pin m k pin =
    record {
      households = slice_set m.households k (record { weight = (slice_index_or m.households k no_household).weight; pin = pin });
      links = m.links;
    }
