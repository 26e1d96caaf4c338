-- The numbers of the refusals, and a table of them read from the top. Assumes nothing.
use Rattle.std.specs.Prelude.{ℕ, Bool, cond, List, [], ◌∷◌, Some, None, Option}
use Rattle.parish.specs.declared.refusals.Refusal.{Refusal}
use Rattle.parish.specs.declared.refusals.Refusal.TheVariants.{SearchOpen, NoSearch, WrongList, AllowanceSpent, OutsideLimits, NoHousehold, SelfLink, ParishFull, WrongNames, WrongCount, WrongField}

-- the number that a refusal answers
abbrev pub refusal_number : Refusal → ℕ
refusal_number SearchOpen = 1
refusal_number NoSearch = 2
refusal_number WrongList = 3
refusal_number AllowanceSpent = 4
refusal_number OutsideLimits = 5
refusal_number NoHousehold = 6
refusal_number SelfLink = 7
refusal_number ParishFull = 8
refusal_number WrongNames = 9
refusal_number WrongCount = 10
refusal_number WrongField = 11

-- a row of a table of refusals: where its condition holds, its refusal is given
pub record Row : Type 0 where
  pub applies : Bool
  pub refusal : Refusal

-- the refusal of the first row that applies; none where no row does
abbrev pub first_applying : List Row → Option Refusal
first_applying [] = None
first_applying (r ∷ rs) = cond r.applies (Some r.refusal) (first_applying rs)
