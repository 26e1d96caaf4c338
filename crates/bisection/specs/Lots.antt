-- Lists of lots: a byte for each household, 0 unset, 1 in lot A, 2 in lot B. Assumes nothing.
use Rattle.std.specs.Prelude.{◌≡◌, ℕ, ◌<◌, ◌≤◌, Bool, true, not, ◌&&◌, ◌||◌, List, [], ◌∷◌, map, length, Some, None, Option, ◌==◌, nat_le, slice_index}
use Rattle.std.specs.List.{list_all}
use Rattle.parish.specs.Lots.{lot_byte}
use Rattle.parish.specs.Model.{Model}
use Rattle.parish.specs.Refusals.{Row}
use Rattle.parish.specs.declared.items.Household.{Household}
use Rattle.parish.specs.declared.items.Lot.{Lot}
use Rattle.parish.specs.declared.refusals.Refusal.TheVariants.{WrongList}

-- the byte of a pin: 0 where there is none
abbrev pub pin_byte : Option Lot → ℕ
pin_byte None = 0
pin_byte (Some lot) = lot_byte lot

-- the pins of households, in their order
abbrev pub pins_in : List Household → List (Option Lot)
pins_in hs = map (λ (h : Household). h.pin) hs

-- the pins of a parish
abbrev pub pins : Model → List (Option Lot)
pins m = pins_in m.households

-- the list of lots that sets the pins and nothing else
abbrev pub pinned : Model → List ℕ
pinned m = map pin_byte (pins m)

-- every byte of a list is 0, 1 or 2
abbrev pub allowed : List ℕ → Bool
allowed xs = list_all (λ x. nat_le x 2) xs

-- a list has a byte for each household, and no byte above 2
abbrev pub lots_fit : Model → List ℕ → Bool
lots_fit m lots = length lots == length m.households && allowed lots

-- the same in words; past the end of a list stands 0
pub record Lots (m : Model) (lots : List ℕ) : Type 0 where
  pub long : length lots ≡ length m.households
  pub small : (k : ℕ) → slice_index lots k ≤ 2

-- what reads a list of lots refuses
abbrev pub lots_table : Model → List ℕ → List Row
lots_table m lots = record { applies = not (lots_fit m lots); refusal = WrongList } ∷ []

-- every byte of a list is 1 or 2
abbrev pub all_set : List ℕ → Bool
all_set xs = list_all (λ x. x == 1 || x == 2) xs

-- a bisection puts every household in A or B
abbrev pub bisects : Model → List ℕ → Bool
bisects m d = length d == length m.households && all_set d

-- the same in words
pub record Bisects (m : Model) (d : List ℕ) : Type 0 where
  pub long : length d ≡ length m.households
  pub set_each : (k : ℕ) → k < length d → (1 ≤ slice_index d k) × (slice_index d k ≤ 2)

-- a list of lots leaves what another sets; past the end of a list stands 0
abbrev pub extends : List ℕ → List ℕ → Bool
extends [] d = true
extends (x ∷ xs) [] = x == 0 && extends xs []
extends (x ∷ xs) (y ∷ d) = (x == 0 || y == x) && extends xs d

-- the same in words
abbrev pub Extends : List ℕ → List ℕ → Type 0
Extends lots d = (k : ℕ) → 1 ≤ slice_index lots k → slice_index d k ≡ slice_index lots k
