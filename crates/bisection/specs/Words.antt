-- What the definitions say, in words. Assumes nothing.
use Rattle.std.specs.Prelude.{ℕ, ◌≤◌, List, Decides, slice_index}
use Rattle.parish.specs.Model.{Model}
use Rattle.bisection.specs.Lots.{lots_fit, Lots}
use Rattle.bisection.specs.Weights.{lot_weight, least_lot_weight}
use Rattle.bisection.specs.Bisections.{lawful, Lawful, before, ComesBefore}

-- a list of lots fits a parish, by test and in words
abbrev pub LotsInWords : Type 0
LotsInWords = (m : Model) (lots : List ℕ) → Decides (lots_fit m lots) (Lots m lots)

-- a bisection is lawful, by test and in words
abbrev pub LawfulInWords : Type 0
LawfulInWords = (m : Model) (limit : ℕ) (d : List ℕ) → Decides (lawful m limit d) (Lawful m limit d)

-- a bisection comes before a list of lots, by test and in words
abbrev pub BeforeInWords : Type 0
BeforeInWords = (d lots : List ℕ) → ((k : ℕ) → slice_index lots k ≤ 2) → Decides (before d lots) (ComesBefore d lots)

-- each lot of a lawful bisection weighs at least the least lot weight
abbrev pub LeastLotWeight : Type 0
LeastLotWeight =
    (m : Model) (limit : ℕ) (d : List ℕ) → Lawful m limit d
    → (least_lot_weight m limit ≤ lot_weight 1 m.households d) × (least_lot_weight m limit ≤ lot_weight 2 m.households d)
