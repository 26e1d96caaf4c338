-- What the flow layer adds, in words. Assumes nothing.
use Rattle.std.specs.Prelude.{◌≡◌, ℕ, ◌+◌, ◌<◌, ◌⊎◌, List, length, ◌≢◌, slice_index}
use Rattle.parish.specs.Model.{Model, Sound}
use Rattle.bisection.specs.Lots.{Lots}
use Rattle.bisection.specs.Meanings.{Meaning}
use Rattle.bounds.specs.Bounds.{Bounds}
use Rattle.flows.specs.Cuts.{least_cut, LeastCut}
use Rattle.flows.specs.Flows.{Flow, given_by, taken_by, IsGreatest}
use Rattle.flows.specs.Paths.{flow_of}
use Rattle.flows.specs.Rounds.{Search, last_room, Searches}
use Rattle.flows.specs.Levels.{chosen_flow, flow_charges}
use Rattle.flows.specs.Layers.{flow_over}

-- a greatest flow, and it is as much as the least cut: what A gives, less what it takes in
pub record GreatestAsLeast (m : Model) (lots left : List ℕ) (f : Flow) : Type 0 where
  pub greatest : IsGreatest m lots left f
  pub value : given_by m lots 1 f ≡ least_cut m lots left + taken_by m lots 1 f

-- whatever searches, if it only sends along ways and ends where a side is shut, the room at the end shows such a flow
abbrev pub AnySearch : Type 0
AnySearch =
    (m : Model) (lots left : List ℕ) (seek : Search) → Sound m → Lots m lots → length left ≡ length m.links
    → Searches m.links lots left seek → GreatestAsLeast m lots left (flow_of left (last_room seek left))

-- what is added at a question, where so much is left of each link
pub record FlowLaw (m : Model) (lots left : List ℕ) : Type 0 where
  -- the number is the least that is cut, over all ways to part the groups
  pub number : LeastCut m lots left (least_cut m lots left)
  -- there is a charge for each link, the amount that the chosen flow puts on it
  pub long : length (flow_charges m lots left) ≡ length m.links
  pub charges : (k : ℕ) → k < length m.links
      → slice_index (flow_charges m lots left) k ≡ (chosen_flow m lots left).along k + (chosen_flow m lots left).against k
  -- which is a greatest flow
  pub flow : GreatestAsLeast m lots left (chosen_flow m lots left)
  -- where no household is set in A, or none in B, nothing is added
  pub one_group : (lot : ℕ) → (lot ≡ 1) ⊎ (lot ≡ 2) → ((v : ℕ) → slice_index lots v ≢ lot)
      → (least_cut m lots left ≡ 0) × ((k : ℕ) → slice_index (flow_charges m lots left) k ≡ 0)

-- for every question
abbrev pub FlowLaws : Type 0
FlowLaws =
    (m : Model) (lots left : List ℕ) → Sound m → Lots m lots → length left ≡ length m.links → FlowLaw m lots left

-- what is added depends on parish, lots and the charges below alone
abbrev pub SameFlow : Type 0
SameFlow =
    (B C : Meaning) (m : Model) (limit other : ℕ) (lots : List ℕ) → B.charges m limit lots ≡ C.charges m other lots
    → (C.number m other lots + (flow_over B).number m limit lots ≡ B.number m limit lots + (flow_over C).number m other lots)
    × ((flow_over B).charges m limit lots ≡ (flow_over C).charges m other lots)

-- over a lower bound, the layer is one again
abbrev pub FlowBounds : Type 0
FlowBounds =
    (B : Meaning) (m : Model) (limit : ℕ) (lots : List ℕ) → Sound m → Lots m lots
    → Bounds m limit lots (B.number m limit lots) (B.charges m limit lots)
    → Bounds m limit lots ((flow_over B).number m limit lots) ((flow_over B).charges m limit lots)
