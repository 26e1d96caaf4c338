-- What each edit of a parish answers: its table of refusals, and what it leaves. Assumes nothing.
use Rattle.std.specs.Prelude.{◌≡◌, ℕ, ◌||◌, List, [], ◌∷◌, length, Some, None, Ok, Err, Option, Result, ◌==◌, nat_le, nat_lt}
use Rattle.parish.specs.declared.items.Link.{Link}
use Rattle.parish.specs.declared.refusals.Refusal.{Refusal}
use Rattle.parish.specs.declared.refusals.Refusal.TheVariants.{OutsideLimits, NoHousehold, SelfLink, ParishFull}
use Rattle.parish.specs.Limits.{most_households, most_links, most_weight, most_strength}
use Rattle.parish.specs.Model.{Model}
use Rattle.parish.specs.Refusals.{Row, first_applying}

-- why a household of a weight is refused
abbrev pub household_table : Model → ℕ → List Row
household_table m weight =
    record { applies = nat_lt most_weight weight; refusal = OutsideLimits }
    ∷ (record { applies = nat_le most_households (length m.households); refusal = ParishFull }
    ∷ [])

-- why a link is refused
abbrev pub link_table : Model → Link → List Row
link_table m l =
    record { applies = nat_lt l.strength 1 || nat_lt most_strength l.strength; refusal = OutsideLimits }
    ∷ (record { applies = nat_le (length m.households) l.from || nat_le (length m.households) l.to; refusal = NoHousehold }
    ∷ (record { applies = (l.from == l.to); refusal = SelfLink }
    ∷ (record { applies = nat_le most_links (length m.links); refusal = ParishFull }
    ∷ [])))

-- why a pin is refused
abbrev pub pin_table : Model → ℕ → List Row
pin_table m household = record { applies = nat_le (length m.households) household; refusal = NoHousehold } ∷ []

-- a refusal is answered, or else the value
abbrev pub answer_by : {X E : Type 0} → Option E → X → Result X E
answer_by None x = Ok x
answer_by (Some e) x = Err e

-- what a call answers by its table
abbrev pub answered : {X : Type 0} → List Row → X → Result X Refusal
answered rows x = answer_by (first_applying rows) x

-- a refusal leaves what was there
abbrev pub left_by : {X E : Type 0} → Option E → X → X → X
left_by None before changed = changed
left_by (Some e) before changed = before

-- an edit answers by its table, and changes the parish only where it does not refuse
pub record Edited {X : Type 0} (rows : List Row) (value : X) (before changed after : Model) (r : Result X Refusal) : Type 0 where
  pub answer : r ≡ answered rows value
  pub leaves : after ≡ left_by (first_applying rows) before changed
