-- The worked cases: those that speak of no flow and no packing. Assumes nothing.
use Rattle.std.specs.Prelude.{◌≡◌, ℕ, List, [], ◌∷◌, Some, None, Option}
use Rattle.parish.specs.Model.{Model, no_model}
use Rattle.parish.specs.Weights.{total_weight, cap_at}
use Rattle.bisection.specs.Meanings.{Meaning, bare, decided}
use Rattle.cases.specs.Parishes.{free, link, worked, priced_answer, steps_over}

-- two households of weight 1 and a link between them
abbrev pub pair : Model
pair = record { households = free 1 ∷ free 1 ∷ []; links = link 0 1 1 ∷ [] }

-- two households of weights 10 and 1, and no link
abbrev pub uneven : Model
uneven = record { households = free 10 ∷ free 1 ∷ []; links = [] }

-- a search at tolerance 0: its answer with the cost, and its steps
pub record Ends (M : Meaning) (m : Model) (ceiling : ℕ) (found : Option (List ℕ × ℕ)) (n : ℕ) : Type 0 where
  pub answers : priced_answer m 0 ceiling ≡ found
  pub in_steps : steps_over M m 0 ceiling ≡ n

-- the cases
pub record WorkedCases : Type 0 where
  pub weighs_10 : total_weight worked.households ≡ 10
  pub cap_of_10_at_0 : cap_at 10 0 ≡ 5
  pub cap_of_10_at_50 : cap_at 10 50 ≡ 5
  pub cap_of_10_at_1000 : cap_at 10 1000 ≡ 10
  pub cap_of_7_at_0 : cap_at 7 0 ≡ 4
  pub over_bare : Ends bare worked 100 (Some (1 ∷ 1 ∷ 2 ∷ 2 ∷ [], 2)) 13
  pub over_decided : Ends decided worked 100 (Some (1 ∷ 1 ∷ 2 ∷ 2 ∷ [], 2)) 7
  pub ceiling_2 : Ends decided worked 2 None 7
  pub two_alike : Ends bare pair 100 (Some (1 ∷ 2 ∷ [], 1)) 7
  pub two_uneven : Ends bare uneven 100 None 3
  pub nobody : Ends bare no_model 100 (Some ([], 0)) 1
