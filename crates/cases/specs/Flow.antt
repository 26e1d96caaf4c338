-- The worked case of flow. Assumes nothing.
use Rattle.std.specs.Prelude.{◌≡◌, [], ◌∷◌}
use Rattle.bisection.specs.Meanings.{bare}
use Rattle.flows.specs.Layers.{flow_over}
use Rattle.cases.specs.Parishes.{worked}

-- in the worked parish, with household 0 in A and household 3 in B, at the cap of tolerance 0
pub record FlowCase : Type 0 where
  pub flow_number : (flow_over bare).number worked 5 (1 ∷ 0 ∷ 0 ∷ 2 ∷ []) ≡ 2
  pub flow_charges : (flow_over bare).charges worked 5 (1 ∷ 0 ∷ 0 ∷ 2 ∷ []) ≡ 1 ∷ 1 ∷ 1 ∷ 1 ∷ []
