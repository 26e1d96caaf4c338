-- The laws of the search, in words. Assumes nothing.
use Rattle.std.specs.Prelude.{◌≡◌, ℕ, ◌<◌, ◌≤◌, true, false, ◌⊎◌, List, [], ◌∷◌, ◌++◌, length, Some, None, Decides}
use Rattle.parish.specs.Model.{Model, Sound}
use Rattle.parish.specs.declared.items.Lot.{Lot}
use Rattle.bisection.specs.Lots.{pins, pinned, Bisects, Extends}
use Rattle.bisection.specs.Weights.{Balanced}
use Rattle.bisection.specs.Costs.{cost}
use Rattle.bisection.specs.Bisections.{Lawful, before}
use Rattle.bisection.specs.Answers.{answer, Answers, NoneBelow}
use Rattle.bisection.specs.Meanings.{Number}
use Rattle.bounds.specs.Bounds.{Lower}
use Rattle.search.specs.Nodes.{free, lots_of, stands, standing}
use Rattle.search.specs.Walking.{pruned_walk}

-- ---- the answer
-- it is the first lawful bisection of least cost below the ceiling, and there is none exactly where there is no such
pub record Answered (m : Model) (limit ceiling : ℕ) : Type 0 where
  pub found : (d : List ℕ) → answer m limit ceiling ≡ Some d → Answers m limit ceiling d
  pub only : (d : List ℕ) → Answers m limit ceiling d → answer m limit ceiling ≡ Some d
  pub none_below : answer m limit ceiling ≡ None → NoneBelow m limit ceiling
  pub none_since : NoneBelow m limit ceiling → answer m limit ceiling ≡ None

-- in every parish, under every limit and ceiling
abbrev pub AnswerLaw : Type 0
AnswerLaw = (m : Model) (limit ceiling : ℕ) → Answered m limit ceiling

-- ---- the order
-- a bisection that keeps the pins
pub record Keeps (m : Model) (d : List ℕ) : Type 0 where
  pub whole : Bisects m d
  pub keeps_pins : Extends (pinned m) d

-- 'comes before' is a strict total order on them
pub record StrictOrder (m : Model) : Type 0 where
  pub not_itself : (d : List ℕ) → Keeps m d → before d d ≡ false
  pub chains : (d e f : List ℕ) → Keeps m d → Keeps m e → Keeps m f → before d e ≡ true → before e f ≡ true → before d f ≡ true
  pub one_first : (d e : List ℕ) → Keeps m d → Keeps m e → (before d e ≡ true) ⊎ ((d ≡ e) ⊎ (before e d ≡ true))

-- in every parish
abbrev pub OrderLaw : Type 0
OrderLaw = (m : Model) → StrictOrder m

-- ---- standing
-- a node keeps the limit, and its lower bound is below the ceiling and below the cost of every lawful bisection before it
pub record Unclosed (number : Number) (m : Model) (limit ceiling : ℕ) (n : List Lot) : Type 0 where
  pub light : Balanced m limit (lots_of m n)
  pub below_ceiling : number m limit (lots_of m n) < ceiling
  pub below_costs : (d : List ℕ) → Lawful m limit d → before d (lots_of m n) ≡ true → number m limit (lots_of m n) < cost m d

-- every node above it does so: each that it goes on from
abbrev pub Stands : Number → Model → ℕ → ℕ → List Lot → Type 0
Stands number m limit ceiling n = (e : List Lot) (x : Lot) (r : List Lot) → e ++ x ∷ r ≡ n → Unclosed number m limit ceiling e

-- standing by test agrees with standing in words
abbrev pub StandingLaw : Type 0
StandingLaw =
    (number : Number) (m : Model) (limit ceiling : ℕ) (n : List Lot) → length n ≤ free (pins m)
    → Decides (stands number m limit ceiling n) (Stands number m limit ceiling n)

-- the empty node stands, and is the first that does
abbrev pub EmptyNodeLaw : Type 0
EmptyNodeLaw =
    (number : Number) (m : Model) (limit ceiling : ℕ)
    → (stands number m limit ceiling [] ≡ true) × ((rest : List (List Lot)) × (standing number m limit ceiling ≡ [] ∷ rest))

-- ---- the pruned search
-- with the number of a lower bound the pruned walk takes exactly the standing nodes, in order, and ends with the answer
pub record Prunes (number : Number) (m : Model) (limit ceiling : ℕ) : Type 0 where
  pub takes : (pruned_walk number m limit ceiling).taken ≡ standing number m limit ceiling
  pub ends : (pruned_walk number m limit ceiling).best ≡ answer m limit ceiling

-- in every parish that keeps its limits
abbrev pub PrunesRightly : Number → Type 0
PrunesRightly number = (m : Model) (limit ceiling : ℕ) → Sound m → Prunes number m limit ceiling

-- over every number that keeps the law of lower bounds
abbrev pub PrunedSearchLaw : Type 0
PrunedSearchLaw = (number : Number) → Lower number → PrunesRightly number
