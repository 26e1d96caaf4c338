-- The nodes of a search over a parish, and those that stand. A node deals lots to the free households, the lowest first. It
-- lies below each shorter node that it goes on from. Assumes nothing.
use Rattle.std.specs.Prelude.{ℕ, zero, suc, Bool, not, ◌&&◌, ◌||◌, List, [], ◌∷◌, ◌++◌, map, length, Some, None, filter, Option, nat_le, nat_lt}
use Rattle.std.specs.List.{list_all}
use Rattle.parish.specs.Model.{Model}
use Rattle.parish.specs.declared.items.Lot.{Lot}
use Rattle.parish.specs.declared.items.Lot.TheVariants.{A, B}
use Rattle.parish.specs.Lots.{lot_byte}
use Rattle.bisection.specs.Lots.{pins}
use Rattle.bisection.specs.Weights.{balanced}
use Rattle.bisection.specs.Costs.{cost}
use Rattle.bisection.specs.Bisections.{lawful_bisections, before}
use Rattle.bisection.specs.Answers.{least}
use Rattle.bisection.specs.Meanings.{Number}

-- how many households have no pin
abbrev pub free : List (Option Lot) → ℕ
free [] = 0
free (None ∷ ps) = suc (free ps)
free (Some lot ∷ ps) = free ps

-- the lots of a node: the pins, and what it deals to the free households
abbrev pub dealt : List (Option Lot) → List Lot → List ℕ
dealt [] n = []
dealt (Some lot ∷ ps) n = lot_byte lot ∷ dealt ps n
dealt (None ∷ ps) [] = 0 ∷ dealt ps []
dealt (None ∷ ps) (x ∷ n) = lot_byte x ∷ dealt ps n

-- the same of a parish
abbrev pub lots_of : Model → List Lot → List ℕ
lots_of m n = dealt (pins m) n

-- every node over k free households, a node before those below it, A before B
abbrev pub nodes : ℕ → List (List Lot)
nodes zero = [] ∷ []
nodes (suc k) = [] ∷ (map (λ n. A ∷ n) (nodes k) ++ map (λ n. B ∷ n) (nodes k))

-- the nodes above a node, those that it goes on from, the shortest first
abbrev pub above : List Lot → List (List Lot)
above [] = []
above (x ∷ n) = [] ∷ map (λ e. x ∷ e) (above n)

-- nothing in a list passes a test
abbrev pub none : {X : Type 0} → (X → Bool) → List X → Bool
none test xs = list_all (λ x. not (test x)) xs

-- the lawful bisections before a node
abbrev pub lawful_before : Model → ℕ → List Lot → List (List ℕ)
lawful_before m limit n = filter (λ d. before d (lots_of m n)) (lawful_bisections m limit)

-- the incumbent before a node: the least of the ceiling and the costs of all lawful bisections before it
abbrev pub incumbent : Model → ℕ → ℕ → List Lot → ℕ
incumbent m limit ceiling n = least (cost m) ceiling (lawful_before m limit n)

module _ (number : Number) (m : Model) (limit ceiling : ℕ) where
  -- a node is closed where a lot is too heavy, or it is no leaf and its lower bound is not below the incumbent before it
  abbrev pub closed : List Lot → Bool
  closed n =
      not (balanced m limit (lots_of m n))
      || (nat_lt (length n) (free (pins m)) && nat_le (incumbent m limit ceiling n) (number m limit (lots_of m n)))

  -- a node stands when no node above it is closed
  abbrev pub stands : List Lot → Bool
  stands n = none closed (above n)

  -- the standing nodes, in the order of the search
  abbrev pub standing : List (List Lot)
  standing = filter stands (nodes (free (pins m)))

  -- a search takes each of them, one a step
  abbrev pub steps : ℕ
  steps = length standing
