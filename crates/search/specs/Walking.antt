-- A depth-first walk over the nodes that prunes by the best leaf that it has itself seen. Assumes nothing.
use Rattle.std.specs.Prelude.{ℕ, zero, suc, Bool, cond, not, ◌&&◌, ◌||◌, List, [], ◌∷◌, ◌++◌, Some, None, Option, nat_le, nat_lt}
use Rattle.parish.specs.Model.{Model}
use Rattle.parish.specs.declared.items.Lot.{Lot}
use Rattle.parish.specs.declared.items.Lot.TheVariants.{A, B}
use Rattle.bisection.specs.Lots.{pins}
use Rattle.bisection.specs.Weights.{balanced}
use Rattle.bisection.specs.Costs.{cost}
use Rattle.bisection.specs.Meanings.{Number}
use Rattle.search.specs.Nodes.{free, lots_of}

-- the nodes that a walk took, and the best leaf that it saw
pub record Walked : Type 0 where
  pub taken : List (List Lot)
  pub best : Option (List ℕ)

module _ (number : Number) (m : Model) (limit ceiling : ℕ) where
  -- what is to be undercut: the cost of the best leaf seen, or else the ceiling
  abbrev pub to_beat : Option (List ℕ) → ℕ
  to_beat None = ceiling
  to_beat (Some d) = cost m d

  -- a leaf that is light enough and costs less is the best from then on
  abbrev pub better : List ℕ → Option (List ℕ) → Option (List ℕ)
  better d best = cond (balanced m limit d && nat_lt (cost m d) (to_beat best)) (Some d) best

  -- nothing below a node is looked at where a lot is too heavy, or its lower bound is not below what is to be undercut
  abbrev pub prunes : List Lot → Option (List ℕ) → Bool
  prunes n best = not (balanced m limit (lots_of m n)) || nat_le (to_beat best) (number m limit (lots_of m n))

  -- from a node with k households left to deal: the node, and unless it is pruned what lies below it, A before B
  abbrev pub walk_from : ℕ → List Lot → Option (List ℕ) → Walked
  walk_from zero n best = record { taken = n ∷ []; best = better (lots_of m n) best }
  walk_from (suc k) n best =
      let a : Walked = walk_from k (n ++ A ∷ []) best in
      let b : Walked = walk_from k (n ++ B ∷ []) a.best in
      cond (prunes n best)
      (record { taken = n ∷ []; best = best })
      (record { taken = n ∷ (a.taken ++ b.taken); best = b.best })

  -- from the empty node, with no leaf seen
  abbrev pub pruned_walk : Walked
  pruned_walk = walk_from (free (pins m)) [] None
