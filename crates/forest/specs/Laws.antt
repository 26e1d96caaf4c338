-- What the packing layer adds, in words. Assumes nothing.
use Rattle.std.specs.Prelude.{◌≡◌, ℕ, ◌+◌, ◌<◌, true, false, ◌⊎◌, List, length, Some, None, Decides, slice_index}
use Rattle.parish.specs.Model.{Model, Sound}
use Rattle.parish.specs.declared.items.Lot.{Lot}
use Rattle.bisection.specs.Lots.{Lots}
use Rattle.bisection.specs.Meanings.{Meaning}
use Rattle.bisection.specs.Weights.{least_lot_weight}
use Rattle.bounds.specs.Bounds.{Bounds}
use Rattle.forest.specs.Grounds.{Ground, ground_for}
use Rattle.forest.specs.Forests.{Forest, root_of, is_root, Roots, planted, tree_weight, can_grow, Grows, forest}
use Rattle.forest.specs.Fewest.{target, Fewest}
use Rattle.forest.specs.Layers.{packed_charges, packed_number, packing_over}

-- the roots: which households are, and what is planted before any tree grows
pub record Planting (G : Ground) (F : Forest) : Type 0 where
  -- a household is a root just where it has a root link
  pub roots : (v : ℕ) → v < G.households → Decides (is_root G v) ((k : ℕ) × Roots G v k)
  -- each root is a tree of its own, and no other household is in one
  pub alone : (v : ℕ) → v < G.households → (is_root G v ≡ true → root_of F v ≡ Some v) × (is_root G v ≡ false → root_of F v ≡ None)
  -- just the root links are taken
  pub links : (k : ℕ) → k < G.links
      → (slice_index F.taken k ≡ 0) ⊎ ((slice_index F.taken k ≡ 1) × ((v : ℕ) × (v < G.households) × Roots G v k))
  pub taken : (v k : ℕ) → v < G.households → Roots G v k → slice_index F.taken k ≡ 1

-- what is added at a question
pub record PackingLaw (G : Ground) (least_weight : ℕ) : Type 0 where
  pub planting : Planting G (planted G G.households)
  -- the forest is grown from the roots, and nothing else is
  pub grown : Grows G (planted G G.households) (forest G)
  pub only : (H : Forest) → Grows G (planted G G.households) H → H ≡ forest G
  -- at the end no tree can grow
  pub ended : (r : ℕ) → can_grow G (forest G) r ≡ false
  -- the number is the fewest trees that reach the target, or all of them
  pub number : Fewest G.households (tree_weight G (forest G)) (is_root G) (target G (forest G) least_weight) (packed_number G least_weight)
  -- there is a charge for each link, 0 or 1
  pub long : length (packed_charges G) ≡ G.links
  pub one : (k : ℕ) → (slice_index (packed_charges G) k ≡ 0) ⊎ (slice_index (packed_charges G) k ≡ 1)

-- for every question, home lot and charges below
abbrev pub PackingLaws : Type 0
PackingLaws =
    (home : Lot) (m : Model) (limit : ℕ) (lots charges : List ℕ) → Sound m → Lots m lots
    → PackingLaw (ground_for home m lots charges) (least_lot_weight m limit)

-- what is added depends on parish, cap, lots and the charges below alone
abbrev pub SamePacking : Type 0
SamePacking =
    (home : Lot) (B C : Meaning) (m : Model) (limit : ℕ) (lots : List ℕ) → B.charges m limit lots ≡ C.charges m limit lots
    → (C.number m limit lots + (packing_over home B).number m limit lots ≡ B.number m limit lots + (packing_over home C).number m limit lots)
    × ((packing_over home B).charges m limit lots ≡ (packing_over home C).charges m limit lots)

-- over a lower bound, the layer is one again
abbrev pub PackingBounds : Type 0
PackingBounds =
    (home : Lot) (B : Meaning) (m : Model) (limit : ℕ) (lots : List ℕ) → Sound m → Lots m lots
    → Bounds m limit lots (B.number m limit lots) (B.charges m limit lots)
    → Bounds m limit lots ((packing_over home B).number m limit lots) ((packing_over home B).charges m limit lots)
