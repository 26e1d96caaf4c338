-- What growing asks at each step. Assumes nothing.
use Rattle.std.specs.Prelude.{◌≡◌, ℕ, ◌<◌, ◌≤◌, true, false, ◌⊎◌, List, Some, None, Option}
use Rattle.forest.specs.Grounds.{Ground, leads}
use Rattle.forest.specs.Forests.{Forest, inside, outside, far_end}
use Rattle.packing.specs.declared.growth.Tree.{Tree}
use Rattle.packing.specs.Stands.{held_weight, is_live}

-- of the first n trees t is live, and the lightest of those that are, the lowest where they tie
pub record LightestBelow (trees : List Tree) (n t : ℕ) : Type 0 where
  pub there : t < n
  pub lives : is_live trees t ≡ true
  pub least : (q : ℕ) → q < n → is_live trees q ≡ true
      → (held_weight trees t < held_weight trees q) ⊎ ((held_weight trees t ≡ held_weight trees q) × (t ≤ q))

-- that tree, or none where no tree of the first n is live
abbrev pub Lightest : List Tree → ℕ → Option ℕ → Type 0
Lightest trees n None = (q : ℕ) → q < n → is_live trees q ≡ false
Lightest trees n (Some t) = LightestBelow trees n t

-- the household outside all trees to which a usable link leads from tree r, or none where it leads to none
abbrev pub Far : Ground → Forest → ℕ → ℕ → Option ℕ → Type 0
Far G F r k None = leads G (inside F r) (outside G F) k ≡ false
Far G F r k (Some v) = (leads G (inside F r) (outside G F) k ≡ true) × (v ≡ far_end G F k) × (outside G F v ≡ true) × (v < G.households)
