-- What the program holds of a forest. Assumes nothing.
use Rattle.std.specs.Prelude.{◌≡◌, ℕ, zero, suc, ◌+◌, ◌<◌, Bool, true, false, cond, ◌&&◌, List, map, Some, None, Option, take, nat_lt, slice_index_or, slice_set}
use Rattle.forest.specs.Searches.{count_below}
use Rattle.forest.specs.Grounds.{Ground}
use Rattle.forest.specs.Forests.{Forest, is_root, joined, plant, planted, forest, tree_weight}
use Rattle.packing.specs.declared.growth.Growth.{Growth}
use Rattle.packing.specs.declared.growth.Tree.{Tree}
use Rattle.packing.specs.Grounded.{ground_of}

-- the tree that a byte names by its root, or none
abbrev pub tree_named : ℕ → Option ℕ
tree_named zero = None
tree_named (suc r) = Some r

-- the tree of each household, and the links that are taken
abbrev pub forest_of : Growth → Forest
forest_of g = record { tree = map tree_named (take (ground_of g.question).households g.tree_of); taken = take (ground_of g.question).links g.taken }

-- a tree of no household
abbrev pub bare : Tree
bare = record { weight = 0; live = false }

-- the weight that is held for the tree with root r
abbrev pub held_weight : List Tree → ℕ → ℕ
held_weight trees r = (slice_index_or trees r bare).weight

-- whether that tree may still grow
abbrev pub is_live : List Tree → ℕ → Bool
is_live trees r = (slice_index_or trees r bare).live

-- the weight of each tree stands at its root
abbrev pub Weighs : Ground → Forest → List Tree → Type 0
Weighs G F trees = (r : ℕ) → r < G.households → held_weight trees r ≡ tree_weight G F r

-- household v joins the tree with root r by link k; its weight goes to that tree, which may grow on
pub record Joins (v r k : ℕ) (g g' : Growth) : Type 0 where
  pub question : g'.question ≡ g.question
  pub is : forest_of g' ≡ joined (forest_of g) v r k
  pub trees : g'.trees ≡ slice_set g.trees r (record { weight = held_weight g.trees r + (ground_of g.question).weight v; live = true })

-- household v is planted where it is a root, and then lives
pub record Plants (v : ℕ) (g g' : Growth) (root : Bool) : Type 0 where
  pub question : g'.question ≡ g.question
  pub tells : root ≡ is_root (ground_of g.question) v
  pub is : forest_of g' ≡ plant (ground_of g.question) (forest_of g) v
  pub trees : g'.trees
      ≡ cond (is_root (ground_of g.question) v) (slice_set g.trees v (record { weight = held_weight g.trees v + (ground_of g.question).weight v; live = true })) g.trees

-- each household below v is planted where it is a root, and so many roots are live
pub record Sown (G : Ground) (v : ℕ) (g : Growth) (roots : ℕ) : Type 0 where
  pub is : forest_of g ≡ planted G v
  pub weighs : Weighs G (planted G v) g.trees
  pub lives : (r : ℕ) → r < G.households → is_live g.trees r ≡ (nat_lt r v && is_root G r)
  pub counts : roots ≡ count_below (is_root G) v

-- the whole forest
pub record Whole (G : Ground) (g : Growth) : Type 0 where
  pub is : forest_of g ≡ forest G
  pub weighs : Weighs G (forest G) g.trees
