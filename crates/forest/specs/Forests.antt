-- Trees, and how they grow. Assumes nothing.
use Rattle.std.specs.Prelude.{◌≡◌, ℕ, zero, suc, ◌<◌, ◌≤◌, Bool, true, false, cond, not, ◌&&◌, ◌||◌, ◌⊎◌, List, replicate, nat_eq, nat_le, nat_lt, Some, None, Option, is_none, slice_index_or, slice_set}
use Rattle.std.specs.Option.{option_eq}
use Rattle.forest.specs.Searches.{first, all_below}
use Rattle.forest.specs.Grounds.{Ground, leads, weight_of}

-- for each household the root of its tree, or none where it is in no tree; for each link 1 where it is a root link or a tree
-- link, else 0
pub record Forest : Type 0 where
  pub tree : List (Option ℕ)
  pub taken : List ℕ

-- the root of the tree that household v is in, or none
abbrev pub root_of : Forest → ℕ → Option ℕ
root_of F v = slice_index_or F.tree v None

-- ---- roots

-- the lowest usable link from the home lot to household v, or the count of links where there is none
abbrev pub root_link : Ground → ℕ → ℕ
root_link G v = first (leads G G.home (λ u. nat_eq u v)) G.links

-- each unset household with such a link roots a tree
abbrev pub is_root : Ground → ℕ → Bool
is_root G v = G.unset v && nat_lt (root_link G v) G.links

-- the same in words: v is unset, and k is the lowest usable link to it from a household set in the home lot
pub record Roots (G : Ground) (v k : ℕ) : Type 0 where
  pub free : G.unset v ≡ true
  pub there : k < G.links
  pub from_home : leads G G.home (λ u. nat_eq u v) k ≡ true
  pub lowest : (j : ℕ) → j < k → leads G G.home (λ u. nat_eq u v) j ≡ false

-- household v joins the tree with root r by link k
abbrev pub joined : Forest → ℕ → ℕ → ℕ → Forest
joined F v r k = record { tree = slice_set F.tree v (Some r); taken = slice_set F.taken k 1 }

-- no tree yet
abbrev pub no_tree : Ground → Forest
no_tree G = record { tree = replicate G.households None; taken = replicate G.links 0 }

-- household v is made a root where it is one
abbrev pub plant : Ground → Forest → ℕ → Forest
plant G F v = let more : Forest = joined F v v (root_link G v) in cond (is_root G v) more F

-- and each household below n
abbrev pub planted : Ground → ℕ → Forest
planted G zero = no_tree G
planted G (suc v) = plant G (planted G v) v

-- ---- growing

-- household v is in the tree with root r
abbrev pub inside : Forest → ℕ → ℕ → Bool
inside F r v = option_eq nat_eq (root_of F v) (Some r)

-- household v is unset and outside all trees
abbrev pub outside : Ground → Forest → ℕ → Bool
outside G F v = G.unset v && is_none (root_of F v)

-- what a tree weighs
abbrev pub tree_weight : Ground → Forest → ℕ → ℕ
tree_weight G F r = weight_of G (inside F r)

-- the lowest usable link from a tree to an unset household outside all trees, or the count of links where there is none
abbrev pub grow_link : Ground → Forest → ℕ → ℕ
grow_link G F r = first (leads G (inside F r) (outside G F)) G.links

-- a tree can grow where it has such a link
abbrev pub can_grow : Ground → Forest → ℕ → Bool
can_grow G F r = nat_lt (grow_link G F r) G.links

-- the household to which such a link leads
abbrev pub far_end : Ground → Forest → ℕ → ℕ
far_end G F k = cond (outside G F (G.to k)) (G.to k) (G.from k)

-- one step of growing, in words: tree r takes link k. It is the lowest usable link from that tree to an unset household
-- outside all trees; and of the trees that have such a link none is lighter, and none as light has a lower root
pub record Takes (G : Ground) (F : Forest) (r k : ℕ) : Type 0 where
  pub there : k < G.links
  pub leads_out : leads G (inside F r) (outside G F) k ≡ true
  pub lowest : (j : ℕ) → j < k → leads G (inside F r) (outside G F) j ≡ false
  pub lightest : (q : ℕ) → can_grow G F q ≡ true
      → (tree_weight G F r < tree_weight G F q) ⊎ ((tree_weight G F r ≡ tree_weight G F q) × (r ≤ q))

-- H is grown from F: links are taken one by one, until no tree can grow
pub data Grows (G : Ground) : Forest → Forest → Type 0 where
  ends : {F : Forest} → ((r : ℕ) → can_grow G F r ≡ false) → Grows G F F
  takes : {F H : Forest} {r k : ℕ} → Takes G F r k → Grows G (joined F (far_end G F k) r k) H → Grows G F H

-- the same as a computation. No tree that can grow is lighter than the one with root r
abbrev pub none_lighter : Ground → Forest → ℕ → Bool
none_lighter G F r = all_below (λ q. not (can_grow G F q) || nat_le (tree_weight G F r) (tree_weight G F q)) G.households

-- the lightest tree that can grow, by its root, the lowest where they tie; the count of households where none can
abbrev pub lightest : Ground → Forest → ℕ
lightest G F = first (λ r. can_grow G F r && none_lighter G F r) G.households

-- a tree takes its lowest link and the household at its far end
abbrev pub grow : Ground → Forest → ℕ → Forest
grow G F r = let k : ℕ = grow_link G F r in joined F (far_end G F k) r k

-- so many steps of growing, or fewer where no tree can grow
abbrev pub grown : Ground → ℕ → Forest → Forest
grown G zero F = F
grown G (suc i) F =
    let r : ℕ = lightest G F in
    let more : Forest = grown G i (grow G F r) in
    cond (nat_lt r G.households) more F

-- the forest: the roots, grown until no tree can grow; each step takes a household, so there are no more than those
abbrev pub forest : Ground → Forest
forest G = grown G G.households (planted G G.households)
