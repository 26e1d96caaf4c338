-- What holds of the marks of a search before each level is scanned. Assumes nothing.
use Rattle.std.specs.Prelude.{◌≡◌, ℕ, suc, ◌<◌, ◌≤◌, List, length, ◌≢◌, Some, None, Option, slice_index}
use Rattle.std.specs.Option.{IsSomeAnd}
use Rattle.parish.specs.Limits.{most_households, most_links, strongest_held}
use Rattle.parish.specs.declared.items.Link.{Link}
use Rattle.flows.specs.declared.items.Arc.{Arc}
use Rattle.flows.specs.declared.items.Mark.{Mark}
use Rattle.bounds.specs.Left.{link_at}
use Rattle.flows.specs.Paths.{tail, head, room_of}
use Rattle.flows.specs.Levels.{mark_of, level_of, arc_to}

-- both ends of each link are among n households
abbrev pub Within : ℕ → List Link → Type 0
Within n ls = (k : ℕ) → k < length ls → ((link_at ls k).from < n) × ((link_at ls k).to < n)

-- the lists that a search among n households reads fit one another and the limits of a parish
pub record IsNetwork (ls : List Link) (left : List ℕ) (n : ℕ) : Type 0 where
  pub ends : Within n ls
  pub few : n ≤ most_households
  pub short : length ls ≤ most_links
  pub left_long : length left ≡ length ls
  pub small : (k : ℕ) → slice_index left k ≤ strongest_held

-- an arc leads from a household at level d + 1 to household v
pub record Parent (ls : List Link) (marks : List (Option Mark)) (v d : ℕ) (a : Arc) : Type 0 where
  pub there : a.link < length ls
  pub heads : head ls a ≡ v
  pub above : level_of marks (tail ls a) ≡ suc d

-- levels are counted from 1: households of the first are set in A, and each later one was reached from the level before it
pub record Tree (ls : List Link) (lots : List ℕ) (marks : List (Option Mark)) : Type 0 where
  pub long : length marks ≡ length lots
  pub first : (v : ℕ) → level_of marks v ≡ 1 → slice_index lots v ≡ 1
  pub ranked : (v : ℕ) (m : Mark) → mark_of marks v ≡ Some m → 1 ≤ m.level
  pub roots : (v : ℕ) → level_of marks v ≤ 1 → arc_to marks v ≡ None
  pub linked : (v d : ℕ) → level_of marks v ≡ suc (suc d) → IsSomeAnd (arc_to marks v) (Parent ls marks v d)

-- each arc by which a household was reached has room
abbrev pub Roomy : List Link → List ℕ → List ℕ → List (Option Mark) → Type 0
Roomy ls left room marks = (v d : ℕ) → level_of marks v ≡ suc (suc d) → (a : Arc) → arc_to marks v ≡ Some a → 1 ≤ room_of left room a

-- where an arc with room comes from a level, the household that it leads to is reached
abbrev pub Covered : List Link → List ℕ → List ℕ → List (Option Mark) → ℕ → Arc → Type 0
Covered ls left room marks e a = level_of marks (tail ls a) ≡ e → 1 ≤ room_of left room a → 1 ≤ level_of marks (head ls a)

-- before a level is scanned, all levels before it are, the first has all of A, and no household of B is reached
pub record Ready (ls : List Link) (lots left : List ℕ) (depth : ℕ) (room : List ℕ) (marks : List (Option Mark)) : Type 0 where
  pub deep : 1 ≤ depth
  pub tree : Tree ls lots marks
  pub firsts : (v : ℕ) → slice_index lots v ≡ 1 → level_of marks v ≡ 1
  pub no_goal : (v : ℕ) → 1 ≤ level_of marks v → slice_index lots v ≢ 2
  pub low : (v : ℕ) → level_of marks v ≤ depth
  pub roomy : Roomy ls left room marks
  pub covered : (e : ℕ) → 1 ≤ e → e < depth → (a : Arc) → a.link < length ls → Covered ls left room marks e a
