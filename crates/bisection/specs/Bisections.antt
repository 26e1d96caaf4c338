-- The bisections of a parish: which are lawful, and their order. Assumes nothing.
use Rattle.std.specs.Prelude.{◌≡◌, ℕ, zero, suc, ◌<◌, ◌≤◌, Bool, false, cond, ◌&&◌, ◌||◌, List, [], ◌∷◌, ◌++◌, map, length, filter, ◌==◌, slice_index, slice_index_or}
use Rattle.parish.specs.Model.{Model}
use Rattle.bisection.specs.Lots.{pinned, bisects, Bisects, extends, Extends}
use Rattle.bisection.specs.Weights.{balanced, Balanced}

-- every bisection of n households, A before B at the first household where two differ
abbrev pub bisections : ℕ → List (List ℕ)
bisections zero = [] ∷ []
bisections (suc n) = map (λ d. 1 ∷ d) (bisections n) ++ map (λ d. 2 ∷ d) (bisections n)

-- a bisection that keeps every pin and whose lots weigh no more than the limit
abbrev pub lawful : Model → ℕ → List ℕ → Bool
lawful m limit d = bisects m d && (extends (pinned m) d && balanced m limit d)

-- the same in words
pub record Lawful (m : Model) (limit : ℕ) (d : List ℕ) : Type 0 where
  pub whole : Bisects m d
  pub keeps_pins : Extends (pinned m) d
  pub light : Balanced m limit d

-- the lawful bisections, in their order
abbrev pub lawful_bisections : Model → ℕ → List (List ℕ)
lawful_bisections m limit = filter (lawful m limit) (bisections (length m.households))

-- a bisection comes before a list of lots, as of another bisection: at the first set household where they differ it has A
abbrev pub before : List ℕ → List ℕ → Bool
before [] ys = false
before (x ∷ xs) [] = false
before (x ∷ xs) (y ∷ ys) = cond (y == 0 || x == y) (before xs ys) (x == 1)

-- the same in words: at some household it has A where the list has B, and it leaves what the list sets before that
pub record ComesBefore (d lots : List ℕ) : Type 0 where
  pub place : ℕ
  pub has_A : slice_index_or d place 0 ≡ 1
  pub has_B : slice_index_or lots place 0 ≡ 2
  pub same_till : (j : ℕ) → j < place → 1 ≤ slice_index lots j → slice_index d j ≡ slice_index lots j
