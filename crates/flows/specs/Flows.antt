-- Flows from the households set in A to those set in B, through what is left of each link. Assumes nothing.
use Rattle.std.specs.Prelude.{◌≡◌, ℕ, ◌+◌, ◌<◌, ◌≤◌, cond, ◌⊎◌, List, length, ◌==◌, slice_index}
use Rattle.parish.specs.Model.{Model}
use Rattle.parish.specs.declared.items.Link.{Link}
use Rattle.bounds.specs.Sums.{sum_below}
use Rattle.bounds.specs.Left.{link_at}

-- of each link, what flows from its first end to its second, and what flows the other way
pub record Flow : Type 0 where
  pub along : ℕ → ℕ
  pub against : ℕ → ℕ

-- where each link has s at its first end and t at its second, the sum at household v
abbrev pub at_household : List Link → (ℕ → ℕ) → (ℕ → ℕ) → ℕ → ℕ
at_household ls s t v =
    sum_below (length ls) (λ k. cond ((link_at ls k).from == v) (s k) 0 + cond ((link_at ls k).to == v) (t k) 0)

-- what flows out of a household
abbrev pub out_of : List Link → Flow → ℕ → ℕ
out_of ls f v = at_household ls f.along f.against v

-- and into it
abbrev pub into : List Link → Flow → ℕ → ℕ
into ls f v = at_household ls f.against f.along v

-- what the households set in a lot give
abbrev pub given_by : Model → List ℕ → ℕ → Flow → ℕ
given_by m lots lot f = sum_below (length m.households) (λ v. cond (slice_index lots v == lot) (out_of m.links f v) 0)

-- and take in
abbrev pub taken_by : Model → List ℕ → ℕ → Flow → ℕ
taken_by m lots lot f = sum_below (length m.households) (λ v. cond (slice_index lots v == lot) (into m.links f v) 0)

-- a net flow: one way on each link, no more than is left of it, and as much into each unset household as out of it
pub record IsFlow (m : Model) (lots left : List ℕ) (f : Flow) : Type 0 where
  pub one_way : (k : ℕ) → (f.along k ≡ 0) ⊎ (f.against k ≡ 0)
  pub within_left : (k : ℕ) → k < length m.links → f.along k + f.against k ≤ slice_index left k
  pub conserved : (v : ℕ) → v < length m.households → slice_index lots v ≡ 0 → into m.links f v ≡ out_of m.links f v

-- a greatest one: what the households of A give, less what they take in, is as much as in any flow
pub record IsGreatest (m : Model) (lots left : List ℕ) (f : Flow) : Type 0 where
  pub flows : IsFlow m lots left f
  pub most : (g : Flow) → IsFlow m lots left g
      → given_by m lots 1 g + taken_by m lots 1 f ≤ given_by m lots 1 f + taken_by m lots 1 g
