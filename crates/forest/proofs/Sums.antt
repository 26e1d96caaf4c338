-- Sums below n where one term changes, and how many pass. Assumes nothing.
use Rattle.std.proofs.Common.{◌≡◌, ℕ, zero, suc, ◌+◌, ◌<◌, ◌≤◌, Bool, true, false, cond, sym, refl, ap, inl, inr, not-suc-le-zero, arith}
use Rattle.std.proofs.lemmas.Bool.{cases_eq}
use Rattle.bounds.specs.Sums.{sum_below}
use Rattle.bounds.proofs.Indexed.{sum_below_le, sum_below_none}
use Rattle.forest.specs.Searches.{count_below}

-- two functions that differ at one place alone, by c or less
pub sum_step : (n u c : ℕ) (f g : ℕ → ℕ) → ((k : ℕ) → k < n → (k ≡ u → ⊥) → f k ≤ g k) → f u ≤ g u + c
    → sum_below n f ≤ sum_below n g + c
sum_step zero u c f g off on = omega arith
sum_step (suc n) u c f g off on =
    elim (cases_eq n u) [
      | inl e ↦ omega (arith, ap f e, ap g e, sum_below_le n f g (λ k l. off k (omega arith) (λ q. omega arith)))
      | inr e ↦ omega (arith, sum_step n u c f g (λ k l. off k (omega arith)) on, off n (omega arith) e)
    ]

-- and by c or more
pub sum_rise : (n u c : ℕ) (f g : ℕ → ℕ) → u < n → ((k : ℕ) → k < n → (k ≡ u → ⊥) → f k ≤ g k) → f u + c ≤ g u
    → sum_below n f + c ≤ sum_below n g
sum_rise zero u c f g l off on = absurd (not-suc-le-zero l)
sum_rise (suc n) u c f g l off on =
    elim (cases_eq n u) [
      | inl e ↦ omega (arith, ap f e, ap g e, sum_below_le n f g (λ k b. off k (omega arith) (λ q. omega arith)))
      | inr e ↦ omega (arith, sum_rise n u c f g (omega arith) (λ k b. off k (omega arith)) on, off n (omega arith) e)
    ]

pub cond_sum : (b : Bool) (m : ℕ) (f : ℕ → ℕ) → cond b (sum_below m f) 0 ≡ sum_below m (λ k. cond b (f k) 0)
cond_sum true m f = refl
cond_sum false m f = sym (sum_below_none m)

-- what counts only where a test passes is no more than itself
pub cond_most : (b : Bool) (x : ℕ) → cond b x 0 ≤ x
cond_most true x = omega arith
cond_most false x = omega arith

-- a test that passes more often counts more
pub cond_le : (a b : Bool) (x : ℕ) → (a ≡ true → b ≡ true) → cond a x 0 ≤ cond b x 0
cond_le true b x h = rw (h refl) (omega arith)
cond_le false b x h = omega arith

pub count_most : (test : ℕ → Bool) (n : ℕ) → count_below test n ≤ n
count_most test zero = omega arith
count_most test (suc n) = omega (arith, count_most test n, cond_most (test n) 1)
