-- The least number that passes a test, tests at every number, and choices from a list. Assumes nothing.
use Rattle.std.specs.Prelude.{ℕ, zero, suc, Bool, true, cond, ◌&&◌, List, [], ◌∷◌, ◌++◌, map, nat_lt}
use Rattle.bounds.specs.Sums.{sum_below}

-- the least number below n that passes a test, or n where none does
abbrev pub first : (ℕ → Bool) → ℕ → ℕ
first test zero = 0
first test (suc n) =
    let r : ℕ = first test n in
    cond (nat_lt r n) r (cond (test n) n (suc n))

-- every number below n passes
abbrev pub all_below : (ℕ → Bool) → ℕ → Bool
all_below test zero = true
all_below test (suc n) = all_below test n && test n

-- how many numbers below n pass
abbrev pub count_below : (ℕ → Bool) → ℕ → ℕ
count_below test n = sum_below n (λ k. cond (test k) 1 0)

-- the numbers below n that pass, the highest first
abbrev pub those_below : (ℕ → Bool) → ℕ → List ℕ
those_below test zero = []
those_below test (suc n) = cond (test n) (n ∷ those_below test n) (those_below test n)

-- every way to keep some of the elements of a list
abbrev pub sublists : {X : Type 0} → List X → List (List X)
sublists [] = [] ∷ []
sublists (x ∷ xs) = map (λ s. x ∷ s) (sublists xs) ++ sublists xs
