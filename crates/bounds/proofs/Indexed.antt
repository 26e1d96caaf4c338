-- Sums over the numbers below n. Assumes nothing.
use Rattle.std.proofs.Common.{◌≡◌, ℕ, zero, suc, ◌+◌, ◌<◌, ◌≤◌, List, [], ◌∷◌, length, get_or, sum, sym, refl, ap, ◌∙◌, ap₂, inl, inr, not-suc-le-zero, add-zero, zero-add, add-one, arith}
use Rattle.std.proofs.lemmas.Bool.Decides.{eqb_tells}
use Rattle.bounds.proofs.Sums.{sum_cons}
use Rattle.bounds.specs.Sums.{sum_below}

-- a fact at every place, to a sum's
pub sum_below_same : (n : ℕ) (f g : ℕ → ℕ) → ((k : ℕ) → k < n → f k ≡ g k) → sum_below n f ≡ sum_below n g
sum_below_same zero f g h = refl
sum_below_same (suc n) f g h =
    ap₂ ◌+◌ (sum_below_same n f g (λ k l. h k (omega arith))) (h n (omega arith))

pub sum_below_le : (n : ℕ) (f g : ℕ → ℕ) → ((k : ℕ) → k < n → f k ≤ g k) → sum_below n f ≤ sum_below n g
sum_below_le zero f g h = omega arith
sum_below_le (suc n) f g h =
    omega (arith, sum_below_le n f g (λ k l. h k (omega arith)), h n (omega arith))

pub sum_below_add : (n : ℕ) (f g : ℕ → ℕ) → sum_below n (λ k. f k + g k) ≡ sum_below n f + sum_below n g
sum_below_add zero f g = refl
sum_below_add (suc n) f g = omega (arith, sum_below_add n f g)

pub sum_below_none : (n : ℕ) → sum_below n (λ k. 0) ≡ 0
sum_below_none zero = refl
sum_below_none (suc n) = omega (arith, sum_below_none n)

pub sum_below_swap : (n m : ℕ) (f : ℕ → ℕ → ℕ)
    → sum_below n (λ i. sum_below m (λ j. f i j)) ≡ sum_below m (λ j. sum_below n (λ i. f i j))
sum_below_swap zero m f = sym (sum_below_none m)
sum_below_swap (suc n) m f =
    ap (λ s. s + sum_below m (λ j. f n j)) (sum_below_swap n m f)
    ∙ sym (sum_below_add m (λ j. sum_below n (λ i. f i j)) (λ j. f n j))

-- a sum with one term that is not 0
pub sum_below_at : (n u : ℕ) (g : ℕ → ℕ) → u < n → ((v : ℕ) → (v ≡ u → ⊥) → g v ≡ 0) → sum_below n g ≡ g u
sum_below_at zero u g l h = absurd (not-suc-le-zero l)
sum_below_at (suc n) u g l h =
    elim (eqb_tells u n) [
      | inl e ↦
          let z : sum_below n g ≡ 0 = sum_below_same n g (λ k. 0) (λ k b. h k (λ q. omega arith)) ∙ sum_below_none n in
          ap₂ ◌+◌ z (ap g (sym e.1)) ∙ zero-add (g u)
      | inr e ↦
          ap₂ ◌+◌ (sum_below_at n u g (omega arith) h) (h n (λ q. e.1 (sym q))) ∙ add-zero (g u)
    ]

-- two sums that differ in one term
pub sum_below_change : (n j : ℕ) (f g : ℕ → ℕ) → j < n → ((k : ℕ) → (k ≡ j → ⊥) → f k ≡ g k)
    → sum_below n f + g j ≡ sum_below n g + f j
sum_below_change zero j f g l h = absurd (not-suc-le-zero l)
sum_below_change (suc n) j f g l h =
    elim (eqb_tells j n) [
      | inl e ↦
          let same : sum_below n f ≡ sum_below n g = sum_below_same n f g (λ k b. h k (λ q. omega arith)) in
          let a : f j ≡ f n = ap f e.1 in
          let b : g j ≡ g n = ap g e.1 in
          omega arith
      | inr e ↦ omega (arith, sum_below_change n j f g (omega arith) h, h n (λ q. e.1 (sym q)))
    ]

-- a sum with its first term apart
pub sum_below_front : (n : ℕ) (f : ℕ → ℕ) → sum_below (suc n) f ≡ f 0 + sum_below n (λ k. f (suc k))
sum_below_front zero f = omega arith
sum_below_front (suc n) f = omega (arith, sum_below_front n f)

-- one term of a sum
pub sum_below_has : (n j : ℕ) (f : ℕ → ℕ) → j < n → f j ≤ sum_below n f
sum_below_has zero j f l = absurd (not-suc-le-zero l)
sum_below_has (suc n) j f l =
    elim (eqb_tells j n) [
      | inl e ↦ let a : f j ≡ f n = ap f e.1 in omega arith
      | inr e ↦ omega (arith, sum_below_has n j f (omega arith))
    ]

-- the sum of a list, by index
pub sum_by_index : (xs : List ℕ) → sum xs ≡ sum_below (length xs) (λ k. get_or xs k 0)
sum_by_index [] = refl
sum_by_index (x ∷ xs) = omega (arith, sum_cons x xs, sum_by_index xs, sum_below_front (length xs) (λ k. get_or (x ∷ xs) k 0))

-- one term more, as a loop counts
pub sum_below_more : (n : ℕ) (f : ℕ → ℕ) → sum_below (n + 1) f ≡ sum_below n f + f n
sum_below_more n f = ap (λ i. sum_below i f) (add-one n)
