-- The least number that passes a test, and tests at every number. Assumes nothing.
use Rattle.std.proofs.Common.{◌≡◌, ℕ, zero, suc, ◌<◌, ◌≤◌, Bool, true, false, ltb, ◌⊎◌, refl, ap, ◌∙◌, inl, inr, not-suc-le-zero, arith}
use Rattle.std.proofs.lemmas.Bool.{cases_eq, cases_lt, cases_order, cases_Bool, lt-ltb, le-ltb, ltb-false, and_parts, and_from, cond-true, cond-false, both_ways}
use Rattle.forest.specs.Searches.{first, all_below}

-- the ways that a search up to one number more can end: it was found before, it is found here, or nowhere
first_ways : (test : ℕ → Bool) (n : ℕ)
    → ((first test n < n) × (first test (suc n) ≡ first test n))
    ⊎ ((n ≤ first test n) × (((test n ≡ true) × (first test (suc n) ≡ n)) ⊎ ((test n ≡ false) × (first test (suc n) ≡ suc n))))
first_ways test n =
    elim (cases_lt (first test n) n) [
      | inl l ↦ inl (l, cond-true (ltb (first test n) n) _ _ (lt-ltb _ _ l))
      | inr g ↦
          let past = cond-false (ltb (first test n) n) _ _ (le-ltb _ _ g) in
          inr (
            g,
            elim (cases_Bool (test n)) [
              | inl h ↦ inl (h, past ∙ cond-true (test n) _ _ h)
              | inr h ↦ inr (h, past ∙ cond-false (test n) _ _ h)
            ],
          )
    ]

pub first_most : (test : ℕ → Bool) (n : ℕ) → first test n ≤ n
first_most test zero = omega arith
first_most test (suc n) =
    elim (first_ways test n) [
      | inl a ↦ omega (arith, a.0, a.1)
      | inr (g, inl a) ↦ omega (arith, a.1)
      | inr (g, inr a) ↦ omega (arith, a.1)
    ]

pub first_passes : (test : ℕ → Bool) (n : ℕ) → first test n < n → test (first test n) ≡ true
first_passes test zero l = absurd (not-suc-le-zero l)
first_passes test (suc n) l =
    elim (first_ways test n) [
      | inl a ↦ ap test a.1 ∙ first_passes test n a.0
      | inr (g, inl a) ↦ ap test a.1 ∙ a.0
      | inr (g, inr a) ↦ absurd (omega (arith, a.1))
    ]

pub first_least : (test : ℕ → Bool) (n k : ℕ) → k < first test n → test k ≡ false
first_least test zero k l = absurd (not-suc-le-zero l)
first_least test (suc n) k l =
    elim (first_ways test n) [
      | inl a ↦ first_least test n k (omega (arith, a.1))
      | inr (g, inl a) ↦ first_least test n k (omega (arith, a.1))
      | inr (g, inr a) ↦
          elim (cases_eq k n) [
            | inl e ↦ ap test e ∙ a.0
            | inr e ↦ first_least test n k (omega (arith, a.1))
          ]
    ]

pub first_is : (test : ℕ → Bool) (n k : ℕ) → k < n → test k ≡ true → ((j : ℕ) → j < k → test j ≡ false) → first test n ≡ k
first_is test n k l pass none =
    elim (cases_order (first test n) k) [
      | inl e ↦ e
      | inr (inl b) ↦ absurd (both_ways _ (none (first test n) b) (first_passes test n (omega arith)))
      | inr (inr b) ↦ absurd (both_ways _ (first_least test n k b) pass)
    ]

pub first_none : (test : ℕ → Bool) (n : ℕ) → ((j : ℕ) → j < n → test j ≡ false) → first test n ≡ n
first_none test n none =
    elim (cases_lt (first test n) n) [
      | inl b ↦ absurd (both_ways _ (none (first test n) b) (first_passes test n b))
      | inr g ↦ omega (arith, first_most test n)
    ]

pub first_same : (test other : ℕ → Bool) (n : ℕ) → ((j : ℕ) → j < n → test j ≡ other j) → first test n ≡ first other n
first_same test other n same =
    elim (cases_lt (first other n) n) [
      | inl b ↦
          first_is test n (first other n) b (same _ b ∙ first_passes other n b)
          (λ j l. same j (omega arith) ∙ first_least other n j l)
      | inr g ↦
          first_none test n (λ j l. same j l ∙ first_least other n j (omega arith)) ∙ (omega (arith, first_most other n))
    ]

-- some number passes
pub some_at : (test : ℕ → Bool) (n k : ℕ) → k < n → test k ≡ true → ltb (first test n) n ≡ true
some_at test n k l pass =
    elim (cases_lt (first test n) n) [
      | inl b ↦ lt-ltb _ _ b
      | inr g ↦ absurd (both_ways _ (first_least test n k (omega arith)) pass)
    ]

pub none_at : (test : ℕ → Bool) (n k : ℕ) → ltb (first test n) n ≡ false → k < n → test k ≡ false
none_at test n k fail l = first_least test n k (omega (arith, ltb-false _ _ fail))

-- every number passes
pub all_at : (test : ℕ → Bool) (n k : ℕ) → all_below test n ≡ true → k < n → test k ≡ true
all_at test zero k pass l = absurd (not-suc-le-zero l)
all_at test (suc n) k pass l =
    let p = and_parts (all_below test n) (test n) pass in
    elim (cases_eq k n) [
      | inl e ↦ ap test e ∙ p.1
      | inr e ↦ all_at test n k p.0 (omega arith)
    ]

pub all_from : (test : ℕ → Bool) (n : ℕ) → ((k : ℕ) → k < n → test k ≡ true) → all_below test n ≡ true
all_from test zero h = refl
all_from test (suc n) h = and_from _ _ (all_from test n (λ k l. h k (omega arith))) (h n (omega arith))
