-- 'Comes before', by test and in words. Assumes nothing.
use Rattle.std.proofs.Common.{◌≡◌, ℕ, zero, suc, ◌<◌, ◌≤◌, true, false, cond, ◌||◌, eqb, List, [], ◌∷◌, get_or, sym, refl, ◌∙◌, inl, inr, arith}
use Rattle.std.proofs.lemmas.Bool.{cases_Bool, cond-true, cond-false, false≢true}
use Rattle.std.proofs.lemmas.Bool.Decides.{nat_tests}
use Rattle.bisection.specs.Bisections.{before, ComesBefore}
use Rattle.bisection.specs.Words.{BeforeInWords}

-- a household that does not decide: unset, or the same
skips : (x y : ℕ) → (eqb y 0 || eqb x y) ≡ true → 1 ≤ y → x ≡ y
skips x y e h = grind (arith, nat_tests)

-- one that does: A, where the list has B
decides : (x y : ℕ) → y ≤ 2 → (eqb y 0 || eqb x y) ≡ false → eqb x 1 ≡ true → (x ≡ 1) × (y ≡ 2)
decides x y small e a = (grind (arith, nat_tests), grind (arith, nat_tests))

one_on : (x y : ℕ) (xs ys : List ℕ) → (1 ≤ y → x ≡ y) → ComesBefore xs ys → ComesBefore (x ∷ xs) (y ∷ ys)
one_on x y xs ys here c = record { place = suc c.place; has_A = c.has_A; has_B = c.has_B; same_till = till }
  where
    till : (j : ℕ) → j < suc c.place → 1 ≤ get_or (y ∷ ys) j 0 → get_or (x ∷ xs) j 0 ≡ get_or (y ∷ ys) j 0
    till zero lt h = here h
    till (suc j) lt h = c.same_till j (omega arith) h

comes_from : (d lots : List ℕ) → ((k : ℕ) → get_or lots k 0 ≤ 2) → before d lots ≡ true → ComesBefore d lots
comes_from [] lots small e = absurd (false≢true e)
comes_from (x ∷ d) [] small e = absurd (false≢true e)
comes_from (x ∷ d) (y ∷ lots) small e =
    elim (cases_Bool (eqb y 0 || eqb x y)) [
      | inl s ↦
          one_on x y d lots (skips x y s)
          (comes_from d lots (λ k. small (suc k)) (sym (cond-true (eqb y 0 || eqb x y) (before d lots) (eqb x 1) s) ∙ e))
      | inr s ↦
          let p = decides x y (small zero) s (sym (cond-false (eqb y 0 || eqb x y) (before d lots) (eqb x 1) s) ∙ e) in
          record { place = 0; has_A = p.0; has_B = p.1; same_till = λ j lt. absurd (omega arith) }
    ]

from_comes : (d lots : List ℕ) (place : ℕ) → get_or d place 0 ≡ 1 → get_or lots place 0 ≡ 2
    → ((j : ℕ) → j < place → 1 ≤ get_or lots j 0 → get_or d j 0 ≡ get_or lots j 0) → before d lots ≡ true
from_comes [] lots place a b same = absurd (omega arith)
from_comes (x ∷ d) [] place a b same = absurd (omega arith)
from_comes (x ∷ d) (y ∷ lots) zero a b same = at_once x y a b
  where
    at_once : (v w : ℕ) → v ≡ 1 → w ≡ 2 → cond (eqb w 0 || eqb v w) (before d lots) (eqb v 1) ≡ true
    at_once v w p q = rw (p, q) refl
from_comes (x ∷ d) (y ∷ lots) (suc place) a b same =
    let skip : (eqb y 0 || eqb x y) ≡ true = skipped x y (same zero (omega arith)) in
    cond-true (eqb y 0 || eqb x y) (before d lots) (eqb x 1) skip ∙ from_comes d lots place a b (λ j lt. same (suc j) (omega arith))
  where
    skipped : (v w : ℕ) → (1 ≤ w → v ≡ w) → (eqb w 0 || eqb v w) ≡ true
    skipped v w h = grind (arith, nat_tests)

pub before_decided : BeforeInWords
before_decided d lots small = (comes_from d lots small, λ c. from_comes d lots c.place c.has_A c.has_B c.same_till)
