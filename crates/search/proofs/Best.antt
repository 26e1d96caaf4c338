-- The least cost in a list and the first that has it, as the list grows. Assumes nothing.
use Rattle.std.proofs.Common.{◌≡◌, ℕ, ◌<◌, ◌≤◌, min, Bool, true, false, cond, List, [], ◌∷◌, ◌++◌, Some, None, Option, sym, refl, ap, ◌∙◌, inl, inr, arith}
use Rattle.std.specs.List.{ContainsAt, AllByRecursion}
use Rattle.std.proofs.ByRecursion.{has_append_right, All-weaker}
use Rattle.std.proofs.lemmas.Bool.{lt-ltb, le-ltb, cases_lt, both_ways}
use Rattle.bisection.specs.Answers.{least, first_least, or_else}

min_below : (u v : ℕ) → v < u → min u v ≡ v
min_below u v h = omega arith

min_above : (u v : ℕ) → u ≤ v → min u v ≡ u
min_above u v h = omega arith

module _ {X : Type 0} (f : X → ℕ) where
  -- no cheaper one
  best_none : (u : ℕ) (ys : List X) → AllByRecursion (λ y. u ≤ f y) ys → first_least f u ys ≡ None
  best_none u [] h = refl
  best_none u (y ∷ ys) h =
      ap (λ b. cond b (or_else y (first_least f (f y) ys)) (first_least f u ys)) (le-ltb (f y) u h.0) ∙ best_none u ys h.1

  -- what is added and costs no less than the least changes nothing
  pub best_stays : (u : ℕ) (xs ys : List X) → AllByRecursion (λ y. least f u xs ≤ f y) ys → first_least f u (xs ++ ys) ≡ first_least f u xs
  best_stays u [] ys h = best_none u ys h
  best_stays u (x ∷ xs) ys h =
      elim (cases_lt (f x) u) [
        | inl lt ↦
            let h' : AllByRecursion (λ y. least f (f x) xs ≤ f y) ys = rw (min_below u (f x) lt) at h in
            rw (lt-ltb (f x) u lt) (ap (or_else x) (best_stays (f x) xs ys h'))
        | inr le ↦
            let h' : AllByRecursion (λ y. least f u xs ≤ f y) ys = rw (min_above u (f x) le) at h in
            rw (le-ltb (f x) u le) (best_stays u xs ys h')
      ]

  -- one that costs less takes over
  pub best_takes : (u : ℕ) (xs : List X) (y : X) → f y < least f u xs → first_least f u (xs ++ y ∷ []) ≡ Some y
  best_takes u [] y h = ap (λ b. cond b (Some y) None) (lt-ltb (f y) u h)
  best_takes u (x ∷ xs) y h =
      elim (cases_lt (f x) u) [
        | inl lt ↦
            let h' : f y < least f (f x) xs = rw (min_below u (f x) lt) at h in
            rw (lt-ltb (f x) u lt) (ap (or_else x) (best_takes (f x) xs y h'))
        | inr le ↦
            let h' : f y < least f u xs = rw (min_above u (f x) le) at h in
            rw (le-ltb (f x) u le) (best_takes u xs y h')
      ]

-- what the first of least cost is, in a list that an order R sorts
abbrev pub Sorted : {X : Type 0} → (X → X → Bool) → List X → Type 0
Sorted R [] = Unit {0}
Sorted R (x ∷ xs) = AllByRecursion (λ z. R z x ≡ false) xs × Sorted R xs

pub record Best {X : Type 0} (f : X → ℕ) (R : X → X → Bool) (u : ℕ) (xs : List X) (y : X) : Type 0 where
  pub among : ContainsAt xs y
  pub costs : f y ≡ least f u xs
  pub below : f y < u
  pub most : AllByRecursion (λ x. f y ≤ f x) xs
  pub first : AllByRecursion (λ x. R x y ≡ true → f y < f x) xs

pub record NoBest {X : Type 0} (f : X → ℕ) (u : ℕ) (xs : List X) : Type 0 where
  pub costs : least f u xs ≡ u
  pub most : AllByRecursion (λ x. u ≤ f x) xs

abbrev pub Outcome : {X : Type 0} (f : X → ℕ) (R : X → X → Bool) (u : ℕ) (xs : List X) → Option X → Type 0
Outcome f R u xs None = NoBest f u xs
Outcome f R u xs (Some y) = Best f R u xs y

module _ {X : Type 0} (f : X → ℕ) (R : X → X → Bool) (self : (x : X) → R x x ≡ false) where
  has_here : (x : X) (xs : List X) → ContainsAt (x ∷ xs) x
  has_here x xs = (0, omega arith, λ d. refl)

  has_later : (x : X) (xs : List X) (y : X) → ContainsAt xs y → ContainsAt (x ∷ xs) y
  has_later x xs y h = has_append_right (x ∷ []) xs y h

  -- x costs less than u: it is the best unless a later one costs less
  taken : (u : ℕ) (x : X) (xs : List X) → f x < u → AllByRecursion (λ z. R z x ≡ false) xs → (o : Option X)
      → Outcome f R (f x) xs o → Outcome f R u (x ∷ xs) (or_else x o)
  taken u x xs lt s None h = record {
    among = has_here x xs;
    costs = sym (ap (λ v. least f v xs) (min_below u (f x) lt) ∙ h.costs);
    below = lt;
    most = (omega arith, h.most);
    first = ((λ e. absurd (both_ways _ (self x) e)), All-weaker (λ z. R z x ≡ false) (λ z. R z x ≡ true → f x < f z) (λ z p e. absurd (both_ways _ p e)) xs s);
  }
  taken u x xs lt s (Some y) h = record {
    among = has_later x xs y h.among;
    costs = h.costs ∙ sym (ap (λ v. least f v xs) (min_below u (f x) lt));
    below = omega (arith, h.below);
    most = (omega (arith, h.below), h.most);
    first = ((λ e. h.below), h.first);
  }

  passed : (u : ℕ) (x : X) (xs : List X) → u ≤ f x → (o : Option X) → Outcome f R u xs o → Outcome f R u (x ∷ xs) o
  passed u x xs le None h = record {
    costs = ap (λ v. least f v xs) (min_above u (f x) le) ∙ h.costs;
    most = (le, h.most);
  }
  passed u x xs le (Some y) h = record {
    among = has_later x xs y h.among;
    costs = h.costs ∙ sym (ap (λ v. least f v xs) (min_above u (f x) le));
    below = h.below;
    most = (omega (arith, h.below), h.most);
    first = ((λ e. omega (arith, h.below)), h.first);
  }

  pub best_law : (u : ℕ) (xs : List X) → Sorted R xs → Outcome f R u xs (first_least f u xs)
  best_law u [] s = record { costs = refl; most = tt }
  best_law u (x ∷ xs) s =
      elim (cases_lt (f x) u) [
        | inl lt ↦ rw (lt-ltb (f x) u lt) (taken u x xs lt s.0 (first_least f (f x) xs) (best_law (f x) xs s.1))
        | inr le ↦ rw (le-ltb (f x) u le) (passed u x xs le (first_least f u xs) (best_law u xs s.1))
      ]
