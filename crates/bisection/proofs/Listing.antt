-- What holds of all of a list, and the list of all bisections. Assumes nothing.
use Rattle.std.proofs.Common.{◌≡◌, ℕ, zero, suc, ◌<◌, ◌≤◌, min, Bool, true, false, cond, ◌⊎◌, List, [], ◌∷◌, ◌++◌, map, length, get_or, filter, sym, refl, ap, subst, inl, inr, arith}
use Rattle.std.specs.List.{AllByRecursion}
use Rattle.std.proofs.ByRecursion.{All-append, All-map}
use Rattle.std.proofs.lemmas.Bool.{cases_lt, false≢true}
use Rattle.bisection.specs.Bisections.{bisections}
use Rattle.bisection.specs.Answers.{least}

-- what holds of all of two lists, or of a mapped one
pub left_all : {X : Type 0} (P : X → Type 0) (xs ys : List X) → AllByRecursion P (xs ++ ys) → AllByRecursion P xs
left_all P [] ys h = tt
left_all P (x ∷ xs) ys h = (h.0, left_all P xs ys h.1)

pub right_all : {X : Type 0} (P : X → Type 0) (xs ys : List X) → AllByRecursion P (xs ++ ys) → AllByRecursion P ys
right_all P [] ys h = h
right_all P (x ∷ xs) ys h = right_all P xs ys h.1

pub map_all : {X Y : Type 0} (P : X → Type 0) (f : Y → X) (ys : List Y) → AllByRecursion P (map f ys) → AllByRecursion (λ y. P (f y)) ys
map_all P f [] h = tt
map_all P f (y ∷ ys) h = (h.0, map_all P f ys h.1)

-- what passes a test, to what is kept
pub all_of_kept : {X : Type 0} (p : X → Bool) (P : X → Type 0) (xs : List X) → AllByRecursion P (filter p xs) → AllByRecursion (λ x. p x ≡ true → P x) xs
all_of_kept p P [] h = tt
all_of_kept p P (x ∷ xs) h = by (p x) (all_of_kept p P xs) h
  where
    by : (b : Bool) → (AllByRecursion P (filter p xs) → AllByRecursion (λ y. p y ≡ true → P y) xs) → AllByRecursion P (cond b (x ∷ filter p xs) (filter p xs))
        → (b ≡ true → P x) × AllByRecursion (λ y. p y ≡ true → P y) xs
    by true ih g = ((λ _. g.0), ih g.1)
    by false ih g = ((λ e. absurd (false≢true e)), ih g)

-- and from what is kept
pub all_kept_with : {X : Type 0} (p : X → Bool) (P : X → Type 0) (xs : List X) → AllByRecursion (λ x. p x ≡ true → P x) xs → AllByRecursion P (filter p xs)
all_kept_with p P [] h = tt
all_kept_with p P (x ∷ xs) h = by (p x) h.0 (all_kept_with p P xs h.1)
  where
    by : (b : Bool) → (b ≡ true → P x) → AllByRecursion P (filter p xs) → AllByRecursion P (cond b (x ∷ filter p xs) (filter p xs))
    by true h ih = (h refl, ih)
    by false h ih = ih

-- at most the least: at most each
pub below_least : {X : Type 0} (f : X → ℕ) (u n : ℕ) (xs : List X) → n ≤ least f u xs → (n ≤ u) × AllByRecursion (λ x. n ≤ f x) xs
below_least f u n [] h = (h, tt)
below_least f u n (x ∷ xs) h =
    let q = below_least f (min u (f x)) n xs h in
    (omega (arith, q.0), (omega (arith, q.0), q.1))

pub above_least : {X : Type 0} (f : X → ℕ) (u n : ℕ) (xs : List X) → n ≤ u → AllByRecursion (λ x. n ≤ f x) xs → n ≤ least f u xs
above_least f u n [] h a = h
above_least f u n (x ∷ xs) h a = above_least f (min u (f x)) n xs (omega (arith, a.0)) a.1

-- every byte is 1 or 2
abbrev pub AllSet : List ℕ → Type 0
AllSet d = (k : ℕ) → k < length d → (1 ≤ get_or d k 0) × (get_or d k 0 ≤ 2)

pub one_or_two : (x : ℕ) → (1 ≤ x) × (x ≤ 2) → (x ≡ 1) ⊎ (x ≡ 2)
one_or_two x h =
    elim (cases_lt x 2) [
      | inl lt ↦ inl (omega arith)
      | inr le ↦ inr (omega arith)
    ]

set_cons : (x : ℕ) (d : List ℕ) → (1 ≤ x) × (x ≤ 2) → AllSet d → AllSet (x ∷ d)
set_cons x d h r zero lt = h
set_cons x d h r (suc k) lt = r k (omega arith)

-- what holds of each list of n bytes that are all set holds of each of the list
pub each_bisection : (P : List ℕ → Type 0) (n : ℕ) → ((d : List ℕ) → length d ≡ n → AllSet d → P d) → AllByRecursion P (bisections n)
each_bisection P zero h = (h [] refl (λ k lt. absurd (omega arith)), tt)
each_bisection P (suc n) h =
    All-append P (map (λ d. 1 ∷ d) (bisections n)) (map (λ d. 2 ∷ d) (bisections n))
    (All-map P (λ d. 1 ∷ d) (bisections n) (each_bisection (λ d. P (1 ∷ d)) n (λ d e r. h (1 ∷ d) (ap suc e) (set_cons 1 d (omega arith, omega arith) r))))
    (All-map P (λ d. 2 ∷ d) (bisections n) (each_bisection (λ d. P (2 ∷ d)) n (λ d e r. h (2 ∷ d) (ap suc e) (set_cons 2 d (omega arith, omega arith) r))))

-- and the other way round
pub bisection_has : (P : List ℕ → Type 0) (n : ℕ) → AllByRecursion P (bisections n) → (d : List ℕ) → length d ≡ n → AllSet d → P d
bisection_has P zero h [] e r = h.0
bisection_has P zero h (x ∷ d) e r = absurd (omega arith)
bisection_has P (suc n) h [] e r = absurd (omega arith)
bisection_has P (suc n) h (x ∷ d) e r =
    elim (one_or_two x (r zero (omega arith))) [
      | inl o ↦ from 1 o (left_all P (map (λ z. 1 ∷ z) (bisections n)) _ h) (bisection_has (λ z. P (1 ∷ z)) n)
      | inr o ↦ from 2 o (right_all P (map (λ z. 1 ∷ z) (bisections n)) _ h) (bisection_has (λ z. P (2 ∷ z)) n)
    ]
  where
    from : (y : ℕ) → x ≡ y → AllByRecursion P (map (λ z. y ∷ z) (bisections n))
        → (AllByRecursion (λ z. P (y ∷ z)) (bisections n) → (z : List ℕ) → length z ≡ n → AllSet z → P (y ∷ z)) → P (x ∷ d)
    from y o all ih =
        subst (λ (v : ℕ). P (v ∷ d)) (sym o)
        (ih (map_all P (λ z. y ∷ z) (bisections n) all) d (omega arith) (λ k lt. r (suc k) (omega arith)))
