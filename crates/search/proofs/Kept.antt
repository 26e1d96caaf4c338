-- Laws of lists that a test filters. Assumes nothing.
use Rattle.std.proofs.Common.{◌≡◌, Bool, true, false, cond, ◌&&◌, List, [], ◌∷◌, map, filter, sym, refl, ap, ◌∙◌, ap₂}
use Rattle.std.specs.List.{AllByRecursion}
use Rattle.std.proofs.Math.Bool.{and_comm}
use Rattle.std.proofs.lemmas.List.Elements.{filter_agree}

pub kept_by_map : {X Y : Type 0} (test : Y → Bool) (f : X → Y) (xs : List X) → filter test (map f xs) ≡ map f (filter (λ x. test (f x)) xs)
kept_by_map test f [] = refl
kept_by_map test f (x ∷ xs) =
    elim (test (f x)) as (λ b. cond b (f x ∷ filter test (map f xs)) (filter test (map f xs)) ≡ map f (cond b (x ∷ filter (λ y. test (f y)) xs) (filter (λ y. test (f y)) xs)))
    [ true ↦ ap (λ r. f x ∷ r) (kept_by_map test f xs) | false ↦ kept_by_map test f xs ]

pub kept_by_none : {X : Type 0} (p : X → Bool) → ((x : X) → p x ≡ false) → (xs : List X) → filter p xs ≡ []
kept_by_none p h [] = refl
kept_by_none p h (x ∷ xs) = ap₂ (λ b r. cond b (x ∷ r) r) (h x) (kept_by_none p h xs)

-- both tests, one after the other
pub kept_by_both : {X : Type 0} (p q : X → Bool) (xs : List X) → filter (λ x. p x && q x) xs ≡ filter q (filter p xs)
kept_by_both p q [] = refl
kept_by_both p q (x ∷ xs) =
    elim (p x) as (λ b. cond (b && q x) (x ∷ filter (λ y. p y && q y) xs) (filter (λ y. p y && q y) xs) ≡ filter q (cond b (x ∷ filter p xs) (filter p xs)))
    [ true ↦ ap (λ r. cond (q x) (x ∷ r) r) (kept_by_both p q xs) | false ↦ kept_by_both p q xs ]

-- the two tests in either order
pub kept_by_swap : {X : Type 0} (p q : X → Bool) (xs : List X) → filter p (filter q xs) ≡ filter q (filter p xs)
kept_by_swap p q xs = sym (kept_by_both q p xs) ∙ filter_agree _ _ (λ x. and_comm (q x) (p x)) xs ∙ kept_by_both p q xs

-- two tests that agree on a list keep the same of it
pub kept_by_same_in : {X : Type 0} (p q : X → Bool) (xs : List X) → AllByRecursion (λ x. p x ≡ q x) xs → filter p xs ≡ filter q xs
kept_by_same_in p q [] h = refl
kept_by_same_in p q (x ∷ xs) h = ap₂ (λ b r. cond b (x ∷ r) r) h.0 (kept_by_same_in p q xs h.1)
