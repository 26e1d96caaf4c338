-- The lawful bisections: which are in their list, and its order. Assumes nothing.
use Rattle.std.proofs.Common.{◌≡◌, ℕ, zero, suc, Bool, true, false, cond, ◌&&◌, eqb, List, [], ◌∷◌, ◌++◌, map, length, get_or, filter, refl, ap, ◌∙◌}
use Rattle.std.specs.List.{AllByRecursion}
use Rattle.std.proofs.ByRecursion.{All-from_get_or, All-append, All-map, All-weaker, all_kept_by, kept_by_passes}
use Rattle.std.proofs.lemmas.Bool.{eq-eqb, or_right}
use Rattle.parish.specs.Model.{Model}
use Rattle.bisection.specs.Lots.{pinned, extends}
use Rattle.bisection.specs.Weights.{balanced}
use Rattle.bisection.specs.Bisections.{bisections, lawful, Lawful, lawful_bisections, before}
use Rattle.bisection.proofs.Tests.{bisects_decided, lawful_decided}
use Rattle.bisection.proofs.Listing.{all_of_kept, each_bisection, bisection_has}
use Rattle.search.proofs.Kept.{kept_by_same_in}
use Rattle.search.proofs.Best.{Sorted}

-- each of the list bisects, so pins and weights decide
pub lawful_is_kept : (m : Model) (limit : ℕ)
    → lawful_bisections m limit ≡ filter (λ d. extends (pinned m) d && balanced m limit d) (bisections (length m.households))
lawful_is_kept m limit =
    let Q : List ℕ → Bool = λ d. extends (pinned m) d && balanced m limit d in
    kept_by_same_in (lawful m limit) Q (bisections (length m.households))
    (each_bisection (λ d. lawful m limit d ≡ Q d) (length m.households)
    (λ d e r. ap (λ b. b && Q d) ((bisects_decided m d).1 (record { long = e; set_each = r }))))

pub all_lawful : (m : Model) (limit : ℕ) → AllByRecursion (Lawful m limit) (lawful_bisections m limit)
all_lawful m limit =
    All-weaker (λ d. lawful m limit d ≡ true) (Lawful m limit) (λ d e. (lawful_decided m limit d).0 e) (lawful_bisections m limit)
    (kept_by_passes (lawful m limit) (bisections (length m.households)))

-- what holds of all of the list holds of each that is lawful in words
pub lawful_has : (m : Model) (limit : ℕ) (P : List ℕ → Type 0) → AllByRecursion P (lawful_bisections m limit) → (d : List ℕ) → Lawful m limit d → P d
lawful_has m limit P h d w =
    bisection_has (λ d. lawful m limit d ≡ true → P d) (length m.households)
    (all_of_kept (lawful m limit) P (bisections (length m.households)) h) d w.whole.long w.whole.set_each
    ((lawful_decided m limit d).1 w)

-- ---- in their order
pub before_self : (d : List ℕ) → before d d ≡ false
before_self [] = refl
before_self (x ∷ d) = ap (λ b. cond b (before d d) (eqb x 1)) (or_right (eqb x 0) (eqb x x) (eq-eqb x x refl)) ∙ before_self d

sorted_append : {X : Type 0} (R : X → X → Bool) (xs ys : List X) → Sorted R xs → Sorted R ys → AllByRecursion (λ x. AllByRecursion (λ y. R y x ≡ false) ys) xs → Sorted R (xs ++ ys)
sorted_append R [] ys s t h = t
sorted_append R (x ∷ xs) ys s t h = (All-append (λ z. R z x ≡ false) xs ys s.0 h.0, sorted_append R xs ys s.1 t h.1)

sorted_map : {X Y : Type 0} (R : X → X → Bool) (S : Y → Y → Bool) (f : Y → X) → ((x y : Y) → R (f x) (f y) ≡ S x y) → (ys : List Y) → Sorted S ys → Sorted R (map f ys)
sorted_map R S f e [] s = tt
sorted_map R S f e (y ∷ ys) s = (
  All-map (λ z. R z (f y) ≡ false) f ys (All-weaker (λ z. S z y ≡ false) (λ z. R (f z) (f y) ≡ false) (λ z p. e z y ∙ p) ys s.0),
  sorted_map R S f e ys s.1,
)

pub sorted_kept : {X : Type 0} (R : X → X → Bool) (p : X → Bool) (xs : List X) → Sorted R xs → Sorted R (filter p xs)
sorted_kept R p [] s = tt
sorted_kept R p (x ∷ xs) s = by (p x) (all_kept_by p (λ z. R z x ≡ false) xs s.0) (sorted_kept R p xs s.1)
  where
    by : (b : Bool) → AllByRecursion (λ z. R z x ≡ false) (filter p xs) → Sorted R (filter p xs) → Sorted R (cond b (x ∷ filter p xs) (filter p xs))
    by true h ih = (h, ih)
    by false h ih = ih

sorted_bisections : (n : ℕ) → Sorted before (bisections n)
sorted_bisections zero = (tt, tt)
sorted_bisections (suc n) =
    sorted_append before (map (λ d. 1 ∷ d) (bisections n)) (map (λ d. 2 ∷ d) (bisections n))
    (sorted_map before before (λ d. 1 ∷ d) (λ x y. refl) (bisections n) (sorted_bisections n))
    (sorted_map before before (λ d. 2 ∷ d) (λ x y. refl) (bisections n) (sorted_bisections n))
    (All-map (λ x. AllByRecursion (λ y. before y x ≡ false) (map (λ d. 2 ∷ d) (bisections n))) (λ d. 1 ∷ d) (bisections n)
    (All-from_get_or _ (bisections n) [] (λ i _. All-map (λ y. before y (1 ∷ get_or (bisections n) i []) ≡ false) (λ d. 2 ∷ d) (bisections n) (All-from_get_or _ (bisections n) [] (λ j _. refl)))))

pub sorted_lawful : (m : Model) (limit : ℕ) → Sorted before (lawful_bisections m limit)
sorted_lawful m limit = sorted_kept before (lawful m limit) (bisections (length m.households)) (sorted_bisections (length m.households))
