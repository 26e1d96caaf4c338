-- The tests on lists of lots say what their words say. Assumes nothing.
use Rattle.std.proofs.Common.{◌≡◌, ℕ, zero, suc, ◌<◌, ◌≤◌, Bool, true, ◌||◌, eqb, leb, List, [], ◌∷◌, length, get_or, Decides, refl, ⊎_elim, arith, lit≤}
use Rattle.std.specs.List.{list_all}
use Rattle.std.proofs.lemmas.List.{get_or_past}
use Rattle.std.proofs.lemmas.List.Recursion.{and_at, and_from_places}
use Rattle.std.proofs.lemmas.Bool.{leb-true, le-leb, eqb-true, cases_lt}
use Rattle.std.proofs.lemmas.Bool.Decides.{nat_tests, Decides-like, Decides-and, Decides-eqb}
use Rattle.parish.specs.Model.{Model}
use Rattle.bisection.specs.Lots.{pinned, allowed, lots_fit, Lots, all_set, bisects, Bisects, extends, Extends}
use Rattle.bisection.specs.Weights.{balanced, Balanced}
use Rattle.bisection.specs.Bisections.{lawful, Lawful}

-- a test of each byte of a list, by its places
each_place : (p : ℕ → Bool) (P : ℕ → Type 0) → ((x : ℕ) → Decides (p x) (P x)) → (xs : List ℕ)
    → Decides (list_all p xs) ((k : ℕ) → k < length xs → P (get_or xs k 0))
each_place p P each xs = (
  (λ all k lt. (each (get_or xs k 0)).0 (and_at (list_all p) p refl (λ _ _. refl) xs k 0 lt all)),
  (λ h. and_from_places (list_all p) p refl (λ _ _. refl) xs 0 (λ k lt. (each (get_or xs k 0)).1 (h k lt))),
)

Decides-leb : (a b : ℕ) → Decides (leb a b) (a ≤ b)
Decides-leb a b = (leb-true a b, le-leb a b)

allowed_decided : (xs : List ℕ) → Decides (allowed xs) ((k : ℕ) → get_or xs k 0 ≤ 2)
allowed_decided xs =
    Decides-like (allowed xs) (λ h k. ⊎_elim (h k) (λ (past : length xs ≤ k). rw (get_or_past xs k 0 past) (lit≤ tt)) (cases_lt k (length xs))) (λ h k _. h k)
    (each_place (λ x. leb x 2) (λ x. x ≤ 2) (λ x. Decides-leb x 2) xs)

pub lots_decided : (m : Model) (lots : List ℕ) → Decides (lots_fit m lots) (Lots m lots)
lots_decided m lots =
    Decides-like (lots_fit m lots) (λ p. record { long = p.0; small = p.1 }) (λ h. (h.long, h.small))
    (Decides-and _ (allowed lots) (Decides-eqb (length lots) (length m.households)) (allowed_decided lots))

-- one of the two lots
lot_decided : (x : ℕ) → Decides (eqb x 1 || eqb x 2) ((1 ≤ x) × (x ≤ 2))
lot_decided x = ((λ e. in_lot x e), (λ h. grind (arith, nat_tests)))
  where
    in_lot : (y : ℕ) → (eqb y 1 || eqb y 2) ≡ true → (1 ≤ y) × (y ≤ 2)
    in_lot y e = (grind (arith, nat_tests), grind (arith, nat_tests))

set_decided : (d : List ℕ) → Decides (all_set d) ((k : ℕ) → k < length d → (1 ≤ get_or d k 0) × (get_or d k 0 ≤ 2))
set_decided d = each_place (λ x. eqb x 1 || eqb x 2) (λ x. (1 ≤ x) × (x ≤ 2)) lot_decided d

pub bisects_decided : (m : Model) (d : List ℕ) → Decides (bisects m d) (Bisects m d)
bisects_decided m d =
    Decides-like (bisects m d) (λ p. record { long = p.0; set_each = p.1 }) (λ h. (h.long, h.set_each))
    (Decides-and _ (all_set d) (Decides-eqb (length d) (length m.households)) (set_decided d))

-- a byte that is unset, or kept
kept_decided : (x y : ℕ) → Decides (eqb x 0 || eqb y x) (1 ≤ x → y ≡ x)
kept_decided x y = ((λ e h. kept x y e h), (λ h. grind (arith, nat_tests)))
  where
    kept : (v w : ℕ) → (eqb v 0 || eqb w v) ≡ true → 1 ≤ v → w ≡ v
    kept v w e h = grind (arith, nat_tests)

unset_decided : (x : ℕ) → Decides (eqb x 0) (1 ≤ x → 0 ≡ x)
unset_decided x = ((λ e h. absurd (omega (arith, eqb-true x 0 e))), (λ h. grind (arith, nat_tests)))

at_each : (P : ℕ → Type 0) → P zero × ((k : ℕ) → P (suc k)) → (k : ℕ) → P k
at_each P h zero = h.0
at_each P h (suc k) = h.1 k

pub extends_decided : (lots d : List ℕ) → Decides (extends lots d) (Extends lots d)
extends_decided [] d = ((λ _ k h. absurd (omega arith)), (λ _. refl))
extends_decided (x ∷ lots) [] =
    Decides-like (extends (x ∷ lots) []) (at_each (λ k. 1 ≤ get_or (x ∷ lots) k 0 → get_or [] k 0 ≡ get_or (x ∷ lots) k 0)) (λ h. (h zero, λ k. h (suc k)))
    (Decides-and _ _ (unset_decided x) (extends_decided lots []))
extends_decided (x ∷ lots) (y ∷ d) =
    Decides-like (extends (x ∷ lots) (y ∷ d)) (at_each (λ k. 1 ≤ get_or (x ∷ lots) k 0 → get_or (y ∷ d) k 0 ≡ get_or (x ∷ lots) k 0)) (λ h. (h zero, λ k. h (suc k)))
    (Decides-and _ _ (kept_decided x y) (extends_decided lots d))

pub balanced_decided : (m : Model) (limit : ℕ) (d : List ℕ) → Decides (balanced m limit d) (Balanced m limit d)
balanced_decided m limit d =
    Decides-like (balanced m limit d) (λ p. record { light_A = p.0; light_B = p.1 }) (λ h. (h.light_A, h.light_B))
    (Decides-and _ _ (Decides-leb _ limit) (Decides-leb _ limit))

pub lawful_decided : (m : Model) (limit : ℕ) (d : List ℕ) → Decides (lawful m limit d) (Lawful m limit d)
lawful_decided m limit d =
    Decides-like (lawful m limit d) (λ p. record { whole = p.0; keeps_pins = p.1.0; light = p.1.1 }) (λ h. (h.whole, (h.keeps_pins, h.light)))
    (Decides-and _ _ (bisects_decided m d) (Decides-and _ _ (extends_decided (pinned m) d) (balanced_decided m limit d)))
