-- The lots of a node, and of the nodes below it. Assumes nothing.
use Rattle.std.proofs.Common.{◌≡◌, ℕ, zero, suc, ◌<◌, ◌≤◌, cond, eqb, List, [], ◌∷◌, ◌++◌, map, length, get_or, Some, None, Option, refl, ap, ◌∙◌, le_of_suc-le-suc, not-suc-le-zero, arith}
use lib.ListN.{length-map}
use Rattle.std.specs.List.{AllByRecursion}
use Rattle.std.proofs.ByRecursion.{All-append, All-map}
use Rattle.std.proofs.lemmas.Bool.{cond-false, ne_eqb}
use Rattle.parish.specs.Model.{Model}
use Rattle.parish.specs.declared.items.Household.{Household}
use Rattle.parish.specs.declared.items.Lot.{Lot}
use Rattle.parish.specs.declared.items.Lot.TheVariants.{A, B}
use Rattle.parish.specs.Lots.{lot_byte}
use Rattle.bisection.specs.Lots.{pins, Lots, Bisects, Extends}
use Rattle.bisection.specs.Weights.{lot_weight, Balanced}
use Rattle.search.specs.Nodes.{free, dealt, lots_of}
use Rattle.search.proofs.Order.{leaves, leaves_below}

-- what holds of every leaf that goes on from a node holds of the leaves below it
all_leaves : (P : List Lot → Type 0) (k : ℕ) → ((l : List Lot) → length l ≡ k → P l) → AllByRecursion P (leaves k)
all_leaves P zero h = (h [] refl, tt)
all_leaves P (suc k) h =
    All-append P (map (λ l. A ∷ l) (leaves k)) (map (λ l. B ∷ l) (leaves k))
    (All-map P (λ l. A ∷ l) (leaves k) (all_leaves (λ l. P (A ∷ l)) k (λ l e. h (A ∷ l) (ap suc e))))
    (All-map P (λ l. B ∷ l) (leaves k) (all_leaves (λ l. P (B ∷ l)) k (λ l e. h (B ∷ l) (ap suc e))))

pub all_below : (P : List Lot → Type 0) (n : List Lot) (k : ℕ) → ((r : List Lot) → length (n ++ r) ≡ k → P (n ++ r)) → AllByRecursion P (leaves_below k n)
all_below P [] k h = all_leaves P k h
all_below P (x ∷ n) zero h = tt
all_below P (x ∷ n) (suc k) h =
    All-map P (λ l. x ∷ l) (leaves_below k n) (all_below (λ l. P (x ∷ l)) n k (λ r e. h r (ap suc e)))

byte_range : (l : Lot) → (1 ≤ lot_byte l) × (lot_byte l ≤ 2)
byte_range A = (omega arith, omega arith)
byte_range B = (omega arith, omega arith)

dealt_length : (ps : List (Option Lot)) (n : List Lot) → length (dealt ps n) ≡ length ps
dealt_length [] n = refl
dealt_length (Some l ∷ ps) n = ap suc (dealt_length ps n)
dealt_length (None ∷ ps) [] = ap suc (dealt_length ps [])
dealt_length (None ∷ ps) (x ∷ n) = ap suc (dealt_length ps n)

dealt_small : (ps : List (Option Lot)) (n : List Lot) (k : ℕ) → get_or (dealt ps n) k 0 ≤ 2
dealt_small [] n k = omega arith
dealt_small (Some l ∷ ps) n zero = (byte_range l).1
dealt_small (Some l ∷ ps) n (suc k) = dealt_small ps n k
dealt_small (None ∷ ps) [] zero = omega arith
dealt_small (None ∷ ps) [] (suc k) = dealt_small ps [] k
dealt_small (None ∷ ps) (x ∷ n) zero = (byte_range x).1
dealt_small (None ∷ ps) (x ∷ n) (suc k) = dealt_small ps n k

dealt_set : (ps : List (Option Lot)) (n : List Lot) → length n ≡ free ps → (k : ℕ) → k < length (dealt ps n) → 1 ≤ get_or (dealt ps n) k 0
dealt_set [] n e k h = absurd (not-suc-le-zero h)
dealt_set (Some l ∷ ps) n e zero h = (byte_range l).0
dealt_set (Some l ∷ ps) n e (suc k) h = dealt_set ps n e k (le_of_suc-le-suc h)
dealt_set (None ∷ ps) [] e k h = absurd (omega arith)
dealt_set (None ∷ ps) (x ∷ n) e zero h = (byte_range x).0
dealt_set (None ∷ ps) (x ∷ n) e (suc k) h = dealt_set ps n (omega arith) k (le_of_suc-le-suc h)

pub length_pins : (m : Model) → length (pins m) ≡ length m.households
length_pins m = length-map m.households (λ (h : Household). h.pin)

pub lots_fit : (m : Model) (n : List Lot) → Lots m (lots_of m n)
lots_fit m n = record { long = dealt_length (pins m) n ∙ length_pins m; small = dealt_small (pins m) n }

pub leaf_bisects : (m : Model) (n : List Lot) → length n ≡ free (pins m) → Bisects m (lots_of m n)
leaf_bisects m n e =
    record { long = dealt_length (pins m) n ∙ length_pins m; set_each = λ k h. (dealt_set (pins m) n e k h, dealt_small (pins m) n k) }

dealt_extends : (ps : List (Option Lot)) (n r : List Lot) → Extends (dealt ps n) (dealt ps (n ++ r))
dealt_extends [] n r k h = refl
dealt_extends (Some l ∷ ps) n r zero h = refl
dealt_extends (Some l ∷ ps) n r (suc k) h = dealt_extends ps n r k h
dealt_extends (None ∷ ps) [] [] k h = refl
dealt_extends (None ∷ ps) [] (x ∷ r) zero h = absurd (omega arith)
dealt_extends (None ∷ ps) [] (x ∷ r) (suc k) h = dealt_extends ps [] r k h
dealt_extends (None ∷ ps) (x ∷ n) r zero h = refl
dealt_extends (None ∷ ps) (x ∷ n) r (suc k) h = dealt_extends ps n r k h

pub lots_extend : (m : Model) (n r : List Lot) → Extends (lots_of m n) (lots_of m (n ++ r))
lots_extend m n r = dealt_extends (pins m) n r

-- a lot's weight only grows
weight_grows : (lot : ℕ) (hs : List Household) (ps : List (Option Lot)) (n r : List Lot) → 1 ≤ lot
    → lot_weight lot hs (dealt ps n) ≤ lot_weight lot hs (dealt ps (n ++ r))
weight_grows lot [] ps n r h = omega arith
weight_grows lot (x ∷ hs) [] n r h = omega arith
weight_grows lot (x ∷ hs) (Some l ∷ ps) n r h = omega (arith, weight_grows lot hs ps n r h)
weight_grows lot (x ∷ hs) (None ∷ ps) [] [] h = omega arith
weight_grows lot (x ∷ hs) (None ∷ ps) [] (y ∷ r) h =
    let z : cond (eqb 0 lot) x.weight 0 ≡ 0 = cond-false (eqb 0 lot) x.weight 0 (ne_eqb 0 lot (λ e. omega arith)) in
    omega (arith, z, weight_grows lot hs ps [] r h)
weight_grows lot (x ∷ hs) (None ∷ ps) (y ∷ n) r h = omega (arith, weight_grows lot hs ps n r h)

-- so a node is light where one below it is
pub light_above : (m : Model) (limit : ℕ) (n r : List Lot) → Balanced m limit (lots_of m (n ++ r)) → Balanced m limit (lots_of m n)
light_above m limit n r b =
    record {
      light_A = omega (arith, b.light_A, weight_grows 1 m.households (pins m) n r (omega arith));
      light_B = omega (arith, b.light_B, weight_grows 2 m.households (pins m) n r (omega arith));
    }
