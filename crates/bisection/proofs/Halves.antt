-- What lots weigh: the two of a bisection the whole, and none more than a parish can. Assumes nothing.
use Rattle.std.proofs.Common.{◌≡◌, ℕ, zero, suc, ◌+◌, ◌*◌, ◌<◌, ◌≤◌, Bool, true, false, cond, eqb, List, [], ◌∷◌, length, get_or, arith}
use Rattle.std.proofs.lemmas.List.Sums.{sum_by-cons}
use Rattle.std.proofs.lemmas.Bool.Decides.{nat_tests}
use Rattle.parish.specs.Limits.{most_households, heaviest_held}
use Rattle.parish.specs.View.{view}
use Rattle.parish.specs.Weights.{total_weight}
use Rattle.parish.specs.declared.items.Household.{Household}
use Rattle.parish.specs.declared.store.Parish.{Parish}
use Rattle.parish.proofs.Viewed.{total_held}
use Rattle.bisection.specs.Weights.{lot_weight}
use Rattle.bisection.specs.Words.{LeastLotWeight}

-- a household weighs in one of the lots
in_one : (x w : ℕ) → (1 ≤ x) × (x ≤ 2) → cond (eqb x 1) w 0 + cond (eqb x 2) w 0 ≡ w
in_one x w h = grind (arith, nat_tests)

-- so both lots weigh what all households do
pub both_lots : (hs : List Household) (d : List ℕ) → length d ≡ length hs → ((k : ℕ) → k < length d → (1 ≤ get_or d k 0) × (get_or d k 0 ≤ 2))
    → lot_weight 1 hs d + lot_weight 2 hs d ≡ total_weight hs
both_lots [] d e h = omega arith
both_lots (x ∷ hs) [] e h = absurd (omega arith)
both_lots (x ∷ hs) (y ∷ d) e h =
    omega (arith, in_one y x.weight (h zero (omega arith)), both_lots hs d (omega arith) (λ k lt. h (suc k) (omega arith)), sum_by-cons (λ (z : Household). z.weight) x hs)

-- where no byte is left nothing is weighed
pub lot_weight-nil : (lot : ℕ) (hs : List Household) → lot_weight lot hs [] ≡ 0
lot_weight-nil lot [] = omega arith
lot_weight-nil lot (x ∷ hs) = omega arith

-- a lot weighs no more than all households
lot_within : (lot : ℕ) (hs : List Household) (d : List ℕ) → lot_weight lot hs d ≤ total_weight hs
lot_within lot [] d = omega arith
lot_within lot (x ∷ hs) [] = omega arith
lot_within lot (x ∷ hs) (y ∷ d) = by (eqb y lot) (lot_within lot hs d)
  where
    by : (b : Bool) → lot_weight lot hs d ≤ total_weight hs → cond b x.weight 0 + lot_weight lot hs d ≤ total_weight (x ∷ hs)
    by true h = omega (arith, h, sum_by-cons (λ (z : Household). z.weight) x hs)
    by false h = omega (arith, h, sum_by-cons (λ (z : Household). z.weight) x hs)

-- and no parish weighs more than its limits allow
pub lot_light : (p : Parish) (lots : List ℕ) (lot : ℕ) → lot_weight lot (view p).households lots ≤ most_households * heaviest_held
lot_light p lots lot = omega (arith, lot_within lot (view p).households lots, total_held p)

pub least_lot_weighs : LeastLotWeight
least_lot_weighs m limit d w =
    let both = both_lots m.households d w.whole.long w.whole.set_each in
    (omega (arith, both, w.light.light_B), omega (arith, both, w.light.light_A))
