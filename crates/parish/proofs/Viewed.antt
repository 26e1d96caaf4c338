-- Every parish keeps its limits. Assumes nothing.
use Rattle.std.proofs.Common.{◌≡◌, ℕ, ◌*◌, ◌<◌, ◌≤◌, List, length, get_or, vec_items, sym, subst, arith, rules}
use Rattle.std.specs.Int.{div_ceil}
use Rattle.std.proofs.lemmas.Nat.{mul-le}
use Rattle.std.proofs.ByRecursion.{All-from_get_or, sum_by_le}
use Rattle.parish.specs.Limits.{most_households, heaviest_held, Joined}
use Rattle.parish.specs.Model.{Sound, no_household}
use Rattle.parish.specs.View.{view}
use Rattle.parish.specs.Weights.{total_weight, half_up}
use Rattle.parish.specs.declared.items.Household.{Household}
use Rattle.parish.specs.declared.store.Parish.{Parish}

pub parish_sound : (p : Parish) → Sound (view p)
parish_sound p =
    record {
      few = search rules;
      weights = p.weights;
      short = search rules;
      joined = subst (λ n. Joined n (vec_items p.links)) p.households.ok.0 p.joined;
    }

-- a household of the parish, read from a list that is its households
pub household_light : (p : Parish) (hs : List Household) (k : ℕ) → hs ≡ (view p).households → k < length hs
    → ((get_or hs k no_household).weight ≤ heaviest_held) × (length hs ≤ most_households)
household_light p hs k e lt =
    subst (λ xs. k < length xs → ((get_or xs k no_household).weight ≤ heaviest_held) × (length xs ≤ most_households)) (sym e)
    (λ below. ((parish_sound p).weights k no_household below, (parish_sound p).few)) lt

-- the total weight of a parish fits with room to spare
pub total_held : (p : Parish) → total_weight (view p).households ≤ most_households * heaviest_held
total_held p =
    let hs = (view p).households in
    let each = sum_by_le (λ (h : Household). h.weight) heaviest_held hs (All-from_get_or (λ (h : Household). h.weight ≤ heaviest_held) hs no_household (λ k lt. (parish_sound p).weights k no_household lt)) in
    omega (arith, each, mul-le (length hs) heaviest_held most_households heaviest_held (parish_sound p).few (omega arith))

-- half a weight rounded up, as the library has it
pub half_up-div_ceil : (w : ℕ) → div_ceil w 2 ≡ half_up w
half_up-div_ceil w = omega arith
