-- A layer over a lower bound: what it means is a lower bound, and what it answers. Assumes nothing.
use Rattle.std.proofs.Common.{◌≡◌, ℕ, ◌+◌, ◌*◌, ◌≤◌, List, get_or, sym, ap, ◌∙◌, subst, arith}
use Rattle.parish.specs.Limits.{most_links, strongest_held}
use Rattle.parish.specs.Model.{Model, Sound}
use Rattle.bisection.specs.Lots.{Lots}
use Rattle.bisection.specs.Meanings.{Meaning}
use Rattle.bounds.specs.Adding.{added, Addition, over, IsLayer}
use Rattle.bounds.specs.Bounds.{strengths, Bounds, IsLowerBound}
use Rattle.bounds.specs.Consulting.{Answer}
use Rattle.bounds.proofs.Adding.{added_bounds}
use Rattle.bounds.proofs.Sums.{numbers_fit}

pub over_bounds : (layer : Addition) → IsLayer layer → (B : Meaning) (m : Model) (limit : ℕ) (lots : List ℕ) → Sound m → Lots m lots
    → Bounds m limit lots (B.number m limit lots) (B.charges m limit lots)
    → Bounds m limit lots ((over layer B).number m limit lots) ((over layer B).charges m limit lots)
over_bounds layer adds B m limit lots sound ok b =
    let below : List ℕ = B.charges m limit lots in
    added_bounds m limit lots (B.number m limit lots) (layer.number m limit lots below) below (layer.charges m limit lots below) b
    (adds m limit lots below sound ok b.within)

-- the charges that a lower bound has filled in are within the strengths
pub answer_within : (B : Meaning) → IsLowerBound B → (m : Model) (limit : ℕ) (lots before after : List ℕ) (n : ℕ) → Sound m
    → Answer B m limit lots before after n → (k : ℕ) → get_or after k 0 ≤ get_or (strengths m.links) k 0
answer_within B law m limit lots before after n sound a k =
    subst (λ (xs : List ℕ). get_or xs k 0 ≤ get_or (strengths m.links) k 0) (sym a.fills) ((law m limit lots sound a.fit.lots_fit).within k)

-- what is added to an answer from below is the layer's answer
pub over_answers : (layer : Addition) (B : Meaning) (m : Model) (limit : ℕ) (lots before below after : List ℕ) (n v : ℕ)
    → Answer B m limit lots before below n → v ≡ layer.number m limit lots below → after ≡ added below (layer.charges m limit lots below)
    → Answer (over layer B) m limit lots before after (n + v)
over_answers layer B m limit lots before below after n v a number charges =
    record {
      fit = a.fit;
      says = omega (arith, a.says, number, ap (λ xs. layer.number m limit lots xs) a.fills);
      fills = charges ∙ ap (λ xs. added xs (layer.charges m limit lots xs)) a.fills;
    }

-- which fits 32 bits
pub over_fits : (layer : Addition) → IsLayer layer → (B : Meaning) → IsLowerBound B
    → (m : Model) (limit : ℕ) (lots before below : List ℕ) (n v : ℕ) → Sound m
    → Answer B m limit lots before below n → v ≡ layer.number m limit lots below → n + v ≤ strongest_held * most_links
over_fits layer adds B law m limit lots before below n v sound a number =
    let ok : Lots m lots = a.fit.lots_fit in
    let b = over_bounds layer adds B m limit lots sound ok (law m limit lots sound ok) in
    omega (arith, (numbers_fit m limit lots _ _ sound b).0, a.says, number, ap (λ xs. layer.number m limit lots xs) a.fills)
