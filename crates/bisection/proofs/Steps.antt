-- What the functions on lists of lots lean on. Assumes nothing.
use Rattle.std.proofs.Common.{◌≡◌, ℕ, ◌+◌, ◌<◌, ◌≤◌, true, cond, not, eqb, List, ◌∷◌, length, get_or, drop, Some, None, Ok, sym, ap, ◌∙◌, subst}
use Rattle.std.proofs.lemmas.List.{at_drop_more, at_drop_all}
use Rattle.parish.specs.Edits.{answered, answer_by}
use Rattle.parish.specs.Limits.{Joins}
use Rattle.parish.specs.Model.{Model, no_link, no_household}
use Rattle.parish.specs.View.{view}
use Rattle.parish.specs.declared.items.Household.{Household}
use Rattle.parish.specs.declared.items.Link.{Link}
use Rattle.parish.specs.declared.refusals.Refusal.TheVariants.{WrongList}
use Rattle.parish.specs.declared.store.Parish.{Parish}
use Rattle.parish.proofs.Viewed.{parish_sound}
use Rattle.bisection.specs.Lots.{lots_fit, lots_table}
use Rattle.bisection.specs.Weights.{lot_weight}

-- a link of the parish, read from a list that is its links
pub link_joins : (p : Parish) (ls : List Link) (k : ℕ) → ls ≡ (view p).links → k < length ls → Joins (length (view p).households) (get_or ls k no_link)
link_joins p ls k e lt =
    subst (λ xs. k < length xs → Joins (length (view p).households) (get_or xs k no_link)) (sym e)
    (λ below. (parish_sound p).joined k no_link below) lt

-- the weight of a lot, one household on
pub weight_more : (lot : ℕ) (hs : List Household) (lots : List ℕ) (k : ℕ) → k < length hs → k < length lots
    → lot_weight lot (drop k hs) (drop k lots)
    ≡ cond (eqb (get_or lots k 0) lot) (get_or hs k no_household).weight 0 + lot_weight lot (drop (k + 1) hs) (drop (k + 1) lots)
weight_more lot hs lots k h l =
    at_drop_more (λ xs. lot_weight lot xs (drop k lots)) hs k no_household h
    ∙ at_drop_more (lot_weight lot (get_or hs k no_household ∷ drop (k + 1) hs)) lots k 0 l

-- past the last household nothing is left
pub weight_done : (lot : ℕ) (hs : List Household) (lots : List ℕ) (k : ℕ) → length hs ≤ k → lot_weight lot (drop k hs) (drop k lots) ≡ 0
weight_done lot hs lots k h = at_drop_all (λ xs. lot_weight lot xs (drop k lots)) hs k h

-- a list that fits is answered
pub fit_answers : {X : Type 0} (m : Model) (lots : List ℕ) (x y : X) → lots_fit m lots ≡ true → x ≡ y → Ok x ≡ answered (lots_table m lots) y
fit_answers m lots x y e same = sym (ap (λ b. answer_by (cond (not b) (Some WrongList) None) y) e ∙ ap Ok (sym same))
