-- What decides whether lists fit a parish. Assumes nothing.
use Rattle.std.proofs.Common.{◌≡◌, ℕ, Bool, true, false, List, length, MatchBool, sym}
use Rattle.std.proofs.lemmas.Bool.{both_ways}
use Rattle.parish.specs.Model.{Model}
use Rattle.bisection.specs.Lots.{lots_fit}
use Rattle.bisection.proofs.Tests.{lots_decided}
use Rattle.bounds.specs.Consulting.{Fit}

-- where the charges fit, the lots decide
pub by_lots : (m : Model) (lots charges : List ℕ) → length charges ≡ length m.links → (r : Bool) → r ≡ lots_fit m lots
    → MatchBool r (Fit m lots charges) (Fit m lots charges → ⊥)
by_lots m lots charges same true e = record { lots_fit = (lots_decided m lots).0 (sym e); charges_fit = same }
by_lots m lots charges same false e = λ fit. both_ways (lots_fit m lots) (sym e) ((lots_decided m lots).1 fit.lots_fit)
