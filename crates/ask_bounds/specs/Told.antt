-- What is told of a question, whichever bound is asked. Assumes nothing.
use Rattle.std.specs.Prelude.{ℕ, List, Ok, Err, Result}
use Rattle.parish.specs.Model.{Model}
use Rattle.parish.specs.declared.refusals.Refusal.{Refusal}
use Rattle.bounds.specs.Bounds.{Bounds}
use Rattle.bounds.specs.Consulting.{NoAnswer}

-- a number and charges that keep the law of a lower bound; or a refusal, since a list does not fit, with nothing changed
abbrev pub Told : Model → ℕ → List ℕ → List ℕ → List ℕ → Result ℕ Refusal → Type 0
Told m limit lots before after (Ok n) = Bounds m limit lots n after
Told m limit lots before after (Err e) = NoAnswer m lots before after e
