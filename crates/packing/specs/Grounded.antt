-- The ground of a question in the program. Assumes nothing.
use Rattle.std.specs.Prelude.{ℕ, cond, Some, None, Option, nat_lt}
use Rattle.parish.specs.Model.{Model}
use Rattle.forest.specs.Grounds.{Ground, ground_for}
use Rattle.packing.specs.declared.question.Question.{Question}

-- the parish that a question is about
abbrev pub parish_of : Question → Model
parish_of q = record { households = q.households.now; links = q.links.now }

-- and the ground that it gives
abbrev pub ground_of : Question → Ground
ground_of q = ground_for q.home (parish_of q) q.lots.now q.charges.now

-- a number where it is below n, else none
abbrev pub below : ℕ → ℕ → Option ℕ
below n x = cond (nat_lt x n) (Some x) None
