use Rattle.std.proofs.Common.{◌≡◌, ℕ, ◌<◌, false}
use Rattle.forest.specs.Grounds.{leads}
use Rattle.forest.specs.Forests.{inside, outside}
use Rattle.packing.specs.Grounded.{ground_of}
use Rattle.packing.specs.Stands.{forest_of}
use Rattle.packing.specs.Growing.{LightestBelow}
use Rattle.packing.proofs.Grown.{Stands, left_out, alive}
use Rattle.packing.proofs.growth.Growth.grow.Given as goal

abbrev pub invariant-grow : goal.invariant-grow
invariant-grow l = record { stands : Stands l.self; question : l.self.question ≡ l.initial.self.question }

abbrev pub decreases-grow : goal.decreases-grow
decreases-grow l = left_out l.self

abbrev pub invariant-loop-root : goal.invariant-loop-root
invariant-loop-root l =
    record { stands : Stands l.self; left : left_out l.self ≡ left_out l.initial.self; question : l.self.question ≡ l.initial.self.question }

abbrev pub decreases-loop-root : goal.decreases-loop-root
decreases-loop-root l = alive (ground_of l.self.question).households l.self.trees

abbrev pub invariant-loop-link : goal.invariant-loop-link
invariant-loop-link l =
    record {
      same : l.self ≡ l.initial.self;
      stands : Stands l.self;
      best : LightestBelow l.self.trees (ground_of l.self.question).households l.root;
      none : (j : ℕ) → j < l.link
          → leads (ground_of l.self.question) (inside (forest_of l.self) l.root) (outside (ground_of l.self.question) (forest_of l.self)) j ≡ false;
    }
