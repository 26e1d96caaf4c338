use Rattle.std.proofs.Common.{◌≡◌, ◌≤◌}
use Rattle.packing.specs.Grounded.{ground_of}
use Rattle.packing.specs.Stands.{Sown}
use Rattle.packing.proofs.growth.Growth.plant.Given as goal

abbrev pub invariant-loop-household : goal.invariant-loop-household
invariant-loop-household l =
    record {
      sown : Sown (ground_of l.self.question) l.household l.self l.roots;
      few : l.roots ≤ l.household;
      question : l.self.question ≡ l.initial.self.question;
    }
