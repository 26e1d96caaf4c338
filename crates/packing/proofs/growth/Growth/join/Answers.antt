use Rattle.std.proofs.Common.{ℕ, List, Option, add-one, refl, ◌∙◌, ap₂}
use Rattle.std.proofs.Math.Seq.{take-set-lt}
use Rattle.packing.specs.Grounded.{ground_of}
use Rattle.packing.proofs.Named.{set_named}
use Rattle.packing.proofs.growth.Growth.join.Goals as goal

pub returns : goal.returns
returns c =
    let g = c.args.self.now in
    record {
      question = refl;
      is =
          ap₂ (λ (x : List (Option ℕ)) (y : List ℕ). record { tree = x; taken = y })
          (set_named g.tree_of (ground_of g.question).households c.args.household c.args.root _ (c.tree_byte.ensures ∙ add-one c.args.root) c.requires.household)
          (take-set-lt (ground_of g.question).links g.taken c.args.link 1 c.requires.link);
      trees = refl;
    }
