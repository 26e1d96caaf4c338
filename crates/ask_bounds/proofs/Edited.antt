-- An edit that is not refused changes the parish.
use Rattle.std.proofs.Common.{◌≡◌, List, Some, None, Ok, Option, refl, ◌∙◌}
use Rattle.parish.specs.Edits.{Edited, answer_by, left_by}
use Rattle.parish.specs.Model.{Model}
use Rattle.parish.specs.Refusals.{Row, first_applying}
use Rattle.parish.specs.declared.refusals.Refusal.{Refusal}

pub edited : {X : Type 0} (rows : List Row) (value x : X) (before changed after : Model) → Edited rows value before changed after (Ok x) → after ≡ changed
edited {X} rows value x before changed after e = e.leaves ∙ by (first_applying rows) e.answer
  where
    by : (o : Option Refusal) → Ok x ≡ answer_by o value → left_by o before changed ≡ changed
    by None h = refl
    by (Some d) h = absurd cc
