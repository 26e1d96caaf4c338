-- What is reported of two sheets: the parish that they spell in four numbers, or their first fault. Assumes nothing.
use Rattle.std.specs.Prelude.{ℕ, List, length, Ok, Err, Result}
use Rattle.parish.specs.Model.{Model}
use Rattle.parish.specs.Weights.{total_weight, cap_at}
use Rattle.faults.specs.declared.LoadFault.{LoadFault}
use Rattle.spelling.specs.Loads.{loaded}
use Rattle.report.specs.declared.reports.Summary.{Summary}
use Rattle.report.specs.Texts.{summary_text, fault_text}

-- the counts, the total weight, and the cap at tolerance 0
abbrev pub summary_of : Model → Summary
summary_of m =
    record {
      households = length m.households;
      links = length m.links;
      weight = total_weight m.households;
      cap = cap_at (total_weight m.households) 0;
    }

-- the report of a load
abbrev pub outcome_text : Result Model LoadFault → List ℕ
outcome_text (Ok m) = summary_text (summary_of m)
outcome_text (Err f) = fault_text f

-- the report of two sheets
abbrev pub sheets_text : List ℕ → List ℕ → List ℕ
sheets_text households links = outcome_text (loaded households links)
