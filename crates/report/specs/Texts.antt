-- The exact bytes of each report. Assumes nothing.
use Rattle.std.specs.Prelude.{ℕ, List, [], ◌∷◌, ◌++◌, map, codes, decimal}
use Rattle.std.specs.List.{join_with_byte}
use Rattle.parish.specs.Refusals.{refusal_number}
use Rattle.faults.specs.declared.LoadFault.{LoadFault}
use Rattle.faults.specs.Faults.{fault_refusal, fault_sheet, fault_line, fault_field}
use Rattle.report.specs.declared.reports.Summary.{Summary}

-- numbers in decimal, with a comma, byte 44, between each two, and byte 10 at the end
abbrev pub numbers_line : List ℕ → List ℕ
numbers_line ns = join_with_byte 44 (map decimal ns) ++ (10 ∷ [])

-- a line of names, and a line of as many numbers
abbrev pub row_text : List ℕ → List ℕ → List ℕ
row_text names numbers = names ++ numbers_line numbers

-- a parish in four numbers
abbrev pub summary_text : Summary → List ℕ
summary_text s = row_text (codes "households,links,weight,cap" ++ (10 ∷ [])) (s.households ∷ (s.links ∷ (s.weight ∷ (s.«cap» ∷ []))))

-- a fault in four numbers
abbrev pub fault_text : LoadFault → List ℕ
fault_text f = row_text (codes "refused,sheet,line,field" ++ (10 ∷ [])) (refusal_number (fault_refusal f) ∷ (fault_sheet f ∷ (fault_line f ∷ (fault_field f ∷ []))))
