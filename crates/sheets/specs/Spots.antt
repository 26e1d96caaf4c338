-- The part of a sheet that a fault points at. Assumes nothing.
use Rattle.std.specs.Prelude.{ℕ, cond, List, [], ◌==◌}
use Rattle.faults.specs.declared.LoadFault.{LoadFault}
use Rattle.faults.specs.Faults.{fault_sheet, fault_line, fault_field}
use Rattle.spelling.specs.Pieces.{pieces, numbered}

-- a field of a line, or the line itself for field 0
abbrev pub field_of : ℕ → List ℕ → List ℕ
field_of k line = cond (k == 0) line (numbered k (pieces 44 line))

-- the line of a fault in a sheet, or its field there
abbrev pub spot_in : LoadFault → List ℕ → List ℕ
spot_in f sheet = field_of (fault_field f) (numbered (fault_line f) (pieces 10 sheet))

-- in sheet 1 or 2; lines and fields are counted from 1, and what is not there is an empty part
abbrev pub spot_of : LoadFault → List ℕ → List ℕ → List ℕ
spot_of f households links = cond (fault_sheet f == 1) (spot_in f households) (cond (fault_sheet f == 2) (spot_in f links) [])
