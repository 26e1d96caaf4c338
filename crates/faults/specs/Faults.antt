-- What is to be read of a load's fault: its refusal, sheet, line, field and layer. Assumes nothing.
use Rattle.std.specs.Prelude.{ℕ, Some, None, Option}
use Rattle.std.specs.Option.{unwrap_or}
use Rattle.parish.specs.declared.refusals.Refusal.{Refusal}
use Rattle.parish.specs.declared.refusals.Refusal.TheVariants.{WrongNames, WrongCount, WrongField}
use Rattle.faults.specs.declared.Sheet.{Sheet}
use Rattle.faults.specs.declared.Sheet.TheVariants.{Households, Links}
use Rattle.faults.specs.declared.Place.{Place}
use Rattle.faults.specs.declared.LineFault.{LineFault}
use Rattle.faults.specs.declared.LineFault.TheVariants as line
use Rattle.faults.specs.declared.LoadFault.{LoadFault}
use Rattle.faults.specs.declared.LoadFault.TheVariants as load
use Rattle.faults.specs.declared.Layer.{Layer}
use Rattle.faults.specs.declared.Layer.TheVariants as layer

-- the number of a sheet
abbrev pub sheet_number : Sheet → ℕ
sheet_number Households = 1
sheet_number Links = 2

-- where a line's fault is
abbrev pub line_fault_place : LineFault → Place
line_fault_place (line.WrongNames p) = p
line_fault_place (line.WrongCount p) = p
line_fault_place (line.Field f) = f.place

-- 9, 10 and 11 by the line's fault; 5 to 8 by the parish; 1 by the call
abbrev pub fault_refusal : LoadFault → Refusal
fault_refusal (load.Call e) = e
fault_refusal (load.Line (line.WrongNames p)) = WrongNames
fault_refusal (load.Line (line.WrongCount p)) = WrongCount
fault_refusal (load.Line (line.Field f)) = WrongField
fault_refusal (load.Parish f) = f.refusal

-- a call that is refused has no place
abbrev pub fault_place : LoadFault → Option Place
fault_place (load.Call e) = None
fault_place (load.Line f) = Some (line_fault_place f)
fault_place (load.Parish f) = Some f.place

-- the sheet of a place, and 0 for none
abbrev pub sheet_at : Option Place → ℕ
sheet_at None = 0
sheet_at (Some p) = sheet_number p.sheet

-- the line of a place, and 0 for none
abbrev pub line_at : Option Place → ℕ
line_at None = 0
line_at (Some p) = p.line

-- 1 or 2, and 0 for a call that is refused
abbrev pub fault_sheet : LoadFault → ℕ
fault_sheet f = sheet_at (fault_place f)

-- counted from 1, and 0 for a call that is refused
abbrev pub fault_line : LoadFault → ℕ
fault_line f = line_at (fault_place f)

-- counted from 1, and 0 where no field is to blame
abbrev pub fault_field : LoadFault → ℕ
fault_field (load.Call e) = 0
fault_field (load.Line (line.WrongNames p)) = 0
fault_field (load.Line (line.WrongCount p)) = 0
fault_field (load.Line (line.Field f)) = f.field
fault_field (load.Parish f) = unwrap_or f.field 0

-- field for 11, line for 9 and 10, else parish
abbrev pub fault_layer : LoadFault → Layer
fault_layer (load.Call e) = layer.Parish
fault_layer (load.Line (line.WrongNames p)) = layer.Line
fault_layer (load.Line (line.WrongCount p)) = layer.Line
fault_layer (load.Line (line.Field f)) = layer.Field
fault_layer (load.Parish f) = layer.Parish
