-- The two lots, by number. Assumes nothing.
use Rattle.std.specs.Prelude.{ℕ}
use Rattle.parish.specs.declared.items.Lot.{Lot}
use Rattle.parish.specs.declared.items.Lot.TheVariants.{A, B}

-- the byte of a lot
abbrev pub lot_byte : Lot → ℕ
lot_byte A = 1
lot_byte B = 2
