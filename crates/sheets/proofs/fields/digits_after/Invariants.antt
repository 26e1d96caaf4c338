use Rattle.std.proofs.Common.{◌≡◌, ◌+◌, ◌^◌, ◌<◌, drop}
use Rattle.spelling.specs.Fields.{read_on}
use Rattle.sheets.proofs.fields.digits_after.Given as goal

abbrev pub invariant-loop-digit : goal.invariant-loop-digit
invariant-loop-digit l = (read_on l.number (drop l.digit-index l.rest) ≡ read_on l.first l.rest) × (l.number < 10 ^ (l.digit-index + 1))
