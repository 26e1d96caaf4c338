use Rattle.std.proofs.Common.{rules}
use Rattle.spelling.proofs.Lawful.{household_spelt}
use Rattle.sheets.proofs.kinds.households.HouseholdsSheetKind.record.Goals as goal

pub returns : goal.returns
returns c = search (rules, household_spelt)
