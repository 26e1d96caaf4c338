use Rattle.std.proofs.Common.{rules}
use Rattle.spelling.proofs.Lawful.{link_spelt}
use Rattle.sheets.proofs.kinds.links.LinksSheetKind.record.Goals as goal

pub returns : goal.returns
returns c = search (rules, link_spelt)
