use Rattle.std.proofs.Common.{length, ap, arith}
use Rattle.std.proofs.lemmas.Grind.{common_steps}
use Rattle.spelling.proofs.Spelling.{load_good, load_bad}
use Rattle.sheets.proofs.loading.read_whole.Goals as goal

pub returns-in_err-read_both : goal.returns-in_err-read_both
returns-in_err-read_both c = grind (arith, common_steps, load_bad)

pub returns : goal.returns
returns c =
    load_good c.args.households.now c.args.links.now _ _ c.in_ok-read_both.ensures
    (let h = ap length c.households.ensures in let l = ap length c.links.ensures in cc)
