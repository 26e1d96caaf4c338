use Rattle.std.proofs.Common.{◌∙◌, ap, eqb, refl, arith, rules, tests}
use Rattle.std.proofs.lemmas.Iterator.Consumers.{nth_from_yields_List}
use Rattle.std.proofs.lemmas.Iterator.Splits.{YieldsList-from_slice_split}
use Rattle.std.proofs.lemmas.Grind.{common_steps}
use Rattle.spelling.proofs.Cutting.{numbered_split}
use Rattle.sheets.proofs.spots.numbered_part.Goals as goal

pub returns : goal.returns
returns c =
    let part =
    nth_from_yields_List c.nth.result _ _ c.nth.ensures.ran
    (YieldsList-from_slice_split _ (λ x. eqb x c.args.end) c.args.bytes.now c.split.ensures.rest c.split.ensures.done
    c.split.ensures.closure (λ x r q k. search (rules, tests))) in
    ap (λ x. x.now) c.unwrap_or.ensures ∙ numbered_split c.args.end c.args.number c.in-Some.before c.args.bytes.now c.nth.result _ refl (grind (arith, common_steps)) part
