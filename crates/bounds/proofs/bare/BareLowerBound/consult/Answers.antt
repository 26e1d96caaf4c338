use Rattle.std.proofs.Common.{refl, sym, ◌∙◌}
use Rattle.std.proofs.lemmas.Simd.{splat_is_map}
use Rattle.parish.specs.View.{view}
use Rattle.bounds.proofs.bare.BareLowerBound.consult.Goals as goal

pub returns : goal.returns
returns c =
    let fit = c.in_ok-check_lists.ensures in
    record {
      fit = fit;
      says = refl;
      fills = c.fill.ensures.after (λ y e. e) ∙ splat_is_map (view c.args.parish.now).links _ 0 (sym fit.charges_fit);
    }
