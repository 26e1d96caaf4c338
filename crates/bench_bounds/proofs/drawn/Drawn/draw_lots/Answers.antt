use Rattle.std.proofs.Common.{◌≤◌, rules}
use Rattle.std.specs.List.{All}
use Rattle.std.proofs.lemmas.Fn.{chained_keeps}
use Rattle.std.proofs.lemmas.List.Elements.{All-push}
use Rattle.bench_bounds.proofs.drawn.Drawn.draw_lots.Goals as goal

pub returns : goal.returns
returns c =
    chained_keeps _ (λ lots _. All (λ lot. lot ≤ 2) lots)
    (λ lots f lot g all call. All-push (λ l. l ≤ 2) lots lot all (search rules))
    _ _ _ (search rules) c.fill_with.ensures.ran.1
