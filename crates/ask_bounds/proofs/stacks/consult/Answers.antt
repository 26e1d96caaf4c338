use Rattle.std.proofs.Common.{refl}
use Rattle.parish.proofs.Viewed.{parish_sound}
use Rattle.bisection.specs.Meanings.{bare, decided}
use Rattle.flows.specs.Layers.{flow_over}
use Rattle.ask_bounds.proofs.Kept.{bare_keeps, decided_keeps, flow_keeps, told}
use Rattle.ask_bounds.proofs.stacks.consult.Goals.{in-bare, in-decided, in-text, in-text-2, in-text-3}
use Rattle.ask_bounds.proofs.stacks.consult.Goals as goal

pub returns : goal.returns
returns c =
    let by = told _ _ _ _ _ _ _ c.consult.ensures (parish_sound c.args.parish.now) in
    elim c.match-stack.branch [
      | in-bare w ↦ by bare bare_keeps (rw w.bound-is refl)
      | in-decided w ↦ by decided decided_keeps (rw w.bound-is refl)
      | in-text w ↦ by (flow_over bare) (flow_keeps bare bare_keeps) (rw w.bound-is refl)
      | in-text-2 w ↦ by (flow_over decided) (flow_keeps decided decided_keeps) (rw w.bound-is refl)
      | in-text-3 w ↦ by (flow_over (flow_over decided)) (flow_keeps (flow_over decided) (flow_keeps decided decided_keeps)) (rw w.bound-is refl)
    ]
