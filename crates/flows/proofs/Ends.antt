-- The ends of links are among the households. Assumes nothing.
use Rattle.std.proofs.Common.{ℕ, ◌<◌, List, length, arith}
use Rattle.std.proofs.lemmas.Bool.{cond_both}
use Rattle.flows.specs.declared.items.Arc.{Arc}
use Rattle.flows.specs.Paths.{tail, head}
use Rattle.parish.specs.Model.{Model, Sound, no_link}
use Rattle.parish.specs.declared.items.Link.{Link}
use Rattle.bisection.specs.Lots.{Lots}
use Rattle.bounds.specs.Left.{link_at}
use Rattle.flows.specs.Trees.{Within}

-- an arc comes from one of them, and leads to one
pub tail_within : (n : ℕ) (ls : List Link) (a : Arc) → Within n ls → a.link < length ls → tail ls a < n
tail_within n ls a within lt =
    cond_both a.onward (link_at ls a.link).from (link_at ls a.link).to (λ v. v < n) (λ _. (within a.link lt).0) (λ _. (within a.link lt).1)

pub head_within : (n : ℕ) (ls : List Link) (a : Arc) → Within n ls → a.link < length ls → head ls a < n
head_within n ls a within lt =
    cond_both a.onward (link_at ls a.link).to (link_at ls a.link).from (λ v. v < n) (λ _. (within a.link lt).1) (λ _. (within a.link lt).0)

pub sound_ends : (m : Model) → Sound m → Within (length m.households) m.links
sound_ends m sound k lt = let j = sound.joined k no_link lt in (j.0, j.1)

pub sound_within : (m : Model) (lots : List ℕ) → Sound m → Lots m lots → Within (length lots) m.links
sound_within m lots sound ok k lt =
    let j = sound_ends m sound k lt in
    (omega (arith, j.0, ok.long), omega (arith, j.1, ok.long))
