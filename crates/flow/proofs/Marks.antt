-- The marks of a search are a tree: at first, when all A is reached, and when one household more is. Assumes nothing.
use Rattle.std.proofs.Common.{◌≡◌, ℕ, zero, suc, ◌+◌, ◌<◌, ◌≤◌, true, List, length, set, take, Some, None, Option, replicate, refl, ◌∙◌, inl, inr, arith}
use Rattle.std.proofs.lemmas.Bool.{cases_lt}
use Rattle.std.proofs.lemmas.List.{get_or-take, get_or_past, length-take, length-replicate}
use Rattle.parish.specs.Limits.{most_households}
use Rattle.parish.specs.declared.items.Link.{Link}
use Rattle.flows.specs.declared.items.Arc.{Arc}
use Rattle.flows.specs.declared.items.Mark.{Mark}
use Rattle.flows.specs.Paths.{head}
use Rattle.flows.specs.Levels.{mark_of, level_one}
use Rattle.flows.specs.Trees.{Tree}
use Rattle.flows.proofs.Ends.{head_within}
use Rattle.flows.proofs.Levels.{on_true, tree_none, tree_more}
use Rattle.flows.proofs.Scanning.{first_ready}
use Rattle.flow.specs.declared.network.Search.{Search}
use Rattle.flow.specs.Searching.{leads_on_in}

-- scratch in which no household is reached
pub scratch_tree : (ls : List Link) (lots : List ℕ) (n : ℕ) → n ≡ length lots → n ≤ most_households
    → Tree ls lots (take n (replicate most_households None))
scratch_tree ls lots n long few =
    tree_none ls lots (take n (replicate most_households None))
    (omega (arith, length-take n (replicate most_households (blank_mark)), length-replicate most_households blank_mark)) none
  where
    blank_mark : Option Mark
    blank_mark = None

    each : (m i : ℕ) → mark_of (replicate m None) i ≡ None
    each zero i = refl
    each (suc m) zero = refl
    each (suc m) (suc i) = each m i

    none : (v : ℕ) → mark_of (take n (replicate most_households None)) v ≡ None
    none v =
        elim (cases_lt v n) [
          | inl lt ↦ get_or-take n (replicate most_households None) v None lt ∙ each most_households v
          | inr le ↦ get_or_past (take n (replicate most_households None)) v None (omega (arith, length-take n (replicate most_households blank_mark)))
        ]

-- all A is reached
pub first_tree : (s : Search) → Tree s.network.links.now s.network.lots.now (level_one s.network.lots.now)
first_tree s = (first_ready s.network.links.now s.network.lots.now s.network.left.now s.network.fits.ends s.room.now).tree

-- one household more
pub reached_tree : (s : Search) (depth : ℕ) (a : Arc) → a.link < length s.network.links.now → leads_on_in s depth a ≡ true → 1 ≤ depth
    → Tree s.network.links.now s.network.lots.now (set s.marks.now (head s.network.links.now a) (Some (record { level = depth + 1; arc = Some a })))
reached_tree s depth a there leads deep =
    tree_more s.network.links.now s.network.lots.now s.network.left.now s.room.now s.marks.now depth a deep there
    (head_within (length s.network.lots.now) s.network.links.now a s.network.fits.ends there) s.tree
    (on_true s.network.links.now s.network.left.now s.room.now s.marks.now depth a leads)
