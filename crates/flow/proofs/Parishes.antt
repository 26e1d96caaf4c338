-- The network of a parish, and the flow through it. Assumes nothing.
use Rattle.std.proofs.Common.{◌≡◌, ℕ, ◌+◌, ◌≤◌, List, length, get_or, ap, ◌∙◌, ap₂, arith}
use Rattle.parish.specs.Limits.{strongest_held}
use Rattle.parish.specs.View.{view}
use Rattle.parish.specs.declared.items.Link.{Link}
use Rattle.parish.specs.declared.store.Parish.{Parish}
use Rattle.parish.proofs.Viewed.{parish_sound}
use Rattle.bisection.specs.Lots.{Lots}
use Rattle.bounds.specs.Bounds.{strengths}
use Rattle.bounds.specs.Left.{left_of}
use Rattle.bounds.proofs.Sums.{strengths_most}
use Rattle.bounds.proofs.Left.{length_left}
use Rattle.flows.specs.Paths.{amounts}
use Rattle.flows.specs.Levels.{by_levels, chosen_room, flow_charges}
use Rattle.flows.specs.Trees.{IsNetwork}
use Rattle.flows.proofs.Theorems.{chosen_left, left_small, chosen_searches}
use Rattle.flow.proofs.Sent.{links_network}

module _ (p : Parish) {lots : List ℕ} (charges : List ℕ) (ok : Lots (view p) lots) where
  -- what charges leave of the links of a parish
  abbrev pub left_in : List ℕ
  left_in = left_of (view p).links charges

  pub left_is : {ls : List Link} {left : List ℕ} → left ≡ left_of ls charges → ls ≡ (view p).links → left ≡ left_in
  left_is filled links = filled ∙ ap (λ (xs : List Link). left_of xs charges) links

  pub parish_network : {ls : List Link} {left : List ℕ} → ls ≡ (view p).links → left ≡ left_in → IsNetwork ls left (length lots)
  parish_network links is =
      rw is (links_network p left_in ok (length_left (view p).links charges) (left_small (view p) charges (parish_sound p)) links)

  module _ {left left' room : List ℕ} (is : left ≡ left_in) (same : left' ≡ left) (chosen : room ≡ chosen_room (view p) lots left) where
    pub amounts_are : amounts left' room ≡ flow_charges (view p) lots left_in
    amounts_are = ap₂ amounts same chosen ∙ ap (flow_charges (view p) lots) is

    pub amounts_small : ((k : ℕ) → get_or charges k 0 ≤ get_or (strengths (view p).links) k 0)
        → (k : ℕ) → get_or charges k 0 + get_or (amounts left' room) k 0 ≤ strongest_held
    amounts_small within k =
        rw amounts_are
        (omega (
          arith,
          strengths_most (view p) (parish_sound p) k,
          chosen_left (view p) lots charges (by_levels (view p).links lots left_in) (parish_sound p) ok within (chosen_searches (view p) lots left_in (parish_sound p) ok) k,
        ))
