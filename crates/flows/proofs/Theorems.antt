-- The laws of the flow layer, for any search that sends along ways and ends where a side is shut. Assumes nothing.
use Rattle.std.proofs.Common.{◌≡◌, ℕ, ◌+◌, ◌≤◌, List, length, get_or, ap, ◌∙◌, inl, inr, arith}
use Rattle.std.proofs.lemmas.Bool.{cases_lt}
use Rattle.std.proofs.lemmas.List.{get_or_past}
use Rattle.parish.specs.Limits.{strongest_held}
use Rattle.parish.specs.Model.{Model, Sound, no_link}
use Rattle.bisection.specs.Lots.{Lots}
use Rattle.bounds.specs.Bounds.{strengths}
use Rattle.bounds.specs.Adding.{added, Adds, IsLayer}
use Rattle.bounds.proofs.Over.{over_bounds}
use Rattle.bounds.specs.Left.{left_of}
use Rattle.flows.specs.Cuts.{least_cut, LeastCut}
use Rattle.flows.specs.Flows.{taken_by}
use Rattle.flows.specs.Paths.{flow_of, amounts}
use Rattle.flows.specs.Rounds.{Search, last_room, Searches}
use Rattle.flows.specs.Levels.{by_levels, flow_charges}
use Rattle.flows.specs.Layers.{flow_addition}
use Rattle.flows.specs.Laws.{AnySearch, FlowLaws, SameFlow, FlowBounds}
use Rattle.flows.proofs.Rounds.{last_ended}
use Rattle.flows.proofs.Ends.{sound_within}
use Rattle.flows.proofs.Least.{ended_least, least_cut_in_words}
use Rattle.flows.proofs.Greatest.{given, ended_greatest}
use Rattle.bounds.proofs.Left.{length_left, left_at_link}
use Rattle.flows.proofs.Adds.{length_amounts, amounts_at, ended_adds, one_group}
use Rattle.flows.proofs.Scanning.{by_levels_searches}

-- ---- for any search

pub any_search : AnySearch
any_search m lots left seek sound ok long good =
    let room : List ℕ = last_room seek left in
    let e = last_ended m.links lots left long seek good in
    record {
      greatest = ended_greatest m lots left sound ok room e.0 e.1;
      value = given m lots left room e.0 e.1.holds sound
          ∙ ap (λ w. w + taken_by m lots 1 (flow_of left room)) (ended_least m lots left sound ok long room e.0 e.1);
    }

pub search_least : (m : Model) (lots left : List ℕ) (seek : Search) → Sound m → Lots m lots → length left ≡ length m.links
    → Searches m.links lots left seek → LeastCut m lots left (least_cut m lots left)
search_least m lots left seek sound ok long good =
    let e = last_ended m.links lots left long seek good in
    least_cut_in_words m lots left sound ok long (last_room seek left) e.0 e.1

pub search_adds : (m : Model) (limit : ℕ) (lots below : List ℕ) (seek : Search) → Sound m → Lots m lots
    → ((k : ℕ) → get_or below k 0 ≤ get_or (strengths m.links) k 0) → Searches m.links lots (left_of m.links below) seek
    → Adds m limit lots below (least_cut m lots (left_of m.links below)) (amounts (left_of m.links below) (last_room seek (left_of m.links below)))
search_adds m limit lots below seek sound ok within good =
    let left : List ℕ = left_of m.links below in
    let e = last_ended m.links lots left (length_left m.links below) seek good in
    ended_adds m limit lots below sound ok within (last_room seek left) e.0 e.1

-- no more is added than is left
pub chosen_left : (m : Model) (lots below : List ℕ) (seek : Search) → Sound m → Lots m lots
    → ((k : ℕ) → get_or below k 0 ≤ get_or (strengths m.links) k 0) → Searches m.links lots (left_of m.links below) seek
    → (k : ℕ) → get_or below k 0 + get_or (amounts (left_of m.links below) (last_room seek (left_of m.links below))) k 0 ≤ get_or (strengths m.links) k 0
chosen_left m lots below seek sound ok within good = (search_adds m 0 lots below seek sound ok within good).left

-- ---- for the layer

pub left_small : (m : Model) (below : List ℕ) → Sound m → (k : ℕ) → get_or (left_of m.links below) k 0 ≤ strongest_held
left_small m below sound k =
    elim (cases_lt k (length m.links)) [
      | inl lt ↦ omega (arith, left_at_link m.links below k lt, (sound.joined k no_link lt).4)
      | inr le ↦ omega (arith, get_or_past (left_of m.links below) k 0 (omega (arith, length_left m.links below)))
    ]

pub same_flow : SameFlow
same_flow B C m limit other lots e =
    let least = ap (λ cs. least_cut m lots (left_of m.links cs)) e in
    (omega (arith, least), ap (λ cs. added cs (flow_charges m lots (left_of m.links cs))) e)

-- the search level by level is such a search
pub chosen_searches : (m : Model) (lots left : List ℕ) → Sound m → Lots m lots → Searches m.links lots left (by_levels m.links lots left)
chosen_searches m lots left sound ok = by_levels_searches m.links lots left (sound_within m lots sound ok)

pub flow_laws : FlowLaws
flow_laws m lots left sound ok long =
    let seek : Search = by_levels m.links lots left in
    let good : Searches m.links lots left seek = chosen_searches m lots left sound ok in
    let room : List ℕ = last_room seek left in
    record {
      number = search_least m lots left seek sound ok long good;
      long = length_amounts left room ∙ long;
      charges = λ k lt. amounts_at left room k (omega arith);
      flow = any_search m lots left seek sound ok long good;
      one_group = one_group m lots left seek sound ok long good;
    }

pub flow_adds : IsLayer flow_addition
flow_adds m limit lots below sound ok within =
    let left : List ℕ = left_of m.links below in
    search_adds m limit lots below (by_levels m.links lots left) sound ok within (chosen_searches m lots left sound ok)

pub flow_bounds : FlowBounds
flow_bounds = over_bounds flow_addition flow_adds
