-- What a flow adds to a lower bound, and that nothing flows where one group is empty. Assumes nothing.
use Rattle.std.proofs.Common.{◌≡◌, ℕ, suc, ◌<◌, ◌≤◌, ◌⊎◌, List, [], ◌∷◌, length, get_or, sum, sym, ap, ◌∙◌, inl, inr, arith}
use Rattle.std.proofs.lemmas.Bool.{cases_lt}
use Rattle.std.proofs.lemmas.List.{get_or_past}
use Rattle.std.proofs.lemmas.List.FromFn.{length-map-range_with_len, get_or-map-range_with_len}
use Rattle.parish.specs.Model.{Model, Sound}
use Rattle.parish.specs.declared.items.Link.{Link}
use Rattle.bisection.specs.Lots.{Lots}
use Rattle.bisection.specs.Meanings.{cut_charges}
use Rattle.bounds.specs.Bounds.{strengths}
use Rattle.bounds.specs.Adding.{Adds}
use Rattle.bounds.proofs.Left.{length_left, left_at_link, strength_at}
use Rattle.bounds.specs.Sums.{sum_below}
use Rattle.bounds.specs.Left.{link_at, left_of}
use Rattle.flows.specs.Cuts.{least_cut}
use Rattle.flows.specs.declared.items.Arc.{Arc}
use Rattle.flows.specs.Paths.{distance, amounts}
use Rattle.flows.specs.Rounds.{Search, last_room, Way, Send, Sends, Searches}
use Rattle.bounds.proofs.Indexed.{sum_below_same, sum_by_index}
use Rattle.flows.proofs.Sending.{crossing, side_cut}
use Rattle.flows.proofs.Rounds.{group_A, group_A_parts, Holds, Ended, at_first, side_cut_all, value_paid, round_ended, rounds_last}
use Rattle.flows.proofs.Least.{bisection_parts, cut_side, ended_least}

-- ---- the lists by index

pub length_amounts : (left room : List ℕ) → length (amounts left room) ≡ length left
length_amounts left room = length-map-range_with_len (λ k. distance (get_or left k 0) (get_or room k 0)) 0 (length left)

pub amounts_at : (left room : List ℕ) (k : ℕ) → k < length left → get_or (amounts left room) k 0 ≡ distance (get_or left k 0) (get_or room k 0)
amounts_at left room k lt = get_or-map-range_with_len (λ k. distance (get_or left k 0) (get_or room k 0)) 0 (length left) k k 0 lt (omega arith)

-- ---- what is added at the end, over charges none of which exceeds its link's strength

pub ended_adds : (m : Model) (limit : ℕ) (lots below : List ℕ) → Sound m → Lots m lots → ((k : ℕ) → get_or below k 0 ≤ get_or (strengths m.links) k 0)
    → (room : List ℕ) (value : ℕ) → Ended m.links lots (left_of m.links below) room value
    → Adds m limit lots below (least_cut m lots (left_of m.links below)) (amounts (left_of m.links below) room)
ended_adds m limit lots below sound ok within room value e =
    let ls : List Link = m.links in
    let left : List ℕ = left_of m.links below in
    let extra : List ℕ = amounts (left_of m.links below) room in
    let f : ℕ → ℕ = λ k. distance (get_or left k 0) (get_or room k 0) in
    let whole : length left ≡ length ls = length_left ls below in
    let long : length extra ≡ length ls = length_amounts left room ∙ whole in
    let at : (k : ℕ) → k < length ls → get_or extra k 0 ≡ f k = λ k lt. amounts_at left room k (omega arith) in
    let is : value ≡ least_cut m lots left = ended_least m lots left sound ok whole room value e in
    record {
      long = long;
      left = λ k.
          elim (cases_lt k (length ls)) [
            | inl lt ↦ omega (arith, at k lt, left_at_link ls below k lt, strength_at ls k lt, within k, e.holds.ok.within k)
            | inr le ↦ omega (arith, get_or_past extra k 0 (omega arith), within k)
          ];
      charged =
          let all : sum extra ≡ sum_below (length ls) f =
          sum_by_index extra ∙ ap (λ n. sum_below n (λ k. get_or extra k 0)) long ∙ sum_below_same (length ls) _ f at in
          omega (arith, value_paid ls lots left room value e.holds (group_A lots) (group_A_parts lots), side_cut_all ls lots left (group_A lots) f);
      paid = λ d split ext even.
          let cuts : cut_charges ls extra d ≡ side_cut ls (group_A d) f =
          cut_side m d extra sound split long
          ∙ sum_below_same (length ls) _ _ (λ k lt. ap (λ x. crossing (group_A d (link_at ls k).from) (group_A d (link_at ls k).to) x x) (at k lt)) in
          omega (arith, value_paid ls lots left room value e.holds (group_A d) (bisection_parts lots d ext));
    }

-- ---- one group alone

-- where no household is set in A, or none in B, there is no way
no_way : (ls : List Link) (lots left : List ℕ) (lot : ℕ) → (lot ≡ 1) ⊎ (lot ≡ 2) → ((v : ℕ) → get_or lots v 0 ≡ lot → ⊥)
    → (room : List ℕ) (d : ℕ) (p : List Arc) → Way ls lots left room d p → ⊥
no_way ls lots left lot (inl e) none room d p w = none w.start (w.from_A ∙ sym e)
no_way ls lots left lot (inr e) none room d p w = none w.goal (w.to_B ∙ sym e)

-- where there is none, nothing is sent
none_sent : (ls : List Link) (lots left room : List ℕ) → ((mid : List ℕ) (c : ℕ) (p : List Arc) → Way ls lots left mid c p → ⊥)
    → (list : List Send) (d : ℕ) (after : List ℕ) → Sends ls lots left room list d after → (d ≡ 0) × (after ≡ room)
none_sent ls lots left room idle [] d after h = h
none_sent ls lots left room idle (s ∷ list) d after h = absurd (idle h.1 s.amount s.path h.3)

-- so the least cut and all amounts are 0
pub one_group : (m : Model) (lots left : List ℕ) (seek : Search) → Sound m → Lots m lots → length left ≡ length m.links
    → Searches m.links lots left seek → (lot : ℕ) → (lot ≡ 1) ⊎ (lot ≡ 2) → ((v : ℕ) → get_or lots v 0 ≡ lot → ⊥)
    → (least_cut m lots left ≡ 0) × ((k : ℕ) → get_or (amounts left (last_room seek left)) k 0 ≡ 0)
one_group m lots left seek sound ok long good lot which none =
    let ls : List Link = m.links in
    let room : List ℕ = last_room seek left in
    let start : Holds ls lots left left 0 = at_first ls lots left long in
    let s = good.sends left start.ok in
    let idle = none_sent ls lots left left (no_way ls lots left lot which none) s.0 (seek left).sent (seek left).room s.1 in
    let end : Ended ls lots left (seek left).room 0 = round_ended ls lots left seek good left 0 start idle.0 in
    let same : room ≡ left = rounds_last ls lots left seek (suc (sum left)) left (omega arith) idle.0 ∙ idle.1 in (
      sym (ended_least m lots left sound ok long (seek left).room 0 end),
      λ k.
          elim (cases_lt k (length left)) [
            | inl lt ↦ omega (arith, amounts_at left room k lt, ap (λ r. get_or r k 0) same)
            | inr le ↦ get_or_past (amounts left room) k 0 (omega (arith, length_amounts left room))
          ],
    )
