-- The flow that a room shows: at the end of any search it is a greatest one. Assumes nothing.
use Rattle.std.proofs.Common.{◌≡◌, ℕ, ◌+◌, ◌-◌, ◌*◌, ◌<◌, ◌≤◌, Bool, true, false, cond, ◌||◌, eqb, List, length, get_or, sym, refl, ap, ◌∙◌, ap₂, inl, inr, arith}
use Rattle.std.proofs.lemmas.Bool.{cases_lt, eq-eqb}
use Rattle.std.proofs.lemmas.Bool.Decides.{nat_tests}
use Rattle.parish.specs.Model.{Model, Sound}
use Rattle.parish.specs.declared.items.Link.{Link}
use Rattle.bisection.specs.Lots.{Lots}
use Rattle.bounds.specs.Sums.{sum_below}
use Rattle.bounds.specs.Left.{link_at}
use Rattle.flows.specs.Flows.{Flow, at_household, out_of, into, given_by, taken_by, IsFlow, IsGreatest}
use Rattle.flows.specs.Paths.{flow_of}
use Rattle.bounds.proofs.Indexed.{sum_below_same, sum_below_le, sum_below_add, sum_below_swap, sum_below_at, sum_below_none}
use Rattle.flows.proofs.Sending.{crossing, side_cut}
use Rattle.flows.proofs.Rounds.{Parts, shut_parts, group_A, group_A_parts, Holds, Ended, value_is}
use Rattle.flows.proofs.Ends.{sound_ends}

-- where each link has s at its first end and t at its second, the sum over a side
abbrev at_side : List Link → (ℕ → ℕ) → (ℕ → ℕ) → (ℕ → Bool) → ℕ
at_side ls s t S = sum_below (length ls) (λ k. cond (S (link_at ls k).from) (s k) 0 + cond (S (link_at ls k).to) (t k) 0)

-- ---- that sum household by household, or link by link

pick_at : (n u a : ℕ) (S : ℕ → Bool) → u < n → sum_below n (λ v. cond (S v) (cond (eqb u v) a 0) 0) ≡ cond (S u) a 0
pick_at n u a S lt =
    sum_below_at n u (λ v. cond (S v) (cond (eqb u v) a 0) 0) lt (λ v ne. grind (arith, nat_tests))
    ∙ ap (λ b. cond (S u) (cond b a 0) 0) (eq-eqb u u refl)

cond_sum : (b : Bool) (n : ℕ) (f : ℕ → ℕ) → cond b (sum_below n f) 0 ≡ sum_below n (λ k. cond b (f k) 0)
cond_sum true n f = refl
cond_sum false n f = sym (sum_below_none n)

turned : (m : Model) → Sound m → (S : ℕ → Bool) (s t : ℕ → ℕ)
    → sum_below (length m.households) (λ v. cond (S v) (at_household m.links s t v) 0) ≡ at_side m.links s t S
turned m sound S s t =
    let n : ℕ = length m.households in
    let c : ℕ = length m.links in
    let f : ℕ → ℕ → ℕ = λ v k. cond (eqb (link_at m.links k).from v) (s k) 0 in
    let g : ℕ → ℕ → ℕ = λ v k. cond (eqb (link_at m.links k).to v) (t k) 0 in
    sum_below_same n _ (λ v. sum_below c (λ k. cond (S v) (f v k + g v k) 0)) (λ v lt. cond_sum (S v) c (λ k. f v k + g v k))
    ∙ sum_below_swap n c (λ v k. cond (S v) (f v k + g v k) 0)
    ∙ sum_below_same c _ _
    (λ k lt. let ends = sound_ends m sound k lt in
    sum_below_same n _ (λ v. cond (S v) (f v k) 0 + cond (S v) (g v k) 0) (λ v _. grind arith)
    ∙ sum_below_add n (λ v. cond (S v) (f v k) 0) (λ v. cond (S v) (g v k) 0)
    ∙ ap₂ ◌+◌ (pick_at n (link_at m.links k).from (s k) S ends.0) (pick_at n (link_at m.links k).to (t k) S ends.1))

-- ---- A gives no more than what is left across a side

no_more_than_left : (m : Model) (lots left : List ℕ) → Sound m → Lots m lots → (g : Flow) → IsFlow m lots left g → (S : ℕ → Bool) → Parts lots S
    → given_by m lots 1 g ≤ taken_by m lots 1 g + side_cut m.links S (λ k. get_or left k 0)
no_more_than_left m lots left sound ok g h S parts =
    let n : ℕ = length m.households in
    let c : ℕ = length m.links in
    let over : (ℕ → Bool) → (ℕ → ℕ) → ℕ → ℕ = λ T x v. cond (T v) (x v) 0 in
    let o : ℕ → ℕ = out_of m.links g in
    let i : ℕ → ℕ = into m.links g in
    let A : ℕ → Bool = group_A lots in
    let same : sum_below n (λ v. over S o v + over A i v) ≡ sum_below n (λ v. over S i v + over A o v) =
    sum_below_same n _ _ (λ v lt. grind (arith, nat_tests, ok.small v, (parts v).0, (parts v).1, h.conserved v lt)) in
    let from : ℕ → Bool = λ k. S (link_at m.links k).from in
    let to : ℕ → Bool = λ k. S (link_at m.links k).to in
    let back : ℕ → ℕ = λ k. cond (from k) (g.against k) 0 + cond (to k) (g.along k) 0 in
    let cut : ℕ → ℕ = λ k. crossing (from k) (to k) (get_or left k 0) (get_or left k 0) in
    let le : at_side m.links g.along g.against S ≤ sum_below c (λ k. back k + cut k) =
    sum_below_le c _ _ (λ k lt. grind (arith, h.within_left k lt)) in
    omega (
      arith,
      same,
      sum_below_add n (over S o) (over A i),
      sum_below_add n (over S i) (over A o),
      turned m sound S g.along g.against,
      turned m sound S g.against g.along,
      le,
      sum_below_add c back cut,
    )

-- ---- the side of A with one unset household more

abbrev A_and : List ℕ → ℕ → ℕ → Bool
A_and lots v u = eqb u v || group_A lots u

module _ (lots : List ℕ) (v : ℕ) (unset : get_or lots v 0 ≡ 0) where
  A_and_parts : Parts lots (A_and lots v)
  A_and_parts u = (λ e. grind (arith, nat_tests), λ e. grind (arith, nat_tests))

  A_and_sum : (ls : List Link) (s t : ℕ → ℕ) → at_side ls s t (A_and lots v) ≡ at_side ls s t (group_A lots) + at_household ls s t v
  A_and_sum ls s t =
      sum_below_same (length ls) _ _ (λ k lt. omega (arith, one (link_at ls k).from (s k), one (link_at ls k).to (t k)))
      ∙ sum_below_add (length ls) (λ k. cond (group_A lots (link_at ls k).from) (s k) 0 + cond (group_A lots (link_at ls k).to) (t k) 0)
      (λ k. cond (eqb (link_at ls k).from v) (s k) 0 + cond (eqb (link_at ls k).to v) (t k) 0)
    where
      one : (u a : ℕ) → cond (A_and lots v u) a 0 ≡ cond (group_A lots u) a 0 + cond (eqb u v) a 0
      one u a = grind (arith, nat_tests)

-- ---- the flow of a room

module _ (m : Model) (lots left room : List ℕ) (value : ℕ) (h : Holds m.links lots left room value) where
  -- out of a side goes what is sent, more than what comes in
  out_of_side : (S : ℕ → Bool) → Parts lots S
      → at_side m.links (flow_of left room).along (flow_of left room).against S
      ≡ value + at_side m.links (flow_of left room).against (flow_of left room).along S
  out_of_side S parts =
      let c : ℕ = length m.links in
      let s : ℕ → Bool = λ k. S (link_at m.links k).from in
      let t : ℕ → Bool = λ k. S (link_at m.links k).to in
      let l : ℕ → ℕ = λ k. get_or left k 0 in
      let r : ℕ → ℕ = λ k. get_or room k 0 in
      let free : ℕ → ℕ = λ k. crossing (s k) (t k) (r k) (2 * l k - r k) in
      let cut : ℕ → ℕ = λ k. crossing (s k) (t k) (l k) (l k) in
      let out : ℕ → ℕ = λ k. cond (s k) (l k - r k) 0 + cond (t k) (r k - l k) 0 in
      let back : ℕ → ℕ = λ k. cond (s k) (r k - l k) 0 + cond (t k) (l k - r k) 0 in
      let each : sum_below c (λ k. free k + out k) ≡ sum_below c (λ k. cut k + back k) =
      sum_below_same c _ _ (λ k lt. grind (arith, h.ok.within k)) in
      omega (arith, each, h.balance S parts, sum_below_add c free out, sum_below_add c cut back)

  pub room_flow : IsFlow m lots left (flow_of left room)
  room_flow =
      let f : Flow = flow_of left room in
      record {
        one_way = λ k. elim (cases_lt (get_or left k 0) (get_or room k 0)) [ inl lt ↦ inl (omega arith) | inr le ↦ inr (omega arith) ];
        within_left = λ k lt. omega (arith, h.ok.within k);
        conserved = λ v lt unset.
            omega (
              arith,
              out_of_side (group_A lots) (group_A_parts lots),
              out_of_side (A_and lots v) (A_and_parts lots v unset),
              A_and_sum lots v unset m.links f.along f.against,
              A_and_sum lots v unset m.links f.against f.along,
            );
      }

  -- what A gives is what is sent, and what it takes in
  pub given : Sound m → given_by m lots 1 (flow_of left room) ≡ value + taken_by m lots 1 (flow_of left room)
  given sound =
      let f : Flow = flow_of left room in
      let out = turned m sound (group_A lots) f.along f.against in
      let back = turned m sound (group_A lots) f.against f.along in
      omega (arith, out, back, out_of_side (group_A lots) (group_A_parts lots))

pub ended_greatest : (m : Model) (lots left : List ℕ) → Sound m → Lots m lots → (room : List ℕ) (value : ℕ) → Ended m.links lots left room value
    → IsGreatest m lots left (flow_of left room)
ended_greatest m lots left sound ok room value e =
    record {
      flows = room_flow m lots left room value e.holds;
      most = λ g flow.
          let at_most = no_more_than_left m lots left sound ok g flow e.shut.side (shut_parts e.shut) in
          omega (arith, at_most, given m lots left room value e.holds sound, value_is m.links lots left room value e);
    }
