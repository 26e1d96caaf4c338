-- What holds from round to round, whatever searches: for every side with A and without B, the room out of it and what has
-- been sent are what is left across it. Assumes nothing.
use Rattle.std.proofs.Common.{◌≡◌, ℕ, zero, suc, ◌+◌, ◌-◌, ◌*◌, ◌<◌, ◌≤◌, Bool, true, false, cond, eqb, List, [], ◌∷◌, length, get_or, sum, sym, refl, ap, ◌∙◌, subst, arith}
use Rattle.std.proofs.lemmas.Bool.{eq-eqb, ne_eqb, eqb-true, eqb-false}
use Rattle.parish.specs.declared.items.Link.{Link}
use Rattle.flows.specs.declared.items.Arc.{Arc}
use Rattle.bounds.specs.Sums.{sum_below}
use Rattle.bounds.specs.Left.{link_at}
use Rattle.flows.specs.Paths.{send_all, distance}
use Rattle.flows.specs.Rounds.{Search, rounds, last_room, Roomed, Way, Send, Sends, Shut, Searches}
use Rattle.bounds.proofs.Indexed.{sum_below_same, sum_below_le, sum_below_add, sum_below_none, sum_by_index}
use Rattle.flows.proofs.Sending.{crossing, side_cut, residual, Sent, send_path}

-- a side has the households set in A, and none of those set in B
abbrev pub Parts : List ℕ → (ℕ → Bool) → Type 0
Parts lots S = (v : ℕ) → (get_or lots v 0 ≡ 1 → S v ≡ true) × (get_or lots v 0 ≡ 2 → S v ≡ false)

pub shut_parts : {ls : List Link} {lots left room : List ℕ} (h : Shut ls lots left room) → Parts lots h.side
shut_parts h v = (h.has_A v, h.lacks_B v)

-- the households set in A alone
abbrev pub group_A : List ℕ → ℕ → Bool
group_A lots v = eqb (get_or lots v 0) 1

pub group_A_parts : (lots : List ℕ) → Parts lots (group_A lots)
group_A_parts lots v = (λ e. eq-eqb (get_or lots v 0) 1 e, λ e. ne_eqb (get_or lots v 0) 1 (λ q. omega arith))

-- out of a shut side there is no room
pub shut_crossing : (ls : List Link) (lots left room : List ℕ) (h : Shut ls lots left room) (k : ℕ) → k < length ls
    → crossing (h.side (link_at ls k).from) (h.side (link_at ls k).to) (get_or room k 0) (2 * get_or left k 0 - get_or room k 0) ≡ 0
shut_crossing ls lots left room h k lt =
    by (h.side (link_at ls k).from) (h.side (link_at ls k).to)
    (h.full (record { link = k; onward = true }) lt) (h.full (record { link = k; onward = false }) lt)
  where
    by : (s t : Bool) → (s ≡ true → t ≡ false → get_or room k 0 ≡ 0) → (t ≡ true → s ≡ false → 2 * get_or left k 0 - get_or room k 0 ≡ 0)
        → crossing s t (get_or room k 0) (2 * get_or left k 0 - get_or room k 0) ≡ 0
    by true true f g = refl
    by true false f g = f refl refl
    by false true f g = g refl refl
    by false false f g = refl

module _ (ls : List Link) (lots left : List ℕ) where
  abbrev pub left_at : ℕ → ℕ
  left_at k = get_or left k 0

  -- an amount has moved from A to B: out of every side that parts them there is so much less room
  pub record Moved (room : List ℕ) (d : ℕ) (after : List ℕ) : Type 0 where
    pub ok : Roomed ls left after
    pub less : (S : ℕ → Bool) → Parts lots S → residual ls left S after + d ≡ residual ls left S room

  pub moved_way : (room : List ℕ) (d : ℕ) (p : List Arc) → Roomed ls left room → Way ls lots left room d p → Moved room d (send_all d room p)
  moved_way room d p ok w =
      let sent : Sent ls left d room w.start w.goal (send_all d room p) = send_path ls left d p room w.start w.goal ok w.leads w.clear in
      record {
        ok = sent.ok;
        less = λ S parts.
            let x : cond (S w.start) d 0 ≡ d = ap (λ t. cond t d 0) ((parts w.start).0 w.from_A) in
            let y : cond (S w.goal) d 0 ≡ 0 = ap (λ t. cond t d 0) ((parts w.goal).1 w.to_B) in
            omega (arith, sent.moved S);
      }

  pub moved_sends : (room : List ℕ) → Roomed ls left room → (list : List Send) (d : ℕ) (after : List ℕ) → Sends ls lots left room list d after
      → Moved room d after
  moved_sends room ok [] d after h =
      subst (λ r. Moved room d r) (sym h.1) (record { ok = ok; less = λ S parts. omega (arith, h.0) })
  moved_sends room ok (s ∷ list) d after h =
      let first : Moved room h.0 h.1 = moved_sends room ok list h.0 h.1 h.2 in
      let next : Moved h.1 s.amount (send_all s.amount h.1 s.path) = moved_way h.1 s.amount s.path first.ok h.3 in
      subst (λ r. Moved room d r) (sym h.5)
      (record { ok = next.ok; less = λ S parts. omega (arith, h.4, first.less S parts, next.less S parts) })

  -- what has been sent so far, and the room
  pub record Holds (room : List ℕ) (value : ℕ) : Type 0 where
    pub ok : Roomed ls left room
    pub balance : (S : ℕ → Bool) → Parts lots S → residual ls left S room + value ≡ side_cut ls S left_at

  pub at_first : length left ≡ length ls → Holds left 0
  at_first long =
      record {
        ok = record { long = long; within = λ k. omega arith };
        balance = λ S parts.
            let same : residual ls left S left ≡ side_cut ls S left_at =
            sum_below_same (length ls) _ _ (λ k lt. let e : 2 * get_or left k 0 - get_or left k 0 ≡ get_or left k 0 = omega arith in
            ap (λ b. crossing (S (link_at ls k).from) (S (link_at ls k).to) (get_or left k 0) b) e) in
            omega arith;
      }

  pub moved_holds : (room : List ℕ) (value d : ℕ) (after : List ℕ) → Holds room value → Moved room d after → Holds after (value + d)
  moved_holds room value d after h m =
      record { ok = m.ok; balance = λ S parts. omega (arith, h.balance S parts, m.less S parts) }

  -- no more is sent than is left across a side, or in all
  pub value_below : (room : List ℕ) (value : ℕ) → Holds room value → (S : ℕ → Bool) → Parts lots S → value ≤ side_cut ls S left_at
  value_below room value h S parts = omega (arith, h.balance S parts)

  pub side_cut_all : (S : ℕ → Bool) (f : ℕ → ℕ) → side_cut ls S f ≤ sum_below (length ls) f
  side_cut_all S f = sum_below_le (length ls) _ f (λ k lt. one (S (link_at ls k).from) (S (link_at ls k).to) (f k))
    where
      one : (s t : Bool) (x : ℕ) → crossing s t x x ≤ x
      one true true x = omega arith
      one true false x = omega arith
      one false true x = omega arith
      one false false x = omega arith

  pub value_most : length left ≡ length ls → (room : List ℕ) (value : ℕ) → Holds room value → value ≤ sum left
  value_most long room value h =
      let all : sum left ≡ sum_below (length ls) left_at = sum_by_index left ∙ ap (λ n. sum_below n left_at) long in
      omega (arith, value_below room value h (group_A lots) (group_A_parts lots), side_cut_all (group_A lots) left_at)

  -- the amounts of flow across a side are at least what is sent
  pub value_paid : (room : List ℕ) (value : ℕ) → Holds room value → (S : ℕ → Bool) → Parts lots S
      → value ≤ side_cut ls S (λ k. distance (get_or left k 0) (get_or room k 0))
  value_paid room value h S parts =
      let f : ℕ → Bool = λ k. S (link_at ls k).from in
      let t : ℕ → Bool = λ k. S (link_at ls k).to in
      let a : ℕ → ℕ = λ k. distance (get_or left k 0) (get_or room k 0) in
      let out : ℕ → ℕ = λ k. crossing (f k) (t k) (get_or room k 0) (2 * get_or left k 0 - get_or room k 0) in
      let le : side_cut ls S left_at ≤ sum_below (length ls) (λ k. out k + crossing (f k) (t k) (a k) (a k)) =
      sum_below_le (length ls) _ _ (λ k lt. one (f k) (t k) (get_or left k 0) (get_or room k 0) (h.ok.within k)) in
      omega (arith, le, h.balance S parts, sum_below_add (length ls) out (λ k. crossing (f k) (t k) (a k) (a k)))
    where
      one : (s t : Bool) (l r : ℕ) → r ≤ 2 * l → crossing s t l l ≤ crossing s t r (2 * l - r) + crossing s t (distance l r) (distance l r)
      one true true l r w = omega arith
      one true false l r w = omega arith
      one false true l r w = omega arith
      one false false l r w = omega arith

  -- the end: some side is shut, and what is sent is what is left across it
  pub record Ended (room : List ℕ) (value : ℕ) : Type 0 where
    pub holds : Holds room value
    pub shut : Shut ls lots left room

  pub value_is : (room : List ℕ) (value : ℕ) → (e : Ended room value) → side_cut ls e.shut.side left_at ≡ value
  value_is room value e =
      let S : ℕ → Bool = e.shut.side in
      let z : residual ls left S room ≡ 0 = sum_below_same (length ls) _ (λ k. 0) (λ k lt. shut_crossing ls lots left room e.shut k lt) ∙ sum_below_none (length ls) in
      omega (arith, e.holds.balance S (shut_parts e.shut), z)

  -- one round
  pub round_holds : (seek : Search) → Searches ls lots left seek → (room : List ℕ) (value : ℕ) → Holds room value → Holds (seek room).room (value + (seek room).sent)
  round_holds seek good room value h =
      let s = good.sends room h.ok in
      moved_holds room value (seek room).sent (seek room).room h (moved_sends room h.ok s.0 (seek room).sent (seek room).room s.1)

  pub round_ended : (seek : Search) → Searches ls lots left seek → (room : List ℕ) (value : ℕ) → Holds room value → (seek room).sent ≡ 0 → Ended (seek room).room value
  round_ended seek good room value h z =
      record {
        holds = let e : value + (seek room).sent ≡ value = omega arith in subst (λ v. Holds (seek room).room v) e (round_holds seek good room value h);
        shut = good.ends room h.ok z;
      }

  -- one round more of the recursion, and the last
  pub rounds_last : (seek : Search) (n : ℕ) (room : List ℕ) → 1 ≤ n → (seek room).sent ≡ 0 → rounds seek n room ≡ (seek room).room
  rounds_last seek zero room some z = absurd (omega arith)
  rounds_last seek (suc n) room some z =
      ap (λ (b : Bool). elim b [
        | true ↦ (seek room).room
        | false ↦ rounds seek n (seek room).room
      ]) (eq-eqb (seek room).sent 0 z)

  pub rounds_more : (seek : Search) (n more : ℕ) (room : List ℕ) → n ≡ suc more → ((seek room).sent ≡ 0 → ⊥) → rounds seek n room ≡ rounds seek more (seek room).room
  rounds_more seek n more room r ne =
      ap (λ i. rounds seek i room) r
      ∙ ap (λ (b : Bool). elim b [
        | true ↦ (seek room).room
        | false ↦ rounds seek more (seek room).room
      ]) (ne_eqb (seek room).sent 0 ne)

  -- enough rounds come to an end
  pub rounds_end : length left ≡ length ls → (seek : Search) → Searches ls lots left seek → (n : ℕ) (room : List ℕ) (value : ℕ) → Holds room value
      → sum left < n + value → (w : ℕ) × Ended (rounds seek n room) w
  rounds_end long seek good zero room value h lt = absurd (omega (arith, value_most long room value h))
  rounds_end long seek good (suc n) room value h lt =
      elim (eqb (seek room).sent 0) as (λ b. eqb (seek room).sent 0 ≡ b → (w : ℕ) × Ended (elim b [
        | true ↦ (seek room).room
        | false ↦ rounds seek n (seek room).room
      ]) w) [
        | true ↦ λ e. (value, round_ended seek good room value h (eqb-true (seek room).sent 0 e))
        | false ↦ λ e.
            let some = eqb-false (seek room).sent 0 e in
            rounds_end long seek good n (seek room).room (value + (seek room).sent) (round_holds seek good room value h) (omega arith)
      ] refl

  pub last_ended : length left ≡ length ls → (seek : Search) → Searches ls lots left seek → (w : ℕ) × Ended (last_room seek left) w
  last_ended long seek good = rounds_end long seek good (suc (sum left)) left 0 (at_first long) (omega arith)
