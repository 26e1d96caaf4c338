-- Sending along a path: for every side S, the room left across it falls by what is sent, where the path leads out of S.
-- A side is a test on households. Assumes nothing.
use Rattle.std.proofs.Common.{◌≡◌, ℕ, ◌+◌, ◌-◌, ◌*◌, ◌<◌, ◌≤◌, min, Bool, true, false, cond, ◌≢◌, List, [], ◌∷◌, length, get_or, set, sym, ap, ◌∙◌, subst, inl, inr, arith, length-set, get_or-set_other, get_or-set_same}
use Rattle.std.specs.List.{AllByRecursion}
use Rattle.std.proofs.lemmas.Bool.{cases_eq}
use Rattle.parish.specs.declared.items.Link.{Link}
use Rattle.bisection.specs.Answers.{least}
use Rattle.bounds.specs.Sums.{sum_below}
use Rattle.bounds.specs.Left.{link_at}
use Rattle.flows.specs.declared.items.Arc.{Arc}
use Rattle.flows.specs.Paths.{tail, head, room_of, send, send_all, least_room, Leads, Open}
use Rattle.flows.specs.Rounds.{Roomed}
use Rattle.bounds.proofs.Indexed.{sum_below_change}

-- of a link with a room a onward and b back, the room out of a side
abbrev pub crossing : Bool → Bool → ℕ → ℕ → ℕ
crossing s t a b = cond s (cond t 0 a) (cond t b 0)

abbrev pub across : List Link → (ℕ → Bool) → (ℕ → ℕ) → (ℕ → ℕ) → ℕ
across ls S a b = sum_below (length ls) (λ k. crossing (S (link_at ls k).from) (S (link_at ls k).to) (a k) (b k))

-- what a side cuts of some amount for each link
abbrev pub side_cut : List Link → (ℕ → Bool) → (ℕ → ℕ) → ℕ
side_cut ls S amount = across ls S amount amount

abbrev pub residual : List Link → List ℕ → (ℕ → Bool) → List ℕ → ℕ
residual ls left S room = across ls S (λ k. get_or room k 0) (λ k. 2 * get_or left k 0 - get_or room k 0)

pub all_both : (P Q R : Arc → Type 0) (p : List Arc) → ((a : Arc) → P a → Q a → R a) → AllByRecursion P p → AllByRecursion Q p → AllByRecursion R p
all_both P Q R [] f h g = tt
all_both P Q R (a ∷ p) f h g = (f a h.0 g.0, all_both P Q R p f h.1 g.1)

-- one link, by its ends
onward_term : (s t : Bool) (r l d : ℕ) → r ≤ 2 * l → d ≤ r
    → crossing s t (r - d) (2 * l - (r - d)) + cond s d 0 ≡ crossing s t r (2 * l - r) + cond t d 0
onward_term true true r l d w h = omega arith
onward_term true false r l d w h = omega arith
onward_term false true r l d w h = omega arith
onward_term false false r l d w h = omega arith

back_term : (s t : Bool) (r l d : ℕ) → r ≤ 2 * l → d ≤ 2 * l - r
    → crossing s t (r + d) (2 * l - (r + d)) + cond t d 0 ≡ crossing s t r (2 * l - r) + cond s d 0
back_term true true r l d w h = omega arith
back_term true false r l d w h = omega arith
back_term false true r l d w h = omega arith
back_term false false r l d w h = omega arith

-- sending along an arc leaves the room of any other link
pub room_kept_at : (d : ℕ) (room : List ℕ) (a b : Arc) → (a.link ≡ b.link → ⊥) → get_or (send d room a) b.link 0 ≡ get_or room b.link 0
room_kept_at d room a b ne =
    get_or-set_other room a.link b.link (cond a.onward (get_or room a.link 0 - d) (get_or room a.link 0 + d)) 0 (λ e. ne (sym e))

module _ (ls : List Link) (left : List ℕ) where
  -- a room put in the place of another at one link
  changed : (room : List ℕ) (k x : ℕ) (S : ℕ → Bool) → k < length ls → length room ≡ length ls
      → residual ls left S (set room k x) + crossing (S (link_at ls k).from) (S (link_at ls k).to) (get_or room k 0) (2 * get_or left k 0 - get_or room k 0)
      ≡ residual ls left S room + crossing (S (link_at ls k).from) (S (link_at ls k).to) x (2 * get_or left k 0 - x)
  changed room k x S lt long =
      let term : (ℕ → ℕ) → ℕ → ℕ = λ r j. crossing (S (link_at ls j).from) (S (link_at ls j).to) (r j) (2 * get_or left j 0 - r j) in
      let at : get_or (set room k x) k 0 ≡ x = get_or-set_same room k x 0 (omega arith) in
      sum_below_change (length ls) k (term (λ j. get_or (set room k x) j 0)) (term (λ j. get_or room j 0)) lt
      (λ j ne. ap (λ y. crossing (S (link_at ls j).from) (S (link_at ls j).to) y (2 * get_or left j 0 - y)) (get_or-set_other room k j x 0 ne))
      ∙ ap (λ y. residual ls left S room + crossing (S (link_at ls k).from) (S (link_at ls k).to) y (2 * get_or left k 0 - y)) at

  set_within : (room : List ℕ) (k x : ℕ) → Roomed ls left room → k < length ls → x ≤ 2 * get_or left k 0 → Roomed ls left (set room k x)
  set_within room k x ok lt h =
      record {
        long = length-set room k x ∙ ok.long;
        within = λ j.
            elim (cases_eq j k) [
              | inl e ↦ rw e (let l : k < length room = omega (arith, ok.long) in rw get_or-set_same h)
              | inr ne ↦ let n : j ≢ k = ne in rw get_or-set_other (ok.within j)
            ];
      }

  pub record Sent (d : ℕ) (room : List ℕ) (start goal : ℕ) (after : List ℕ) : Type 0 where
    pub ok : Roomed ls left after
    pub moved : (S : ℕ → Bool) → residual ls left S after + cond (S start) d 0 ≡ residual ls left S room + cond (S goal) d 0

  -- one arc
  send_arc : (d k : ℕ) (o : Bool) (room : List ℕ) → Roomed ls left room → k < length ls → d ≤ room_of left room (record { link = k; onward = o })
      → Sent d room (tail ls (record { link = k; onward = o })) (head ls (record { link = k; onward = o })) (send d room (record { link = k; onward = o }))
  send_arc d k true room ok lt h =
      record {
        ok = set_within room k (get_or room k 0 - d) ok lt (omega (arith, ok.within k));
        moved = λ S. omega (arith, changed room k (get_or room k 0 - d) S lt ok.long, onward_term (S (link_at ls k).from) (S (link_at ls k).to) (get_or room k 0) (get_or left k 0) d (ok.within k) h);
      }
  send_arc d k false room ok lt h =
      record {
        ok = set_within room k (get_or room k 0 + d) ok lt (omega (arith, ok.within k));
        moved = λ S. omega (arith, changed room k (get_or room k 0 + d) S lt ok.long, back_term (S (link_at ls k).from) (S (link_at ls k).to) (get_or room k 0) (get_or left k 0) d (ok.within k) h);
      }

  -- an arc of another link keeps its room
  room_kept : (d : ℕ) (room : List ℕ) (a b : Arc) → (a.link ≡ b.link → ⊥) → room_of left (send d room a) b ≡ room_of left room b
  room_kept d room a b ne = ap (λ y. cond b.onward y (2 * get_or left b.link 0 - y)) (room_kept_at d room a b ne)

  -- the rest of a path, after its last arc
  pub open_rest : (d : ℕ) (room : List ℕ) (a : Arc) (p : List Arc) → Open ls left room d (a ∷ p) → Open ls left (send d room a) d p
  open_rest d room a p h =
      record {
        apart = h.apart.1;
        there = h.there.1;
        roomy = all_both (λ b. a.link ≡ b.link → ⊥) (λ b. d ≤ room_of left room b) (λ b. d ≤ room_of left (send d room a) b) p
            (λ b ne le. subst (λ y. d ≤ y) (sym (room_kept d room a b ne)) le) h.apart.0 h.roomy.1;
      }

  -- all arcs of a path
  pub send_path : (d : ℕ) (p : List Arc) (room : List ℕ) (start goal : ℕ) → Roomed ls left room → Leads ls p start goal → Open ls left room d p
      → Sent d room start goal (send_all d room p)
  send_path d [] room start goal ok leads clear =
      record { ok = ok; moved = λ S. ap (λ v. residual ls left S room + cond (S v) d 0) leads }
  send_path d (a ∷ p) room start goal ok leads clear =
      let one : Sent d room (tail ls a) (head ls a) (send d room a) = send_arc d a.link a.onward room ok clear.there.0 clear.roomy.0 in
      let more : Sent d (send d room a) start (tail ls a) (send_all d (send d room a) p) =
      send_path d p (send d room a) start (tail ls a) one.ok leads.1 (open_rest d room a p clear) in
      record {
        ok = more.ok;
        moved = λ S.
            let e : cond (S (head ls a)) d 0 ≡ cond (S goal) d 0 = ap (λ v. cond (S v) d 0) leads.0 in
            omega (arith, more.moved S, one.moved S, e);
      }

-- the least room along a path can be sent
least_start : (left room : List ℕ) (p : List Arc) (u : ℕ) → least (room_of left room) u p ≤ u
least_start left room [] u = omega arith
least_start left room (a ∷ p) u = omega (arith, least_start left room p (min u (room_of left room a)))

least_each : (left room : List ℕ) (p : List Arc) (u : ℕ) → AllByRecursion (λ a. least (room_of left room) u p ≤ room_of left room a) p
least_each left room [] u = tt
least_each left room (a ∷ p) u =
    let v : ℕ = min u (room_of left room a) in (
      omega (arith, least_start left room p v),
      least_each left room p v,
    )

pub least_sendable : (left room : List ℕ) (a : Arc) (p : List Arc) → AllByRecursion (λ b. least_room left room a p ≤ room_of left room b) (a ∷ p)
least_sendable left room a p = (least_start left room p (room_of left room a), least_each left room p (room_of left room a))

-- and it is something, where each arc has some
pub least_some : (left room : List ℕ) (p : List Arc) (u : ℕ) → 1 ≤ u → AllByRecursion (λ a. 1 ≤ room_of left room a) p → 1 ≤ least (room_of left room) u p
least_some left room [] u some h = some
least_some left room (a ∷ p) u some h = least_some left room p (min u (room_of left room a)) (omega (arith, h.0)) h.1
