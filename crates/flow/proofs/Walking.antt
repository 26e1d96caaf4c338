-- A path taken arc by arc, from its last. Assumes nothing.
use Rattle.std.proofs.Common.{◌≡◌, ℕ, zero, suc, ◌-◌, ◌<◌, min, List, [], ◌∷◌, length, Some, None, Option, sym, refl, ap, ◌∙◌, subst, ap₂, arith}
use Rattle.bisection.specs.Answers.{least}
use Rattle.flows.specs.declared.items.Arc.{Arc}
use Rattle.flows.specs.declared.items.Mark.{Mark}
use Rattle.flows.specs.Paths.{tail, send_all, Open}
use Rattle.flows.specs.Levels.{level_of, arc_to, path_back}
use Rattle.flows.proofs.Levels.{path_more, Step, step_to}
use Rattle.flows.proofs.Sending.{open_rest}
use Rattle.flow.specs.declared.network.Network.{Network}
use Rattle.flow.specs.declared.network.Search.{Search}
use Rattle.flow.specs.Searching.{room_in, least_room_in, path_to, SendsAlong}

-- the path that an arc ends, if there is one
abbrev pub path_by : Search → Option Arc → List Arc
path_by s None = []
path_by s (Some a) = path_to s a

-- the arc before one
abbrev pub before : Search → Arc → Option Arc
before s a = arc_to s.marks.now (tail s.network.links.now a)

-- sending along a path changes none
pub before_kept : {s t : Search} {d : ℕ} {p : List Arc} → SendsAlong s t d p → (a : Arc) → before s a ≡ before t a
before_kept sent a = ap₂ (λ (net : Network) (ms : List (Option Mark)). arc_to ms (tail net.links.now a)) (sym sent.network) (sym sent.marks)

-- before an arc is taken: it is there, and the least room so far goes on to that of the whole path
pub record Measuring (s : Search) (next : Option Arc) (sofar whole : ℕ) : Type 0 where
  pub there : (a : Arc) → next ≡ Some a → a.link < length s.network.links.now
  pub goes_on : least (room_in s) sofar (path_by s next) ≡ whole

-- and before one is sent along, from s to t: what is left of the path is open, and comes to what the whole does
pub record Walking (s t : Search) (d : ℕ) (next : Option Arc) (whole : List ℕ) : Type 0 where
  pub network : t.network ≡ s.network
  pub marks : t.marks.now ≡ s.marks.now
  pub goes_on : send_all d t.room.now (path_by s next) ≡ whole
  pub clear : Open s.network.links.now s.network.left.now t.room.now d (path_by s next)

module _ (s : Search) where
  -- the path back from a household is that by the arc to it
  back_by : (v n : ℕ) → level_of s.marks.now v ≡ n → path_back s.network.links.now s.marks.now (n - 1) v ≡ path_by s (arc_to s.marks.now v)
  back_by v zero e = sym (ap (path_by s) (s.tree.roots v (omega arith)))
  back_by v (suc zero) e = sym (ap (path_by s) (s.tree.roots v (omega arith)))
  back_by v (suc (suc d)) e =
      let p : Step s.network.links.now s.marks.now v d = step_to s.tree v d e in
      let steps : suc (suc d) - 1 ≡ suc d = omega arith in
      let level : d ≡ level_of s.marks.now (tail s.network.links.now p.arc) - 1 = omega (arith, p.above) in
      ap (λ i. path_back s.network.links.now s.marks.now i v) steps
      ∙ path_more s.network.links.now s.marks.now d v p.arc p.is
      ∙ ap (λ i. p.arc ∷ path_back s.network.links.now s.marks.now i (tail s.network.links.now p.arc)) level
      ∙ sym (ap (path_by s) p.is)

  -- one arc of the path, and the rest
  one_more : (a : Arc) → path_to s a ≡ a ∷ path_by s (before s a)
  one_more a =
      ap (λ p. a ∷ p) (back_by (tail s.network.links.now a) (level_of s.marks.now (tail s.network.links.now a)) refl)

  -- the arc before one is there
  arc_there : (v n : ℕ) → level_of s.marks.now v ≡ n → (a : Arc) → arc_to s.marks.now v ≡ Some a → a.link < length s.network.links.now
  arc_there v zero e a is = absurd (let z = sym (s.tree.roots v (omega arith)) ∙ is in cc)
  arc_there v (suc zero) e a is = absurd (let z = sym (s.tree.roots v (omega arith)) ∙ is in cc)
  arc_there v (suc (suc d)) e a is =
      let p : Step s.network.links.now s.marks.now v d = step_to s.tree v d e in
      let some : ◌≡◌ {A = Option Arc} (Some p.arc) (Some a) = sym p.is ∙ is in
      let same : p.arc ≡ a = cc in
      subst (λ (b : Arc). b.link < length s.network.links.now) same p.there

  -- the least room is measured from the last arc on
  measuring_from : (a : Arc) (next : Option Arc) (sofar whole : ℕ) → next ≡ before s a → least (room_in s) sofar (path_by s (before s a)) ≡ whole
      → Measuring s next sofar whole
  measuring_from a next sofar whole q e =
      record {
        there = λ b is. arc_there (tail s.network.links.now a) (level_of s.marks.now (tail s.network.links.now a)) refl b (sym q ∙ is);
        goes_on = ap (λ o. least (room_in s) sofar (path_by s o)) q ∙ e;
      }

  pub measuring_first : (a : Arc) {next : Option Arc} {sofar : ℕ} → next ≡ before s a → sofar ≡ room_in s a → Measuring s next sofar (least_room_in s a)
  measuring_first a {next} {sofar} q r =
      measuring_from a next sofar (least_room_in s a) q
      (ap (λ x. least (room_in s) x (path_by s (before s a))) r
      ∙ ap (least (room_in s) (room_in s a)) (sym (back_by (tail s.network.links.now a) (level_of s.marks.now (tail s.network.links.now a)) refl)))

  by_more : (next : Option Arc) (a : Arc) → next ≡ Some a → path_by s next ≡ a ∷ path_by s (before s a)
  by_more next a is = ap (path_by s) is ∙ one_more a

  module _ {next next' : Option Arc} {a : Arc} (is : next ≡ Some a) where
    pub fewer : next' ≡ before s a → length (path_by s next') < length (path_by s next)
    fewer q = omega (arith, ap length (by_more next a is), ap (λ o. length (path_by s o)) q)

    pub measuring_more : {sofar now' whole : ℕ} → next' ≡ before s a → now' ≡ min sofar (room_in s a) → Measuring s next sofar whole → Measuring s next' now' whole
    measuring_more {sofar} {now'} {whole} q r h =
        measuring_from a next' now' whole q (ap (λ x. least (room_in s) x (path_by s (before s a))) r ∙ sym (ap (least (room_in s) sofar) (by_more next a is)) ∙ h.goes_on)

    module _ {t t' : Search} {d : ℕ} {whole : List ℕ} (h : Walking s t d next whole) where
      module _ (sent : SendsAlong t t' d (a ∷ [])) (q : next' ≡ before t' a) where
        pub next_is : next' ≡ before s a
        next_is = q ∙ ap₂ (λ (net : Network) (ms : List (Option Mark)). arc_to ms (tail net.links.now a)) (sent.network ∙ h.network) (sent.marks ∙ h.marks)

        pub walking_more : Walking s t' d next' whole
        walking_more =
            rw next_is
            (record {
              network = sent.network ∙ h.network;
              marks = sent.marks ∙ h.marks;
              goes_on = ap (λ r. send_all d r (path_by s (before s a))) sent.room ∙ sym (ap (send_all d t.room.now) (by_more next a is)) ∙ h.goes_on;
              clear = subst (λ r. Open s.network.links.now s.network.left.now r d (path_by s (before s a))) (sym sent.room)
                  (open_rest s.network.links.now s.network.left.now d t.room.now a (path_by s (before s a))
                  (subst (Open s.network.links.now s.network.left.now t.room.now d) (by_more next a is) h.clear));
            })
