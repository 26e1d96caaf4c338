-- What the loop over the links of a level knows at each link. Assumes nothing.
use Rattle.std.proofs.Common.{◌≡◌, ℕ, zero, suc, ◌+◌, ◌-◌, ◌*◌, ◌<◌, ◌≤◌, Bool, true, false, cond, ◌&&◌, ◌==◌, List, ◌∷◌, length, get_or, set, Some, None, Option, sym, refl, ap, ◌∙◌, subst, ap₂, add-one, arith}
use Rattle.std.proofs.lemmas.Bool.{eq-eqb, ne_eqb, eqb-true, and_parts}
use Rattle.parish.specs.Limits.{most_links, strongest_held}
use Rattle.parish.specs.declared.items.Link.{Link}
use Rattle.flows.specs.declared.items.Arc.{Arc}
use Rattle.flows.specs.declared.items.Mark.{Mark}
use Rattle.bounds.specs.Sums.{sum_below}
use Rattle.bounds.specs.Left.{link_at}
use Rattle.flows.specs.Paths.{head, least_room, send_all, Open}
use Rattle.flows.specs.Rounds.{Roomed}
use Rattle.flows.specs.Levels.{level_one, Scan, fresh, goes_on, path_before, arc_on, sent_by, reached_by, by_arc, take_link, take_links, search_from, searched}
use Rattle.flows.specs.Trees.{IsNetwork, Ready}
use Rattle.bounds.proofs.Indexed.{sum_below_le}
use Rattle.flows.proofs.Sending.{crossing, residual}
use Rattle.flows.proofs.Rounds.{group_A, group_A_parts, Moved, moved_sends}
use Rattle.flows.proofs.Levels.{LeadsOn, arc_some, blank, way_by}
use Rattle.flows.proofs.Scanning.{Scanning, scanning, next_ready, first_ready}
use Rattle.flow.specs.declared.network.Network.{Network}
use Rattle.flow.specs.declared.network.Search.{Search}
use Rattle.flow.specs.Searching.{arc_on_in, path_to, least_room_in, IsReady, IsOpen, SendsAlong, Reaches, Scans, SearchesOnce}

-- what a scan can send at most: twice what is left of every link
abbrev pub most_sent : ℕ
most_sent = 2 * strongest_held * most_links

residual_most : (ls : List Link) (left room : List ℕ) (n : ℕ) (S : ℕ → Bool) → IsNetwork ls left n → Roomed ls left room → residual ls left S room ≤ most_sent
residual_most ls left room n S net ok =
    let each : residual ls left S room ≤ sum_below (length ls) (λ k. 2 * strongest_held) =
    sum_below_le (length ls) _ _ (λ k lt. one (S (link_at ls k).from) (S (link_at ls k).to) (get_or left k 0) (get_or room k 0) (net.small k) (ok.within k)) in
    omega (arith, each, flat (length ls), net.short)
  where
    one : (s t : Bool) (l r : ℕ) → l ≤ strongest_held → r ≤ 2 * l → crossing s t r (2 * l - r) ≤ 2 * strongest_held
    one true true l r h g = omega arith
    one true false l r h g = omega arith
    one false true l r h g = omega arith
    one false false l r h g = omega arith

    flat : (m : ℕ) → sum_below m (λ k. 2 * strongest_held) ≡ 2 * strongest_held * m
    flat zero = refl
    flat (suc m) = omega (arith, flat m)

-- what a search holds, with what the scan of a level has come to
abbrev pub scan_of : Bool → ℕ → Search → Scan
scan_of grew sent t = record { grew = grew; sent = sent; room = t.room.now; marks = t.marks.now }

-- two of these with the same parts
pub scan_same : {g h : Bool} {x y : ℕ} {r q : List ℕ} {m n : List (Option Mark)} → g ≡ h → x ≡ y → r ≡ q → m ≡ n
    → ◌≡◌ {A = Scan} (record { grew = g; sent = x; room = r; marks = m }) (record { grew = h; sent = y; room = q; marks = n })
scan_same a b c d = cc

-- so many links of a level are taken
abbrev pub links_taken : Search → ℕ → ℕ → Scan
links_taken s depth k = take_links s.network.links.now s.network.lots.now s.network.left.now depth (fresh s.room.now s.marks.now) k

-- before link k is taken, from s to t
pub record Taking (s t : Search) (depth k : ℕ) (grew : Bool) (sent : ℕ) : Type 0 where
  pub network : t.network ≡ s.network
  pub scan : scan_of grew sent t ≡ links_taken s depth k

module _ (s : Search) (depth k : ℕ) (ready : IsReady s depth) (le : k ≤ length s.network.links.now) {scan : Scan} (is : scan ≡ links_taken s depth k) where
  pub scan_state : Scanning s.network.links.now s.network.lots.now s.network.left.now depth (blank (length s.network.lots.now) s.marks.now) s.room.now scan k
  scan_state =
      subst (λ x. Scanning s.network.links.now s.network.lots.now s.network.left.now depth (blank (length s.network.lots.now) s.marks.now) s.room.now x k) (sym is)
      (scanning s.network.links.now s.network.lots.now s.network.left.now s.network.fits.ends depth s.room.now s.marks.now ready k le)

  pub sent_fits : scan.sent ≤ most_sent
  sent_fits =
      let moved : Moved s.network.links.now s.network.lots.now s.network.left.now s.room.now scan.sent scan.room =
      moved_sends s.network.links.now s.network.lots.now s.network.left.now s.room.now s.roomed scan_state.list scan.sent scan.room scan_state.sends in
      omega (
        arith,
        moved.less (group_A s.network.lots.now) (group_A_parts s.network.lots.now),
        residual_most s.network.links.now s.network.left.now s.room.now (length s.network.lots.now) (group_A s.network.lots.now) s.network.fits s.roomed,
      )

module _ {s t : Search} {depth k : ℕ} {grew : Bool} {sent : ℕ} (h : Taking s t depth k grew sent) (ready : IsReady s depth) (lt : k < length s.network.links.now) where
  -- one link more
  more : take_link s.network.links.now s.network.lots.now s.network.left.now depth (scan_of grew sent t) k ≡ links_taken s depth (k + 1)
  more =
      ap (λ x. take_link s.network.links.now s.network.lots.now s.network.left.now depth x k) h.scan
      ∙ ap (links_taken s depth) (sym (add-one k))

  found_old : arc_on_in t depth k ≡ arc_on s.network.links.now s.network.left.now t.room.now t.marks.now depth k
  found_old = ap (λ (net : Network). arc_on net.links.now net.left.now t.room.now t.marks.now depth k) h.network

  pub scan_pass : None ≡ arc_on_in t depth k → Taking s t depth (k + 1) grew sent
  scan_pass none =
      record {
        network = h.network;
        scan = ap (by_arc s.network.links.now s.network.lots.now s.network.left.now depth (scan_of grew sent t)) (none ∙ found_old) ∙ more;
      }

  module _ {a : Arc} (found : Some a ≡ arc_on_in t depth k) where
    arc_is : (a.link ≡ k) × LeadsOn t.network.links.now t.network.left.now t.room.now t.marks.now depth a
    arc_is = arc_some t.network.links.now t.network.left.now t.room.now t.marks.now depth k a (sym found)

    pub scan_there : a.link < length t.network.links.now
    scan_there = omega (arith, arc_is.0, ap (λ (net : Network). length net.links.now) h.network)

    -- where it leads to B, the path that it ends is open
    pub scan_open : get_or s.network.lots.now (head s.network.links.now a) 0 ≡ 2 → IsOpen t (least_room_in t a) (path_to t a)
    scan_open goal =
        let here = ap (λ (net : Network). get_or net.lots.now (head net.links.now a) 0) h.network ∙ goal in
        subst (λ n. Open t.network.links.now t.network.left.now t.room.now (least_room t.network.left.now t.room.now a (path_before t.network.links.now t.marks.now n a)) (a ∷ path_before t.network.links.now t.marks.now n a))
        (sym arc_is.1.here)
        (way_by t.network.links.now t.network.lots.now t.marks.now t.tree t.network.left.now t.room.now depth a ready.deep scan_there arc_is.1 here).clear

    -- the path as the theory has it
    path_is : path_to t a ≡ a ∷ path_before s.network.links.now t.marks.now depth a
    path_is =
        ap (λ n. a ∷ path_before t.network.links.now t.marks.now n a) arc_is.1.here
        ∙ ap (λ (net : Network). a ∷ path_before net.links.now t.marks.now depth a) h.network

    least_is : least_room_in t a ≡ least_room s.network.left.now t.room.now a (path_before s.network.links.now t.marks.now depth a)
    least_is =
        ap (λ n. least_room t.network.left.now t.room.now a (path_before t.network.links.now t.marks.now n a)) arc_is.1.here
        ∙ ap (λ (net : Network). least_room net.left.now t.room.now a (path_before net.links.now t.marks.now depth a)) h.network

    taken : (b : Bool) → (get_or s.network.lots.now (head s.network.links.now a) 0 == 2) ≡ b
        → cond b (sent_by s.network.links.now s.network.left.now depth (scan_of grew sent t) a) (reached_by s.network.links.now depth (scan_of grew sent t) a)
        ≡ links_taken s depth (k + 1)
    taken b e =
        sym (ap (λ x. cond x (sent_by s.network.links.now s.network.left.now depth (scan_of grew sent t) a) (reached_by s.network.links.now depth (scan_of grew sent t) a)) e)
        ∙ ap (by_arc s.network.links.now s.network.lots.now s.network.left.now depth (scan_of grew sent t)) (found ∙ found_old) ∙ more

    pub scan_send : get_or s.network.lots.now (head s.network.links.now a) 0 ≡ 2 → {t' : Search} {d : ℕ} → d ≡ least_room_in t a
        → SendsAlong t t' d (path_to t a) → Taking s t' depth (k + 1) grew (sent + d)
    scan_send goal {t'} {d} amount q =
        let least : d ≡ least_room s.network.left.now t.room.now a (path_before s.network.links.now t.marks.now depth a) = amount ∙ least_is in
        record {
          network = q.network ∙ h.network;
          scan = scan_same refl (ap (λ n. sent + n) least)
              (q.room ∙ ap (send_all d t.room.now) path_is ∙ ap (λ n. send_all n t.room.now (a ∷ path_before s.network.links.now t.marks.now depth a)) least) q.marks
              ∙ taken true (eq-eqb (get_or s.network.lots.now (head s.network.links.now a) 0) 2 goal);
        }

    pub scan_reach : (get_or s.network.lots.now (head s.network.links.now a) 0 ≡ 2 → ⊥) → {t' : Search} → Reaches t t' depth a
        → Taking s t' depth (k + 1) true sent
    scan_reach free {t'} q =
        record {
          network = q.network ∙ h.network;
          scan = scan_same refl refl q.room
              (q.marks ∙ ap (λ (net : Network). set t.marks.now (head net.links.now a) (Some (record { level = depth + 1; arc = Some a }))) h.network)
              ∙ taken false (ne_eqb (get_or s.network.lots.now (head s.network.links.now a) 0) 2 free);
        }

-- ---- a level that is scanned, and the search from there on

-- the search from a level on, so many levels at most
abbrev pub search_on : Search → ℕ → ℕ → Scan
search_on t n depth = search_from t.network.links.now t.network.lots.now t.network.left.now n depth t.room.now t.marks.now

-- before a level is scanned, from s to t: the search from there on comes to what the whole does
pub record Seeking (s t : Search) (n depth : ℕ) : Type 0 where
  pub network : t.network ≡ s.network
  pub goes_on : search_on t n depth ≡ searched s.network.links.now s.network.lots.now s.network.left.now s.room.now
  pub ready : IsReady t depth

pub first_level : (s t : Search) (n : ℕ) → n ≡ length s.network.lots.now → t.network ≡ s.network → t.room.now ≡ s.room.now → t.marks.now ≡ level_one s.network.lots.now
    → Seeking s t n 1
first_level s t n all same room marks =
    record {
      network = same;
      goes_on = ap (λ i. search_on t i 1) all
          ∙ ap (λ (net : Network). search_from net.links.now net.lots.now net.left.now (length s.network.lots.now) 1 t.room.now t.marks.now) same
          ∙ ap₂ (λ (r : List ℕ) (ms : List (Option Mark)). search_from s.network.links.now s.network.lots.now s.network.left.now (length s.network.lots.now) 1 r ms) room marks;
      ready = subst (λ (ms : List (Option Mark)). Ready t.network.links.now t.network.lots.now t.network.left.now 1 t.room.now ms) (sym (marks ∙ ap (λ (net : Network). level_one net.lots.now) (sym same)))
          (first_ready t.network.links.now t.network.lots.now t.network.left.now t.network.fits.ends t.room.now);
    }

pub no_level : {s t : Search} {n depth : ℕ} → Seeking s t n depth → n ≡ 0 → SearchesOnce s t 0
no_level {t = t} {depth = depth} h none =
    let end = sym (ap (λ i. search_on t i depth) none) ∙ h.goes_on in
    record { network = h.network; sent = ap (λ (x : Scan). x.sent) end; room = ap (λ (x : Scan). x.room) end }

module _ {s t t' : Search} {n depth : ℕ} {grew : Bool} {sent : ℕ} (h : Seeking s t n depth) (q : Scans t t' depth grew sent) (more : ℕ) (e : n ≡ suc more) where
  -- the search from this level, by whether it goes on
  by_going : (b : Bool) → (grew && (sent == 0)) ≡ b
      → (elim b [
        | true ↦ search_from t.network.links.now t.network.lots.now t.network.left.now more (depth + 1) t'.room.now t'.marks.now
        | false ↦ scan_of grew sent t'
      ]) ≡ search_on t n depth
  by_going b is =
      ap (λ (x : Bool). elim x [
        | true ↦ search_from t.network.links.now t.network.lots.now t.network.left.now more (depth + 1) t'.room.now t'.marks.now
        | false ↦ scan_of grew sent t'
      ]) (sym is)
      ∙ ap (λ (x : Scan). elim (goes_on x) [
        | true ↦ search_from t.network.links.now t.network.lots.now t.network.left.now more (depth + 1) x.room x.marks
        | false ↦ x
      ]) q.scan
      ∙ sym (ap (λ i. search_on t i depth) e)

  pub level_stops : (grew && (sent == 0)) ≡ false → SearchesOnce s t' sent
  level_stops stops =
      let end = by_going false stops ∙ h.goes_on in
      record { network = q.network ∙ h.network; sent = ap (λ (x : Scan). x.sent) end; room = ap (λ (x : Scan). x.room) end }

  pub level_goes : (grew && (sent == 0)) ≡ true → Seeking s t' more (depth + 1)
  level_goes goes =
      record {
        network = q.network ∙ h.network;
        goes_on = ap (λ (net : Network). search_from net.links.now net.lots.now net.left.now more (depth + 1) t'.room.now t'.marks.now) q.network
            ∙ by_going true goes ∙ h.goes_on;
        ready = subst (λ (net : Network). Ready net.links.now net.lots.now net.left.now (depth + 1) t'.room.now t'.marks.now) (sym q.network)
            (next_ready t.network.links.now t.network.lots.now t.network.left.now t.network.fits.ends depth (blank (length t.network.lots.now) t.marks.now) h.ready.deep t.room.now (scan_of grew sent t')
            (scan_state t depth (length t.network.links.now) h.ready (omega arith) q.scan) (eqb-true sent 0 (and_parts grew (sent == 0) goes).1));
      }
