-- The least cut over all ways to part the groups: what is sent at the end of any search. Assumes nothing.
use Rattle.std.proofs.Common.{◌≡◌, ℕ, suc, ◌<◌, ◌≤◌, Bool, true, cond, List, [], ◌∷◌, length, get_or, sum, sym, refl, ◌∙◌, subst, ap₂, inl, inr, arith}
use Rattle.std.proofs.lemmas.Bool.{cases_lt}
use Rattle.std.proofs.lemmas.Bool.Decides.{nat_tests}
use Rattle.std.proofs.lemmas.List.{get_or_past}
use Rattle.std.proofs.lemmas.List.FromFn.{length-map-range_with_len, get_or-map-range_with_len}
use Rattle.parish.specs.Model.{Model, Sound}
use Rattle.parish.specs.declared.items.Link.{Link}
use Rattle.bisection.specs.Lots.{Lots, Bisects, extends, Extends}
use Rattle.bisection.specs.Costs.{cut}
use Rattle.bisection.specs.Bisections.{bisections}
use Rattle.bisection.specs.Meanings.{cut_charges}
use Rattle.bisection.proofs.Tests.{extends_decided}
use Rattle.bisection.proofs.Listing.{each_bisection, bisection_has, all_of_kept, all_kept_with, below_least, above_least}
use Rattle.bounds.specs.Sums.{listed}
use Rattle.bounds.specs.Left.{link_at}
use Rattle.flows.specs.Cuts.{ways, least_cut, LeastCut}
use Rattle.bounds.proofs.Indexed.{sum_below_same, sum_below_front}
use Rattle.flows.proofs.Sending.{crossing, side_cut}
use Rattle.flows.proofs.Rounds.{Parts, shut_parts, group_A, Ended, value_below, value_is, value_most}
use Rattle.flows.specs.Trees.{Within}
use Rattle.flows.proofs.Ends.{sound_ends}

-- ---- a bisection as a side: the households that it has in A

pub bisection_parts : (lots d : List ℕ) → Extends lots d → Parts lots (group_A d)
bisection_parts lots d ext v = (λ e. grind (arith, nat_tests, ext v), λ e. grind (arith, nat_tests, ext v))

-- what it cuts of some charges, by index
pub cut_side : (m : Model) (d cs : List ℕ) → Sound m → Bisects m d → length cs ≡ length m.links
    → cut_charges m.links cs d ≡ side_cut m.links (group_A d) (λ k. get_or cs k 0)
cut_side m d charges sound whole long =
    by m.links charges long (subst (λ n. Within n m.links) (sym whole.long) (sound_ends m sound))
  where
    by : (ls : List Link) (cs : List ℕ) → length cs ≡ length ls → Within (length d) ls
        → cut_charges ls cs d ≡ side_cut ls (group_A d) (λ k. get_or cs k 0)
    by [] cs same ends = refl
    by (l ∷ ls) [] same ends = absurd (omega arith)
    by (l ∷ ls) (c ∷ cs) same ends =
        let j = ends 0 (omega arith) in
        let x = whole.set_each l.from j.0 in
        let y = whole.set_each l.to j.1 in
        let here : cond (cut d l) c 0 ≡ crossing (group_A d l.from) (group_A d l.to) c c = grind (arith, nat_tests) in
        let more = by ls cs (omega arith) (λ k lt. ends (suc k) (omega arith)) in
        let at : ℕ → ℕ = λ k. get_or (c ∷ cs) k 0 in
        let term : ℕ → ℕ = λ k. crossing (group_A d (link_at (l ∷ ls) k).from) (group_A d (link_at (l ∷ ls) k).to) (at k) (at k) in
        omega (arith, here, more, sum_below_front (length ls) term)

-- ---- a side as a bisection

abbrev pub bisection_of : ℕ → (ℕ → Bool) → List ℕ
bisection_of n S = listed n (λ v. cond (S v) 1 2)

bisection_at : (n : ℕ) (S : ℕ → Bool) (v : ℕ) → v < n → get_or (bisection_of n S) v 0 ≡ cond (S v) 1 2
bisection_at n S v lt = get_or-map-range_with_len (λ v. cond (S v) 1 2) 0 n v v 0 lt (omega arith)

module _ (m : Model) (S : ℕ → Bool) where
  pub bisection_whole : Bisects m (bisection_of (length m.households) S)
  bisection_whole =
      let n : ℕ = length m.households in
      let long : length (bisection_of n S) ≡ n = length-map-range_with_len (λ v. cond (S v) 1 2) 0 n in
      record {
        long = long;
        set_each = λ k lt. let at = bisection_at n S k (omega arith) in (grind arith, grind arith);
      }

  pub bisection_extends : (lots : List ℕ) → Lots m lots → Parts lots S → Extends lots (bisection_of (length m.households) S)
  bisection_extends lots ok parts k some =
      elim (cases_lt k (length m.households)) [
        | inl lt ↦ grind (arith, bisection_at (length m.households) S k lt, ok.small k, (parts k).0, (parts k).1)
        | inr le ↦ absurd (omega (arith, get_or_past lots k 0 (omega (arith, ok.long))))
      ]

  pub bisection_cut : (cs : List ℕ) → Sound m → length cs ≡ length m.links
      → cut_charges m.links cs (bisection_of (length m.households) S) ≡ side_cut m.links S (λ k. get_or cs k 0)
  bisection_cut cs sound same =
      let ls : List Link = m.links in
      let n : ℕ = length m.households in
      let d : List ℕ = bisection_of n S in
      let ends : Within n ls = sound_ends m sound in
      let at : (v : ℕ) → v < n → group_A d v ≡ S v = λ v lt. grind (arith, nat_tests, bisection_at n S v lt) in
      cut_side m d cs sound bisection_whole same
      ∙ sum_below_same (length ls) _ _
      (λ k lt. ap₂ (λ s t. crossing s t (get_or cs k 0) (get_or cs k 0)) (at (link_at ls k).from (ends k lt).0) (at (link_at ls k).to (ends k lt).1))

-- ---- the least cut

module _ (m : Model) (lots left : List ℕ) where
  least_cut_below : (d : List ℕ) → Bisects m d → Extends lots d → least_cut m lots left ≤ cut_charges m.links left d
  least_cut_below d whole ext =
      let n : ℕ = length m.households in
      let all = (below_least (cut_charges m.links left) (sum left) (least_cut m lots left) (ways m lots) (omega arith)).1 in
      let kept = all_of_kept (extends lots) (λ e. least_cut m lots left ≤ cut_charges m.links left e) (bisections n) all in
      bisection_has (λ e. extends lots e ≡ true → least_cut m lots left ≤ cut_charges m.links left e) n kept d whole.long whole.set_each
      ((extends_decided lots d).1 ext)

  least_cut_above : (v : ℕ) → v ≤ sum left → ((d : List ℕ) → Bisects m d → Extends lots d → v ≤ cut_charges m.links left d)
      → v ≤ least_cut m lots left
  least_cut_above v most h =
      let n : ℕ = length m.households in
      let each = each_bisection (λ d. extends lots d ≡ true → v ≤ cut_charges m.links left d) n
      (λ d long set e. h d (record { long = long; set_each = set }) ((extends_decided lots d).0 e)) in
      above_least (cut_charges m.links left) (sum left) v (ways m lots) most
      (all_kept_with (extends lots) (λ d. v ≤ cut_charges m.links left d) (bisections n) each)

module _ (m : Model) (lots left : List ℕ) (sound : Sound m) (ok : Lots m lots) (long : length left ≡ length m.links)
    (room : List ℕ) (value : ℕ) (e : Ended m.links lots left room value) where
  -- no way to part the groups cuts less than what is sent, and the shut side cuts just that
  ended_words : LeastCut m lots left value
  ended_words =
      let S : ℕ → Bool = e.shut.side in
      record {
        below = λ d whole ext.
            let less = value_below m.links lots left room value e.holds (group_A d) (bisection_parts lots d ext) in
            omega (arith, less, cut_side m d left sound whole long);
        way = bisection_of (length m.households) S;
        whole = bisection_whole m S;
        parts = bisection_extends m S lots ok (shut_parts e.shut);
        cuts = bisection_cut m S left sound long ∙ value_is m.links lots left room value e;
      }

  pub ended_least : value ≡ least_cut m lots left
  ended_least =
      let w : LeastCut m lots left value = ended_words in
      let above = least_cut_above m lots left value (value_most m.links lots left long room value e.holds) w.below in
      let below = least_cut_below m lots left w.way w.whole w.parts in
      omega (arith, above, below, w.cuts)

  pub least_cut_in_words : LeastCut m lots left (least_cut m lots left)
  least_cut_in_words = subst (LeastCut m lots left) ended_least ended_words
