-- The laws of the charges of this crate's bounds. Assumes nothing.
use Rattle.std.specs.Prelude.{◌≡◌, ℕ, zero, suc, ◌≤◌, true, cond, ◌&&◌, List, [], ◌∷◌, map, sum_by, nat_lt, slice_index, slice_index_or}
use Rattle.std.proofs.Common.{arith}
use Rattle.std.proofs.lemmas.List.{length-map}
use Rattle.std.proofs.lemmas.List.Sums.{sum_by-cons, sum-map}
use Rattle.std.proofs.lemmas.Bool.{ltb-true, and_parts, cond_both}
use Rattle.parish.specs.Model.{Model}
use Rattle.parish.specs.declared.items.Link.{Link}
use Rattle.bisection.specs.Lots.{Extends}
use Rattle.bisection.specs.Costs.{cut}
use Rattle.bisection.specs.Meanings.{cut_charges, bare, is_decided, decided_charge, decided}
use Rattle.bounds.specs.Bounds.{strengths, Bounds}

-- charges made link by link, none above the strength
map_within : (f : Link → ℕ) → ((l : Link) → f l ≤ l.strength) → (ls : List Link) (k : ℕ) → slice_index (map f ls) k ≤ slice_index (strengths ls) k
map_within f h [] k = omega arith
map_within f h (l ∷ ls) zero = h l
map_within f h (l ∷ ls) (suc k) = map_within f h ls k

-- where every charged link is cut, the cut links carry all charges
map_cut : (f : Link → ℕ) (d : List ℕ) → ((l : Link) → f l ≤ cond (cut d l) (f l) 0) → (ls : List Link) → sum_by f ls ≤ cut_charges ls (map f ls) d
map_cut f d h [] = omega arith
map_cut f d h (l ∷ ls) = omega (arith, h l, sum_by-cons f l ls, map_cut f d h ls)

pub decided_most : (lots : List ℕ) (l : Link) → decided_charge lots l ≤ l.strength
decided_most lots l = cond_both (is_decided lots l) l.strength 0 (λ x. x ≤ l.strength) (λ _. omega arith) (λ _. omega arith)

-- a decided link is cut by every bisection that extends the list
decided_cut : (lots d : List ℕ) → Extends lots d → (l : Link) → is_decided lots l ≡ true → cut d l ≡ true
decided_cut lots d ext l e =
    let x : ℕ = slice_index_or lots l.from 0 in
    let y : ℕ = slice_index_or lots l.to 0 in
    let p = and_parts (nat_lt 0 x) (nat_lt 0 y && cut lots l) e in
    let q = and_parts (nat_lt 0 y) (cut lots l) p.1 in
    let a : slice_index_or d l.from 0 ≡ slice_index_or lots l.from 0 = ext l.from (omega (arith, ltb-true 0 x p.0)) in
    let b : slice_index_or d l.to 0 ≡ slice_index_or lots l.to 0 = ext l.to (omega (arith, ltb-true 0 y q.0)) in
    rw (a, b) q.1

decided_paid : (lots d : List ℕ) → Extends lots d → (l : Link) → decided_charge lots l ≤ cond (cut d l) (decided_charge lots l) 0
decided_paid lots d ext l =
    cond_both (is_decided lots l) l.strength 0 (λ x. x ≤ cond (cut d l) x 0)
    (λ e. rw (decided_cut lots d ext l e) (omega arith))
    (λ _. omega arith)

pub bare_bounds : (m : Model) (limit : ℕ) (lots : List ℕ) → Bounds m limit lots (bare.number m limit lots) (bare.charges m limit lots)
bare_bounds m limit lots = record {
  long = length-map m.links (λ (_ : Link). 0);
  within = map_within (λ _. 0) (λ l. omega arith) m.links;
  charged = omega arith;
  paid = λ d whole ext even. omega arith;
}

pub decided_bounds : (m : Model) (limit : ℕ) (lots : List ℕ) → Bounds m limit lots (decided.number m limit lots) (decided.charges m limit lots)
decided_bounds m limit lots = record {
  long = length-map m.links (decided_charge lots);
  within = map_within (decided_charge lots) (decided_most lots) m.links;
  charged = omega (arith, sum-map (decided_charge lots) m.links);
  paid = λ d whole ext even. map_cut (decided_charge lots) d (decided_paid lots d ext) m.links;
}
