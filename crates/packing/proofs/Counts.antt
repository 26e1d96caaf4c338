-- Taking the heaviest weight again and again. Assumes nothing.
use Rattle.std.proofs.Common.{◌≡◌, ℕ, suc, ◌+◌, ◌-◌, ◌<◌, ◌≤◌, eqb, List, length, length-set, set, sym, ap, ◌∙◌, subst, inl, inr, arith}
use Rattle.std.proofs.lemmas.Bool.{cases_eq, eq-eqb, ne_eqb, cond-true, cond-false}
use Rattle.bounds.specs.Sums.{sum_below}
use Rattle.bounds.proofs.Indexed.{sum_below_same, sum_below_none}
use Rattle.forest.proofs.Sums.{sum_step}
use Rattle.forest.proofs.Greedy.{Least, without, least_none, least_more, least_same, reached_most}
use Rattle.packing.specs.declared.growth.Tree.{Tree}
use Rattle.packing.specs.Stands.{held_weight}
use Rattle.packing.specs.Counting.{Counted}
use Rattle.packing.proofs.Planted.{weight_at, weight_others}

-- the weights after one is taken
taken_at : (ts : List Tree) (i k : ℕ) (t : Tree) → t.weight ≡ 0 → i < length ts → held_weight (set ts i t) k ≡ without (held_weight ts) i k
taken_at ts i k t none lt =
    elim (cases_eq k i) [
      | inl e ↦ ap (held_weight (set ts i t)) e ∙ weight_at ts i t lt ∙ none ∙ sym (cond-true (eqb k i) 0 (held_weight ts k) (eq-eqb k i e))
      | inr ne ↦ weight_others ts i t k ne ∙ sym (cond-false (eqb k i) 0 (held_weight ts k) (ne_eqb k i ne))
    ]

taken_sum : (ts : List Tree) (n i : ℕ) (t : Tree) → sum_below n (held_weight ts) ≤ sum_below n (held_weight (set ts i t)) + held_weight ts i
taken_sum ts n i t = sum_step n i (held_weight ts i) (held_weight ts) (held_weight (set ts i t)) (λ k l ne. omega (arith, weight_others ts i t k ne)) (omega arith)

-- before each turn: with the fewest for what is left, the count is the fewest for all
pub record Counting (n : ℕ) (whole ts : List Tree) (goal left count : ℕ) : Type 0 where
  pub long : length ts ≡ n
  pub within : count + left ≤ goal
  pub on : (c : ℕ) → Least n (held_weight ts) left c → Least n (held_weight whole) goal (count + c)
  pub short : sum_below n (held_weight ts) < left → sum_below n (held_weight whole) < goal

pub counting_start : (ts : List Tree) (goal : ℕ) → Counting (length ts) ts ts goal goal 0
counting_start ts goal =
    record {
      long = omega arith;
      within = omega arith;
      on = λ c h. let e : c ≡ 0 + c = omega arith in subst (Least (length ts) (held_weight ts) goal) e h;
      short = λ h. h;
    }

module _ {n : ℕ} {whole ws : List Tree} {goal left count : ℕ} (C : Counting n whole ws goal left count) where
  -- the heaviest is taken
  pub counting_more : (i rest : ℕ) (t : Tree) → t.weight ≡ 0 → i < n → 0 < held_weight ws i → ((k : ℕ) → k < n → held_weight ws k ≤ held_weight ws i) → 0 < left
      → rest ≡ left - held_weight ws i → Counting n whole (set ws i t) goal rest (count + 1)
  counting_more i rest t none lt some most open' is =
      record {
        long = length-set ws i t ∙ C.long;
        within = omega (arith, C.within);
        on = λ c L.
            let L' : Least n (without (held_weight ws) i) (left - held_weight ws i) c =
            least_same n (held_weight (set ws i t)) (without (held_weight ws) i) (left - held_weight ws i) c (λ k l. taken_at ws i k t none (omega (arith, C.long)))
            (subst (λ x. Least n (held_weight (set ws i t)) x c) is L) in
            let e : count + suc c ≡ count + 1 + c = omega arith in
            subst (Least n (held_weight whole) goal) e (C.on (suc c) (least_more n (held_weight ws) i left c lt most open' L'));
        short = λ h. C.short (omega (arith, taken_sum ws n i t));
      }

  -- nothing is left to reach
  pub counting_done : (all : ℕ) → left ≡ 0 → Counted n (held_weight whole) all goal count
  counting_done all end =
      let L : Least n (held_weight whole) goal (count + 0) = C.on 0 (subst (λ x. Least n (held_weight ws) x 0) (sym end) (least_none n (held_weight ws))) in
      record {
        short = λ h. absurd (omega (arith, reached_most n _ _ _ L));
        fewer = λ h p r. omega (arith, L.fewer p r);
        choice = λ h. (L.chosen, L.enough, omega (arith, L.many));
      }

  -- no weight is left
  pub counting_short : (all : ℕ) → 0 < left → ((k : ℕ) → k < n → held_weight ws k ≡ 0) → Counted n (held_weight whole) all goal all
  counting_short all some none =
      let z : sum_below n (held_weight ws) ≡ 0 = sum_below_same n (held_weight ws) (λ k. 0) none ∙ sum_below_none n in
      let less = C.short (omega arith) in
      record { short = λ h. omega arith; fewer = λ h. absurd (omega arith); choice = λ h. absurd (omega arith) }

-- what is counted is the fewest in the sense of the theory
pub counted_least : {n : ℕ} {w : ℕ → ℕ} {trees goal c : ℕ} → Counted n w trees goal c → goal ≤ sum_below n w → Least n w goal c
counted_least C h = let p = C.choice h in record { chosen = p.0; many = p.2; enough = p.1; fewer = C.fewer h }
