-- The heaviest first reaches a goal with the fewest. Assumes nothing.
use Rattle.std.proofs.Common.{◌≡◌, ℕ, suc, ◌+◌, ◌-◌, ◌<◌, ◌≤◌, Bool, true, false, cond, ◌&&◌, eqb, ◌⊎◌, sym, refl, ap, ◌∙◌, ap₂, inl, inr, arith}
use Rattle.std.proofs.lemmas.Bool.{cases_eq, cases_lt, cases_Bool, and_parts, eq-eqb, ne_eqb, both_ways, cond-true, cond-false}
use Rattle.bounds.specs.Sums.{sum_below}
use Rattle.bounds.proofs.Indexed.{sum_below_same, sum_below_le, sum_below_none}
use Rattle.forest.specs.Searches.{first, count_below}
use Rattle.forest.specs.Grounds.{Ground}
use Rattle.forest.specs.Forests.{Forest, is_root, inside, tree_weight}
use Rattle.forest.specs.Fewest.{choice_weight, Fewest}
use Rattle.forest.proofs.Sums.{sum_step, sum_rise, cond_most, cond_le}
use Rattle.forest.proofs.Firsts.{first_passes, first_least}
use Rattle.forest.proofs.Trees.{Right, tree_same}
use Rattle.forest.proofs.Fewest.{changed, changed_at, changed_off, choice_most}

-- c is the fewest of n weights that reach the goal
pub record Least (n : ℕ) (w : ℕ → ℕ) (goal c : ℕ) : Type 0 where
  pub chosen : ℕ → Bool
  pub many : count_below chosen n ≤ c
  pub enough : goal ≤ choice_weight n w chosen
  pub fewer : (p : ℕ → Bool) → goal ≤ choice_weight n w p → c ≤ count_below p n

choice_all : (n : ℕ) (w : ℕ → ℕ) (p : ℕ → Bool) → choice_weight n w p ≤ sum_below n w
choice_all n w p = sum_below_le n _ _ (λ k l. cond_most (p k) (w k))

-- ---- one weight at a time

-- the weights without one of them
abbrev pub without : (ℕ → ℕ) → ℕ → ℕ → ℕ
without w i k = cond (eqb k i) 0 (w k)

without_at : (w : ℕ → ℕ) (i : ℕ) → without w i i ≡ 0
without_at w i = cond-true (eqb i i) 0 (w i) (eq-eqb i i refl)

without_off : (w : ℕ → ℕ) (i k : ℕ) → (k ≡ i → ⊥) → without w i k ≡ w k
without_off w i k ne = cond-false (eqb k i) 0 (w k) (ne_eqb k i ne)

-- nothing is to be reached
pub least_none : (n : ℕ) (w : ℕ → ℕ) → Least n w 0 0
least_none n w =
    record {
      chosen = λ k. false;
      many = omega (arith, sum_below_none n);
      enough = omega arith;
      fewer = λ p h. omega arith;
    }

-- the heaviest is taken, and c more reach what is left
module _ (n : ℕ) (w : ℕ → ℕ) (i goal c : ℕ) (il : i < n) (heaviest : (k : ℕ) → k < n → w k ≤ w i) (open' : 0 < goal)
    (L : Least n (without w i) (goal - w i) c) where
  -- who reaches the goal chooses someone: i, or else anyone
  someone : (p : ℕ → Bool) → goal ≤ choice_weight n w p → (j : ℕ) × (j < n) × (p j ≡ true) × ((j ≡ i) ⊎ (p i ≡ false))
  someone p h =
      elim (cases_Bool (p i)) [
        | inl pass ↦ (i, il, pass, inl refl)
        | inr fail ↦
            elim (cases_lt (first p n) n) [
              | inl l ↦ (first p n, l, first_passes p n l, inr fail)
              | inr g ↦
                  absurd (omega (
                    arith,
                    sum_below_same n _ (λ k. 0) (λ k l. cond-false {A = ℕ} (p k) (w k) 0 (first_least p n k (omega arith))),
                    sum_below_none n,
                  ))
            ]
      ]

  -- what is left to reach without that one
  rest : (p : ℕ → Bool) (j : ℕ) → j < n → p j ≡ true → (j ≡ i) ⊎ (p i ≡ false)
      → choice_weight n w p ≤ choice_weight n (without w i) (changed p j false) + w i
  rest p j jl pass way =
      sum_step n j (w i) _ _
      (λ k l ne. elim (cases_eq k i) [
        | inl e ↦
            elim way [
              | inl same ↦ absurd (ne (e ∙ sym same))
              | inr fail ↦ omega (arith, cond-false {A = ℕ} (p k) (w k) 0 (ap p e ∙ fail))
            ]
        | inr other ↦ omega (arith, ap₂ (λ b x. cond b x 0) (changed_off p j k false ne) (without_off w i k other))
      ])
      (omega (arith, cond_most (p j) (w j), heaviest j jl))

  pub least_more : Least n w goal (suc c)
  least_more =
      record {
        chosen = changed L.chosen i true;
        many =
            omega (
              arith,
              L.many,
              sum_step n i 1 (λ k. cond (changed L.chosen i true k) 1 0) (λ k. cond (L.chosen k) 1 0)
                  (λ k l ne. omega (arith, ap {B = ℕ} (λ b. cond b 1 0) (changed_off L.chosen i k true ne)))
                  (omega (arith, cond_most (changed L.chosen i true i) 1)),
            );
        enough =
            omega (
              arith,
              L.enough,
              sum_rise n i (w i) (λ k. cond (L.chosen k) (without w i k) 0) (λ k. cond (changed L.chosen i true k) (w k) 0) il
                  (λ k l ne. omega (arith, ap₂ (λ b x. cond b x 0) (changed_off L.chosen i k true ne) (sym (without_off w i k ne))))
                  (omega (
                    arith,
                    cond_most (L.chosen i) (without w i i),
                    without_at w i,
                    cond-true {A = ℕ} (changed L.chosen i true i) (w i) 0 (changed_at L.chosen i true),
                  )),
            );
        fewer = λ p h.
            let s = someone p h in
            let j : ℕ = s.0 in
            let left = rest p j s.1 s.2 s.3 in
            let others = L.fewer (changed p j false) (omega arith) in
            omega (
              arith,
              others,
              sum_rise n j 1 (λ k. cond (changed p j false k) 1 0) (λ k. cond (p k) 1 0) s.1
                  (λ k l ne. omega (arith, ap {B = ℕ} (λ b. cond b 1 0) (changed_off p j k false ne)))
                  (omega (arith, cond-false {A = ℕ} (changed p j false j) 1 0 (changed_at p j false), cond-true {A = ℕ} (p j) 1 0 s.2)),
            );
      }

-- where the fewest reach the goal, all together do
pub reached_most : (n : ℕ) (w : ℕ → ℕ) (goal c : ℕ) → Least n w goal c → goal ≤ sum_below n w
reached_most n w goal c L = omega (arith, L.enough, choice_all n w L.chosen)

-- the same weights
pub least_same : (n : ℕ) (w x : ℕ → ℕ) (goal c : ℕ) → ((k : ℕ) → k < n → w k ≡ x k) → Least n w goal c → Least n x goal c
least_same n w x goal c same L =
    let equal : (p : ℕ → Bool) → choice_weight n w p ≡ choice_weight n x p =
    λ p. sum_below_same n _ _ (λ k l. ap (λ y. cond (p k) y 0) (same k l)) in
    record {
      chosen = L.chosen;
      many = L.many;
      enough = omega (arith, L.enough, equal L.chosen);
      fewer = λ p h. L.fewer p (omega (arith, equal p));
    }

-- ---- the weights of trees, where the others weigh nothing

module _ (n : ℕ) (w : ℕ → ℕ) (tree : ℕ → Bool) (goal c : ℕ) where
  -- the fewest of all weights are the fewest trees
  pub least_fewest : ((k : ℕ) → k < n → tree k ≡ false → w k ≡ 0) → Least n w goal c → Fewest n w tree goal c
  least_fewest none L =
      let p : ℕ → Bool = λ k. tree k && L.chosen k in
      let same : choice_weight n w L.chosen ≡ choice_weight n w p = sum_below_same n _ _ (λ k l. one k l) in
      let sub : (k : ℕ) → k < n → p k ≡ true → tree k ≡ true = λ k l h. (and_parts (tree k) _ h).0 in
      let fewer : count_below p n ≤ count_below L.chosen n =
      sum_below_le n _ _ (λ k l. cond_le (p k) (L.chosen k) 1 (λ h. (and_parts (tree k) _ h).1)) in
      record {
        fewer = λ q _ h. L.fewer q h;
        choice = λ _. (p, sub, omega (arith, L.enough), omega (arith, L.many, L.fewer p (omega (arith, L.enough))));
        all = λ short. absurd (omega (arith, L.enough, choice_most n w p tree sub));
      }
    where
      one : (k : ℕ) → k < n → cond (L.chosen k) (w k) 0 ≡ cond (tree k && L.chosen k) (w k) 0
      one k l =
          elim (cases_Bool (tree k)) [
            | inl in' ↦ rw in'
            | inr out ↦ rw (none k l out, out) (omega (arith, cond_most (L.chosen k) 0))
          ]

  -- where all together do not reach the goal, it is the number of all
  pub short_fewest : sum_below n w < goal → c ≡ count_below tree n → Fewest n w tree goal c
  short_fewest short e =
      record {
        fewer = λ p _ h. absurd (omega (arith, choice_all n w p));
        choice = λ h. absurd (omega (arith, choice_all n w tree));
        all = λ _. e;
      }

  -- the same weights
  pub fewest_same : (x : ℕ → ℕ) → ((k : ℕ) → k < n → w k ≡ x k) → Fewest n w tree goal c → Fewest n x tree goal c
  fewest_same x same C =
      let equal : (p : ℕ → Bool) → choice_weight n w p ≡ choice_weight n x p =
      λ p. sum_below_same n _ _ (λ k l. ap (λ y. cond (p k) y 0) (same k l)) in
      record {
        fewer = λ p sub h. C.fewer p sub (omega (arith, equal p));
        choice = λ h. let q = C.choice (omega (arith, equal tree)) in (q.0, q.1, omega (arith, q.2, equal q.0), q.3);
        all = λ h. C.all (omega (arith, equal tree));
      }

-- a household that is no root has no tree
pub no_root_no_weight : {G : Ground} {F : Forest} → Right G F → (r : ℕ) → is_root G r ≡ false → tree_weight G F r ≡ 0
no_root_no_weight {G} {F} R r none =
    sum_below_same G.households _ (λ v. 0) (λ v l. elim (cases_Bool (inside F r v)) [
      | inl in' ↦ absurd (both_ways _ none (R.rooted v r (tree_same _ r in')).1)
      | inr out ↦ cond-false {A = ℕ} (inside F r v) (G.weight v) 0 out
    ]) ∙ sum_below_none G.households
