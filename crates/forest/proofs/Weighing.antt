-- What each tree weighs as households join, and which trees stay closed. Assumes nothing.
use Rattle.std.proofs.Common.{◌≡◌, ℕ, zero, suc, ◌+◌, ◌*◌, ◌<◌, ◌≤◌, true, false, cond, eqb, Some, None, length, get_or, sym, ap, ◌∙◌, inl, inr, arith}
use Rattle.std.specs.Option.{option_eq}
use Rattle.std.proofs.lemmas.Option.{none-some}
use Rattle.std.proofs.lemmas.List.{get_or-set_same, get_or-set_other}
use Rattle.std.proofs.lemmas.Bool.{cases_eq, cases_Bool, and_parts, and_from, or_cases, or_left, or_right, le-ltb, ltb-false, both_ways, cond-true, cond-false}
use Rattle.bounds.specs.Sums.{sum_below}
use Rattle.bounds.proofs.Indexed.{sum_below_same, sum_below_le}
use Rattle.forest.specs.Grounds.{Ground, leads, weight_of}
use Rattle.forest.specs.Forests.{Forest, joined, inside, outside, can_grow, tree_weight}
use Rattle.forest.proofs.Sums.{sum_step, sum_rise, cond_most}
use Rattle.forest.proofs.Firsts.{first_least, first_none}
use Rattle.forest.proofs.Trees.{Right, Joins, same_tree, other_tree, tree_others, others_same, still_in}

-- the weights by root
abbrev pub Weighed : Ground → Forest → (ℕ → ℕ) → Type 0
Weighed G F w = (r : ℕ) → r < G.households → w r ≡ tree_weight G F r

pub tree_weight_most : (G : Ground) (F : Forest) (r : ℕ) → tree_weight G F r ≤ weight_of G (λ v. true)
tree_weight_most G F r = sum_below_le G.households _ _ (λ v l. cond_most (inside F r v) (G.weight v))

pub sum_most : (n c : ℕ) (f : ℕ → ℕ) → ((k : ℕ) → k < n → f k ≤ c) → sum_below n f ≤ n * c
sum_most zero c f h = omega arith
sum_most (suc n) c f h = omega (arith, sum_most n c f (λ k l. h k (omega arith)), h n (omega arith))

-- household v, in no tree, joins the tree with root r
module _ (G : Ground) (F : Forest) (v r k : ℕ) (trees : length F.tree ≡ G.households) (there : v < G.households)
    (out : get_or F.tree v None ≡ None) (root : r < G.households) where
  pub join_weight : tree_weight G (joined F v r k) r ≡ tree_weight G F r + G.weight v
  join_weight =
      let f : ℕ → ℕ = λ w. cond (inside (joined F v r k) r w) (G.weight w) 0 in
      let g : ℕ → ℕ = λ w. cond (inside F r w) (G.weight w) 0 in
      let now' : f v ≡ G.weight v = cond-true (inside (joined F v r k) r v) _ _ (same_tree _ r (get_or-set_same F.tree v (Some r) None (omega arith))) in
      let was : g v ≡ 0 = cond-false (inside F r v) _ _ (other_tree _ r (λ e. none-some r (sym out ∙ e))) in
      let same : (w : ℕ) → (w ≡ v → ⊥) → f w ≡ g w = λ w ne.
      ap (λ x. cond (option_eq eqb x (Some r)) (G.weight w) 0) (get_or-set_other F.tree v w (Some r) None ne) in
      omega (
        arith,
        sum_step G.households v (G.weight v) f g (λ w l ne. omega (arith, same w ne)) (omega arith),
        sum_rise G.households v (G.weight v) g f there (λ w l ne. omega (arith, same w ne)) (omega arith),
      )

  pub other_weight : (q : ℕ) → (q ≡ r → ⊥) → tree_weight G (joined F v r k) q ≡ tree_weight G F q
  other_weight q ne = sum_below_same G.households _ _ (λ w l. ap (λ b. cond b (G.weight w) 0) (tree_others F v r k (omega arith) out q ne w))

  -- where the weight at its root rises by as much, and no other changes
  pub join_weighed : (w x : ℕ → ℕ) → Weighed G F w → x r ≡ w r + G.weight v → ((q : ℕ) → (q ≡ r → ⊥) → x q ≡ w q)
      → Weighed G (joined F v r k) x
  join_weighed w x W rises others q l =
      elim (cases_eq q r) [
        | inl e ↦ ap x e ∙ rises ∙ ap (λ y. y + G.weight v) (W r root) ∙ sym join_weight ∙ ap (tree_weight G (joined F v r k)) (sym e)
        | inr ne ↦ others q ne ∙ W q l ∙ sym (other_weight q ne)
      ]

module _ {G : Ground} {F : Forest} {u v r k : ℕ} (R : Right G F) (J : Joins G F u v r k) where
  -- another tree that could not grow still cannot
  pub stays_closed : (q : ℕ) → (q ≡ r → ⊥) → can_grow G F q ≡ false → can_grow G (joined F v r k) q ≡ false
  stays_closed q ne closed =
      le-ltb _ _ (omega (arith, first_none (leads G (inside (joined F v r k) q) (outside G (joined F v r k))) G.links none))
    where
      fewer : (w : ℕ) → outside G (joined F v r k) w ≡ true → outside G F w ≡ true
      fewer w h =
          elim (cases_Bool (outside G F w)) [
            | inl out ↦ out
            | inr in' ↦ absurd (both_ways _ (still_in R J w in') h)
          ]

      before : (j : ℕ) → leads G (inside (joined F v r k) q) (outside G (joined F v r k)) j ≡ true → leads G (inside F q) (outside G F) j ≡ true
      before j h =
          let p = and_parts (G.usable j) _ h in
          let same = others_same R J q ne in
          and_from _ _ p.0 (elim (or_cases _ _ p.1) [
            | inl a ↦ let x = and_parts _ _ a in or_left _ _ (and_from _ _ (sym (same (G.from j)) ∙ x.0) (fewer (G.to j) x.1))
            | inr a ↦ let x = and_parts _ _ a in or_right _ _ (and_from _ _ (sym (same (G.to j)) ∙ x.0) (fewer (G.from j) x.1))
          ])

      none : (j : ℕ) → j < G.links → leads G (inside (joined F v r k) q) (outside G (joined F v r k)) j ≡ false
      none j l =
          elim (cases_Bool (leads G (inside (joined F v r k) q) (outside G (joined F v r k)) j)) [
            | inr fail ↦ fail
            | inl h ↦
                absurd (both_ways _ (first_least (leads G (inside F q) (outside G F)) G.links j (omega (arith, ltb-false _ _ closed))) (before j h))
          ]
