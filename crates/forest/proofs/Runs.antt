-- The forest is what growing gives, and the only one. Assumes nothing.
use Rattle.std.proofs.Common.{◌≡◌, ℕ, zero, suc, ◌<◌, ◌≤◌, Bool, true, ◌&&◌, sym, ap, ◌∙◌, subst, inl, inr, arith}
use Rattle.std.proofs.lemmas.Bool.{cases_lt, and_from, and_parts, lt-ltb, ltb-true, both_ways}
use Rattle.forest.specs.Searches.{count_below}
use Rattle.forest.specs.Grounds.{Ground, leads}
use Rattle.forest.specs.Forests.{Forest, joined, planted, inside, outside, grow_link, can_grow, far_end, none_lighter, lightest, grow, grown, forest, tree_weight, Takes, Grows, ends, takes}
use Rattle.forest.proofs.Sums.{count_most}
use Rattle.forest.proofs.Firsts.{first_is, first_passes, first_least}
use Rattle.forest.proofs.Trees.{Fair, Right, grow_right, grown_more, grown_end, lightest_can, planted_right}
use Rattle.forest.proofs.Ending.{grows_below, none_lighter_from, lighter_at, none_grows, none_lightest, lightest_is, fewer_outside, some_outside, grown_done}

module _ {G : Ground} (fair : Fair G) where
  -- the lightest tree, by its lowest link, takes as growing asks
  lightest_takes : {F : Forest} → Right G F → lightest G F < G.households → Takes G F (lightest G F) (grow_link G F (lightest G F))
  lightest_takes {F} R l =
      let r : ℕ = lightest G F in
      let test : ℕ → Bool = leads G (inside F r) (outside G F) in
      let p = and_parts (can_grow G F r) (none_lighter G F r) (first_passes (λ q. can_grow G F q && none_lighter G F q) G.households l) in
      let kl : grow_link G F r < G.links = ltb-true _ _ p.0 in
      record {
        there = kl;
        leads_out = first_passes test G.links kl;
        lowest = λ j b. first_least test G.links j b;
        lightest = λ q c.
            let le = lighter_at fair R r q p.1 (grows_below fair R q c) c in
            elim (cases_lt (tree_weight G F r) (tree_weight G F q)) [
              | inl b ↦ inl b
              | inr g ↦
                  inr (
                    omega arith,
                    elim (cases_lt q r) [
                      | inr up ↦ up
                      | inl low ↦
                          absurd (both_ways _ (first_least (λ p. can_grow G F p && none_lighter G F p) G.households q low)
                          (and_from _ _ c (none_lighter_from fair R q (λ s b d. omega (arith, lighter_at fair R r s p.1 b d)))))
                    ],
                  )
            ];
      }

  grows_on : (i : ℕ) {F : Forest} → Right G F → count_below (outside G F) G.households ≤ i → Grows G F (grown G i F)
  grows_on zero R few = ends (grown_done fair zero R few)
  grows_on (suc i) {F} R few =
      elim (cases_lt (lightest G F) G.households) [
        | inl l ↦
            let can = lightest_can G F l in
            subst (Grows G F) (sym (grown_more G i F l))
            (takes (lightest_takes R l) (grows_on i (grow_right fair _ R can) (omega (arith, fewer_outside fair R _ can))))
        | inr g ↦ subst (Grows G F) (sym (grown_end G (suc i) F g)) (ends (none_grows fair R g))
      ]

  -- what is taken is what the definition takes
  taken_link : {F : Forest} (r k : ℕ) → Right G F → Takes G F r k → (can_grow G F r ≡ true) × (grow_link G F r ≡ k) × (lightest G F ≡ r)
  taken_link {F} r k R T =
      let link : grow_link G F r ≡ k = first_is (leads G (inside F r) (outside G F)) G.links k T.there T.leads_out T.lowest in
      let can : can_grow G F r ≡ true = lt-ltb _ _ (omega (arith, T.there)) in
      (can, link, lightest_is fair R r can (λ q b c. T.lightest q c))

  grows_alone : {F H : Forest} → Grows G F H → Right G F → (i : ℕ) → count_below (outside G F) G.households ≤ i → grown G i F ≡ H
  grows_alone {F} (ends none) R i few = grown_end G i F (none_lightest fair R (λ r b. none r))
  grows_alone {F} (takes {r = r} {k = k} T g) R zero few = absurd (omega (arith, some_outside fair R r (taken_link r k R T).0))
  grows_alone {F} (takes {r = r} {k = k} T g) R (suc i) few =
      let t = taken_link r k R T in
      let rl = grows_below fair R r t.0 in
      let same : grow G F r ≡ joined F (far_end G F k) r k = ap (λ x. joined F (far_end G F x) r x) t.1 in
      let R' : Right G (joined F (far_end G F k) r k) = subst (Right G) same (grow_right fair r R t.0) in
      let fewer = fewer_outside fair R r t.0 in
      let count : count_below (outside G (grow G F r)) G.households ≡ count_below (outside G (joined F (far_end G F k) r k)) G.households =
      ap (λ X. count_below (outside G X) G.households) same
      in
      grown_more G i F (omega (arith, t.2)) ∙ ap (λ x. grown G i (grow G F x)) t.2 ∙ ap (grown G i) same
      ∙ grows_alone g R' i (omega arith)

  pub forest_grows : Grows G (planted G G.households) (forest G)
  forest_grows =
      grows_on G.households (planted_right fair G.households (omega arith)).0
      (count_most (outside G (planted G G.households)) G.households)

  pub forest_alone : (H : Forest) → Grows G (planted G G.households) H → H ≡ forest G
  forest_alone H g =
      sym (grows_alone g (planted_right fair G.households (omega arith)).0 G.households
      (count_most (outside G (planted G G.households)) G.households))
