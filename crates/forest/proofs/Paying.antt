-- A bisection that keeps the home lot cuts at least as many taken links as it hits trees. Assumes nothing.
use Rattle.std.proofs.Common.{◌≡◌, ℕ, ◌+◌, ◌<◌, ◌≤◌, Bool, true, false, cond, not, ◌&&◌, eqb, ltb, Some, None, Option, is_none, get_or, sym, ap, ◌∙◌, inl, inr, arith}
use Rattle.std.specs.Option.{option_eq}
use Rattle.std.proofs.lemmas.Option.{none-some}
use Rattle.std.proofs.lemmas.List.{get_or_past}
use Rattle.std.proofs.lemmas.Bool.{le-ltb, cases_eq, cases_lt, cases_Bool, and_from, and_left, and_right, cond-true, cond-false}
use Rattle.bounds.specs.Sums.{sum_below}
use Rattle.bounds.proofs.Indexed.{sum_below_same, sum_below_le, sum_below_add, sum_below_none, sum_below_swap, sum_below_has}
use Rattle.forest.specs.Searches.{first, count_below}
use Rattle.forest.specs.Grounds.{Ground, weight_of}
use Rattle.forest.specs.Forests.{Forest, joined, no_tree, planted, inside, outside, can_grow, grow, forest, tree_weight}
use Rattle.forest.proofs.Sums.{sum_step, sum_rise, cond_sum, cond_most}
use Rattle.forest.proofs.Firsts.{first_same, first_none, some_at, none_at}
use Rattle.forest.proofs.Trees.{Fair, Ends, Right, Joins, cases_tree, same_tree, other_tree, was_free, tree_off, taken_at, taken_off, others_same, plant_induct, grow_induct, grow_joins, planted_right, same_each}

-- one of two lies across, the other not
abbrev pub differ : Bool → Bool → Bool
differ true b = not b
differ false b = b

-- link k leads across; across is the test of a household that lies in the other lot
abbrev pub crossed : Ground → (ℕ → Bool) → ℕ → Bool
crossed G across k = differ (across (G.from k)) (across (G.to k))

-- a tree is hit when one of its households lies across
abbrev pub hit : Ground → (ℕ → Bool) → Forest → ℕ → Bool
hit G across F r = ltb (first (λ v. inside F r v && across v) G.households) G.households

-- how many trees are hit
abbrev pub hits : Ground → (ℕ → Bool) → Forest → ℕ
hits G across F = count_below (hit G across F) G.households

-- how many taken links are crossed, and how many are taken
abbrev pub cuts : Ground → (ℕ → Bool) → Forest → ℕ
cuts G across F = sum_below G.links (λ k. cond (crossed G across k) (get_or F.taken k 0) 0)

abbrev pub taken_sum : Ground → Forest → ℕ
taken_sum G F = sum_below G.links (λ k. get_or F.taken k 0)

differ_ends : (G : Ground) (across : ℕ → Bool) (k u v : ℕ) → Ends G k u v → across u ≡ false → across v ≡ true → crossed G across k ≡ true
differ_ends G across k u v (inl e) near far = rw (e.0, e.1, near, far)
differ_ends G across k u v (inr e) near far = rw (e.0, e.1, near, far)

and_second : (x y : Bool) → x ≡ true → (x && y) ≡ false → y ≡ false
and_second x y e h = rw e at h

-- a household in a tree is there
pub in_range : {G : Ground} {F : Forest} (v r : ℕ) → Right G F → get_or F.tree v None ≡ Some r → v < G.households
in_range {G} {F} v r R e =
    elim (cases_lt v G.households) [
      | inl l ↦ l
      | inr g ↦ absurd (none-some r (sym (get_or_past F.tree v None (omega (arith, R.long))) ∙ e))
    ]

module _ {G : Ground} {F : Forest} {u v r k : ℕ} (R : Right G F) (J : Joins G F u v r k) where
  pub join_sum : taken_sum G F + 1 ≤ taken_sum G (joined F v r k)
  join_sum =
      sum_rise G.links k 1 _ _ J.link
      (λ j l ne. omega (arith, taken_off R J j ne))
      (omega (arith, was_free R J, taken_at R J))

  module _ (across : ℕ → Bool) where
    other_hit : (q : ℕ) → (q ≡ r → ⊥) → hit G across (joined F v r k) q ≡ hit G across F q
    other_hit q ne =
        ap (λ x. ltb x G.households)
        (first_same _ _ G.households (λ w l. ap (λ b. b && across w) (others_same R J q ne w)))

    -- a household that does not lie across hits nothing
    home_hit : across v ≡ false → hit G across (joined F v r k) r ≡ hit G across F r
    home_hit stays = ap (λ x. ltb x G.households) (first_same _ _ G.households same)
      where
        same : (w : ℕ) → w < G.households → (inside (joined F v r k) r w && across w) ≡ (inside F r w && across w)
        same w l =
            elim (cases_eq w v) [
              | inl e ↦
                  let none : across w ≡ false = ap across e ∙ stays in
                  and_right (inside (joined F v r k) r w) _ none ∙ sym (and_right (inside F r w) _ none)
              | inr e ↦ ap (λ x. option_eq eqb x (Some r) && across w) (tree_off R J w e)
            ]

    -- where the household lies across and the tree was not hit before, the link is crossed
    pub join_pays : (across v ≡ true → hit G across F r ≡ false → across u ≡ false)
        → hits G across F ≤ cuts G across F → hits G across (joined F v r k) ≤ cuts G across (joined F v r k)
    join_pays near paid =
        let c : ℕ = cond (crossed G across k) 1 0 in
        let more : hits G across (joined F v r k) ≤ hits G across F + c =
        sum_step G.households r c _ _ (λ q l ne. le_same (ap (λ b. cond b 1 0) (other_hit q ne))) here
        in
        let links : cuts G across F + c ≤ cuts G across (joined F v r k) =
        sum_rise G.links k c _ _ J.link
        (λ j l ne. le_same (ap (λ x. cond (crossed G across j) x 0) (sym (taken_off R J j ne))))
        (rise (crossed G across k) _ _ (was_free R J) (taken_at R J))
        in
        omega arith
      where
        le_same : {x y : ℕ} → x ≡ y → x ≤ y
        le_same e = omega arith

        rise : (b : Bool) (x y : ℕ) → x ≡ 0 → y ≡ 1 → cond b x 0 + cond b 1 0 ≤ cond b y 0
        rise true x y e f = omega arith
        rise false x y e f = omega arith

        here : cond (hit G across (joined F v r k) r) 1 0 ≤ cond (hit G across F r) 1 0 + cond (crossed G across k) 1 0
        here =
            let most = cond_most (hit G across (joined F v r k) r) 1 in
            elim (cases_Bool (across v)) [
              | inl far ↦
                  elim (cases_Bool (hit G across F r)) [
                    | inl was ↦ omega (arith, cond-true {A = ℕ} (hit G across F r) 1 0 was)
                    | inr was ↦ omega (arith, cond-true {A = ℕ} (crossed G across k) 1 0 (differ_ends G across k u v J.ends (near far was) far))
                  ]
              | inr stays ↦ omega (arith, ap {B = ℕ} (λ b. cond b 1 0) (home_hit stays))
            ]

module _ {G : Ground} (fair : Fair G) (across : ℕ → Bool) (agrees : (v : ℕ) → G.home v ≡ true → across v ≡ false) where
  none_hit : hits G across (no_tree G) ≡ 0
  none_hit =
      sum_below_same G.households _ (λ r. 0) (λ r l. cond-false (hit G across (no_tree G) r) 1 0 (none r)) ∙ sum_below_none G.households
    where
      none : (r : ℕ) → hit G across (no_tree G) r ≡ false
      none r =
          le-ltb _ _
          (omega (
            arith,
            first_none (λ v. inside (no_tree G) r v && across v) G.households
                (λ j l. and_left _ (across j) (other_tree _ r (λ z. none-some r (sym (same_each {A = Option ℕ} G.households j None) ∙ z)))),
          ))

  pub all_paid : hits G across (forest G) ≤ cuts G across (forest G)
  all_paid =
      let roots-paid = plant_induct fair (λ v F. hits G across F ≤ cuts G across F) (omega (arith, none_hit))
      (λ v u F R root home J p. join_pays R J across (λ _ _. agrees u home) p)
      (λ v F none p. p) G.households (omega arith)
      in
      (grow_induct fair (λ F. hits G across F ≤ cuts G across F) step G.households (planted G G.households)
      (planted_right fair G.households (omega arith)).0 roots-paid).1
    where
      step : (F : Forest) (r : ℕ) → Right G F → can_grow G F r ≡ true → hits G across F ≤ cuts G across F
          → hits G across (grow G F r) ≤ cuts G across (grow G F r)
      step F r R can p =
          let j = grow_joins fair r R can in
          join_pays R j.2 across (λ far was.
          and_second (inside F r j.0) (across j.0) (same_tree _ r j.1)
          (none_at (λ w. inside F r w && across w) G.households j.0 was (in_range j.0 r R j.1))) p

-- ---- the trees hit weigh at least what lies across, less what is set there, less what is in no tree

module _ {G : Ground} {F : Forest} (R : Right G F) (across : ℕ → Bool)
    (set_across : (v : ℕ) → across v ≡ true → G.unset v ≡ false → G.away v ≡ true) where
  -- what household v weighs in the trees that are hit
  abbrev in_hit : ℕ → ℕ
  in_hit v = sum_below G.households (λ r. cond (hit G across F r) (cond (inside F r v) (G.weight v) 0) 0)

  by_household : sum_below G.households (λ r. cond (hit G across F r) (tree_weight G F r) 0) ≡ sum_below G.households (λ v. in_hit v)
  by_household =
      sum_below_same G.households _ (λ r. sum_below G.households (λ v. cond (hit G across F r) (cond (inside F r v) (G.weight v) 0) 0))
      (λ r l. cond_sum (hit G across F r) G.households (λ v. cond (inside F r v) (G.weight v) 0))
      ∙ sum_below_swap G.households G.households (λ r v. cond (hit G across F r) (cond (inside F r v) (G.weight v) 0) 0)

  one : (v : ℕ) → v < G.households
      → cond (across v) (G.weight v) 0 ≤ cond (G.away v) (G.weight v) 0 + cond (outside G F v) (G.weight v) 0 + in_hit v
  one v l =
      elim (cases_Bool (across v)) [
        | inr stays ↦ omega (arith, cond-false {A = ℕ} (across v) (G.weight v) 0 stays)
        | inl far ↦
            let here = cond-true {A = ℕ} (across v) (G.weight v) 0 far in
            elim (cases_Bool (G.unset v)) [
              | inr was ↦ omega (arith, here, cond-true {A = ℕ} (G.away v) (G.weight v) 0 (set_across v far was))
              | inl free ↦
                  elim (cases_tree (get_or F.tree v None)) [
                    | inl none ↦
                        omega (arith, here, cond-true {A = ℕ} (outside G F v) (G.weight v) 0 (and_from _ _ free (ap is_none none)))
                    | inr (r, mine) ↦
                        let in' : inside F r v ≡ true = same_tree _ r mine in
                        let was : hit G across F r ≡ true = some_at (λ w. inside F r w && across w) G.households v l (and_from _ _ in' far) in
                        omega (
                          arith,
                          here,
                          sum_below_has G.households r (λ q. cond (hit G across F q) (cond (inside F q v) (G.weight v) 0) 0) (R.rooted v r mine).0,
                          cond-true {A = ℕ} (hit G across F r) (cond (inside F r v) (G.weight v) 0) 0 was,
                          cond-true {A = ℕ} (inside F r v) (G.weight v) 0 in',
                        )
                  ]
            ]
      ]

  pub reaches : weight_of G across
      ≤ weight_of G G.away + weight_of G (outside G F) + sum_below G.households (λ r. cond (hit G across F r) (tree_weight G F r) 0)
  reaches =
      omega (
        arith,
        sum_below_le G.households _ _ one,
        by_household,
        sum_below_add G.households (λ v. cond (G.away v) (G.weight v) 0 + cond (outside G F v) (G.weight v) 0) in_hit,
        sum_below_add G.households (λ v. cond (G.away v) (G.weight v) 0) (λ v. cond (outside G F v) (G.weight v) 0),
      )
