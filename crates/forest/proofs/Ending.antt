-- Growing ends. Assumes nothing.
use Rattle.std.proofs.Common.{◌≡◌, ℕ, zero, suc, ◌+◌, ◌<◌, ◌≤◌, Bool, true, false, cond, not, ◌&&◌, ◌||◌, ltb, leb, ◌⊎◌, sym, subst, inl, inr, arith}
use Rattle.std.proofs.lemmas.Bool.{cases_lt, cases_Bool, and_parts, and_from, and_left, and_right, or_left, or_right, or_cases, not_from_false, not-true, le-leb, leb-true, lt-ltb, ltb-true, both_ways}
use Rattle.forest.specs.Searches.{first, count_below}
use Rattle.forest.specs.Grounds.{Ground}
use Rattle.forest.specs.Forests.{Forest, planted, outside, grow_link, can_grow, far_end, none_lighter, lightest, grow, grown, forest, tree_weight}
use Rattle.forest.proofs.Sums.{sum_rise, cond_le, count_most}
use Rattle.forest.proofs.Firsts.{first_is, first_passes, first_least, first_none, all_at, all_from}
use Rattle.forest.proofs.Trees.{Fair, Right, grow_joins, grow_right, planted_right, lightest_can, grown_more, grown_end, still_in, now_in}

-- from a number that passes a test, one that passes and has the least value
least_one : (test : ℕ → Bool) (value : ℕ → ℕ) (n most r : ℕ) → r < n → test r ≡ true → value r < most
    → (s : ℕ) × (s < n) × (test s ≡ true) × ((q : ℕ) → q < n → test q ≡ true → value s ≤ value q)
least_one test value n zero r l pass small = absurd (omega arith)
least_one test value n (suc most) r l pass small =
    let less : ℕ → Bool = λ q. test q && ltb (value q) (value r) in
    elim (cases_lt (first less n) n) [
      | inl b ↦
          let p = and_parts (test (first less n)) _ (first_passes less n b) in
          least_one test value n most (first less n) b p.0 (omega (arith, ltb-true _ _ p.1))
      | inr g ↦ (
        r,
        l,
        pass,
        λ q ql ok. elim (cases_lt (value q) (value r)) [
          | inl b ↦ absurd (both_ways _ (first_least less n q (omega arith)) (and_from _ _ ok (lt-ltb _ _ b)))
          | inr le ↦ le
        ],
      )
    ]

module _ {G : Ground} (fair : Fair G) {F : Forest} (R : Right G F) where
  -- no tree that can grow is lighter, put together and taken apart
  pub none_lighter_from : (r : ℕ) → ((q : ℕ) → q < G.households → can_grow G F q ≡ true → tree_weight G F r ≤ tree_weight G F q)
      → none_lighter G F r ≡ true
  none_lighter_from r h =
      all_from (λ q. not (can_grow G F q) || leb (tree_weight G F r) (tree_weight G F q)) G.households
      (λ q l. elim (cases_Bool (can_grow G F q)) [
        | inl can ↦ or_right _ _ (le-leb _ _ (h q l can))
        | inr fail ↦ or_left _ _ (not_from_false _ fail)
      ])

  pub lighter_at : (r q : ℕ) → none_lighter G F r ≡ true → q < G.households → can_grow G F q ≡ true
      → tree_weight G F r ≤ tree_weight G F q
  lighter_at r q h l can =
      elim (or_cases (not (can_grow G F q)) _ (all_at (λ q. not (can_grow G F q) || leb (tree_weight G F r) (tree_weight G F q)) G.households q h l)) [
        | inl fail ↦ absurd (both_ways _ (not-true _ fail) can)
        | inr le ↦ leb-true _ _ le
      ]

  -- a tree that can grow is that of a root
  pub grows_below : (r : ℕ) → can_grow G F r ≡ true → r < G.households
  grows_below r can = (grow_joins fair r R can).2.root.0

  -- where the search for the lightest finds none, no tree can grow
  pub none_grows : G.households ≤ lightest G F → (r : ℕ) → can_grow G F r ≡ false
  none_grows none r =
      elim (cases_Bool (can_grow G F r)) [
        | inr fail ↦ fail
        | inl can ↦
            let h = least_one (can_grow G F) (tree_weight G F) G.households (suc (tree_weight G F r)) r (grows_below r can) can (omega arith) in
            absurd (both_ways _
            (first_least (λ q. can_grow G F q && none_lighter G F q) G.households h.0 (omega (arith, h.1)))
            (and_from _ _ h.2 (none_lighter_from h.0 h.3)))
      ]

  -- the lightest, by what it means
  pub lightest_is : (t : ℕ) → can_grow G F t ≡ true
      → ((q : ℕ) → q < G.households → can_grow G F q ≡ true
      → (tree_weight G F t < tree_weight G F q) ⊎ ((tree_weight G F t ≡ tree_weight G F q) × (t ≤ q)))
      → lightest G F ≡ t
  lightest_is t can least' =
      let tl = grows_below t can in
      first_is (λ q. can_grow G F q && none_lighter G F q) G.households t tl
      (and_from _ _ can (none_lighter_from t (λ q l c. elim (least' q l c) [ inl b ↦ omega arith | inr e ↦ omega (arith, e.0) ])))
      (λ j l. elim (cases_Bool (can_grow G F j)) [
        | inr fail ↦ and_left _ _ fail
        | inl c ↦
            and_right (can_grow G F j) (none_lighter G F j) (elim (cases_Bool (none_lighter G F j)) [
              | inr fail ↦ fail
              | inl h ↦
                  let le = lighter_at j t h tl can in
                  elim (least' j (omega arith) c) [
                    | inl b ↦ absurd (omega arith)
                    | inr e ↦ absurd (omega (arith, e.1))
                  ]
            ])
      ])

  pub none_lightest : ((r : ℕ) → r < G.households → can_grow G F r ≡ false) → G.households ≤ lightest G F
  none_lightest none =
      omega (arith, first_none (λ q. can_grow G F q && none_lighter G F q) G.households (λ j l. and_left _ _ (none j l)))

  -- each step leaves one household fewer outside
  pub fewer_outside : (r : ℕ) → can_grow G F r ≡ true
      → count_below (outside G (grow G F r)) G.households + 1 ≤ count_below (outside G F) G.households
  fewer_outside r can =
      let j = grow_joins fair r R can in
      sum_rise G.households (far_end G F (grow_link G F r)) 1 (λ w. cond (outside G (grow G F r) w) 1 0) (λ w. cond (outside G F w) 1 0) j.2.there
      (λ w l ne. cond_le (outside G (grow G F r) w) (outside G F w) 1 (λ out. elim (cases_Bool (outside G F w)) [
        | inl was ↦ was
        | inr in' ↦ absurd (both_ways _ (still_in R j.2 w in') out)
      ]))
      (on _ _ (now_in R j.2) j.2.far)
    where
      on : (a b : Bool) → a ≡ false → b ≡ true → cond a 1 0 + 1 ≤ cond b 1 0
      on a b e f = rw (e, f) (omega arith)

  pub some_outside : (r : ℕ) → can_grow G F r ≡ true → 1 ≤ count_below (outside G F) G.households
  some_outside r can = omega (arith, fewer_outside r can)

-- growing ends within as many steps as there are households outside, and then no tree can grow
pub grown_done : {G : Ground} (fair : Fair G) (i : ℕ) {F : Forest} → Right G F → count_below (outside G F) G.households ≤ i
    → (r : ℕ) → can_grow G (grown G i F) r ≡ false
grown_done {G} fair zero {F} R few r =
    elim (cases_Bool (can_grow G F r)) [ inr fail ↦ fail | inl can ↦ absurd (omega (arith, some_outside fair R r can)) ]
grown_done {G} fair (suc i) {F} R few r =
    elim (cases_lt (lightest G F) G.households) [
      | inl l ↦
          let can = lightest_can G F l in
          subst (λ H. can_grow G H r ≡ false) (sym (grown_more G i F l))
          (grown_done fair i (grow_right fair _ R can) (omega (arith, fewer_outside fair R _ can)) r)
      | inr g ↦ subst (λ H. can_grow G H r ≡ false) (sym (grown_end G (suc i) F g)) (none_grows fair R g r)
    ]

pub forest_done : {G : Ground} (fair : Fair G) (r : ℕ) → can_grow G (forest G) r ≡ false
forest_done {G} fair r =
    grown_done fair G.households (planted_right fair G.households (omega arith)).0
    (count_most (outside G (planted G G.households)) G.households) r
