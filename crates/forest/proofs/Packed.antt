-- What the packing layer adds to a lower bound. Assumes nothing.
use Rattle.std.proofs.Common.{◌≡◌, ℕ, ◌+◌, ◌<◌, ◌≤◌, Bool, true, false, cond, not, ◌&&◌, eqb, List, [], ◌∷◌, length, get_or, sym, refl, ap, ◌∙◌, subst, inl, inr, arith}
use Rattle.std.proofs.lemmas.List.{get_or_past}
use Rattle.std.proofs.lemmas.Bool.{cases_eq, cases_lt, and_parts, eq-eqb, ne_eqb, eqb-true, eqb-false, leb-true, ltb-true, both_ways, cond-true, cond-false}
use Rattle.parish.specs.Lots.{lot_byte}
use Rattle.parish.specs.Model.{Model, Sound, no_link, no_household}
use Rattle.parish.specs.declared.items.Household.{Household}
use Rattle.parish.specs.declared.items.Link.{Link}
use Rattle.parish.specs.declared.items.Lot.{Lot}
use Rattle.parish.specs.declared.items.Lot.TheVariants.{A, B}
use Rattle.bisection.specs.Costs.{cut}
use Rattle.bisection.specs.Lots.{Bisects, Extends}
use Rattle.bisection.specs.Meanings.{cut_charges}
use Rattle.bisection.specs.Weights.{lot_weight, least_lot_weight, Balanced}
use Rattle.bisection.proofs.Halves.{both_lots}
use Rattle.bounds.specs.Adding.{Adds}
use Rattle.bounds.specs.Bounds.{strengths}
use Rattle.bounds.specs.Left.{link_at}
use Rattle.bounds.specs.Sums.{sum_below}
use Rattle.bounds.proofs.Indexed.{sum_below_le, sum_below_front, sum_by_index}
use Rattle.bounds.proofs.Left.{strength_at}
use Rattle.forest.specs.Searches.{first, count_below}
use Rattle.forest.specs.Grounds.{Ground, other, ground_for, weight_of}
use Rattle.forest.specs.Forests.{Forest, is_root, inside, planted, forest, tree_weight}
use Rattle.forest.specs.Fewest.{target, fewest, Fewest}
use Rattle.forest.specs.Layers.{packed_charges, packed_number}
use Rattle.forest.proofs.Sums.{cond_le}
use Rattle.forest.proofs.Firsts.{first_passes}
use Rattle.forest.proofs.Trees.{Fair, Right, tree_same, planted_right, plant_induct, grow_induct, grow_joins, forest_right}
use Rattle.forest.proofs.Paying.{differ, crossed, hit, cuts, taken_sum, all_paid, join_sum, reaches}
use Rattle.forest.proofs.Fewest.{fewest_words, fewest_alone, fewest_most}
use Rattle.forest.proofs.Greedy.{Least, no_root_no_weight, least_fewest, short_fewest, fewest_same}

-- ---- a count of the weights of trees is the number that is added

module _ (G : Ground) (least_weight c : ℕ) (w : ℕ → ℕ) (weighs : (r : ℕ) → r < G.households → w r ≡ tree_weight G (forest G) r) where
  -- by the words
  pub packed_is : Fewest G.households w (is_root G) (target G (forest G) least_weight) c → c ≡ packed_number G least_weight
  packed_is C =
      fewest_alone (fewest_same G.households w (is_root G) _ c (tree_weight G (forest G)) weighs C)
      (fewest_words G (forest G) (target G (forest G) least_weight))

  -- where they reach the target it is the fewest of them, and else the number of roots
  pub packed_counted : Fair G → (goal : ℕ) → goal ≡ target G (forest G) least_weight
      → (goal ≤ sum_below G.households w → Least G.households w goal c)
      → (sum_below G.households w < goal → c ≡ count_below (is_root G) G.households) → c ≡ packed_number G least_weight
  packed_counted fair goal is reached short =
      packed_is (subst (λ x. Fewest G.households w (is_root G) x c) is (elim (cases_lt (sum_below G.households w) goal) [
        | inl l ↦ short_fewest G.households w (is_root G) goal c l (short l)
        | inr g ↦
            least_fewest G.households w (is_root G) goal c (λ r l none. weighs r l ∙ no_root_no_weight (forest_right fair) r none) (reached g)
      ]))

-- ---- over any ground

module _ {G : Ground} (fair : Fair G) where
  -- there are at least as many taken links as trees
  roots_charged : count_below (is_root G) G.households ≤ taken_sum G (forest G)
  roots_charged =
      let sown = plant_induct fair (λ v F. count_below (is_root G) v ≤ taken_sum G F) (omega arith)
      (λ v u F R root home J p. omega (arith, join_sum R J, cond-true {A = ℕ} (is_root G v) 1 0 root))
      (λ v F none p. omega (arith, cond-false {A = ℕ} (is_root G v) 1 0 none)) G.households (omega arith)
      in
      (grow_induct fair (λ F. count_below (is_root G) G.households ≤ taken_sum G F)
      (λ F r R can p. omega (arith, join_sum R (grow_joins fair r R can).2))
      G.households (planted G G.households) (planted_right fair G.households (omega arith)).0 sown).1

  pub number_charged : (goal : ℕ) → fewest G (forest G) goal ≤ taken_sum G (forest G)
  number_charged goal = omega (arith, fewest_most (fewest_words G (forest G) goal), roots_charged)

  -- the fewest trees are at most the taken links that cross
  module _ (across : ℕ → Bool) (agrees : (v : ℕ) → G.home v ≡ true → across v ≡ false)
      (set_across : (v : ℕ) → across v ≡ true → G.unset v ≡ false → G.away v ≡ true)
      (least_weight : ℕ) (heavy : least_weight ≤ weight_of G across) where
    hit_roots : (r : ℕ) → hit G across (forest G) r ≡ true → is_root G r ≡ true
    hit_roots r h =
        let test : ℕ → Bool = λ v. inside (forest G) r v && across v in
        let v : ℕ = first test G.households in
        let p = and_parts (inside (forest G) r v) _ (first_passes test G.households (ltb-true _ _ h)) in
        ((forest_right fair).rooted v r (tree_same _ r p.0)).1

    pub number_paid : fewest G (forest G) (target G (forest G) least_weight) ≤ cuts G across (forest G)
    number_paid =
        let F : Forest = forest G in
        let enough = reaches (forest_right fair) across set_across in
        let few = (fewest_words G F (target G F least_weight)).fewer (hit G across F) (λ r l. hit_roots r) (omega arith) in
        omega (arith, all_paid fair across agrees)

-- ---- over a question

-- a link's ends are households, and none is both unset and set
pub ground_fair : (home : Lot) (m : Model) (lots charges : List ℕ) → Sound m → Fair (ground_for home m lots charges)
ground_fair home m lots charges sound =
    record {
      ends = λ k l. let e = sound.joined k no_link l in (e.0, e.1);
      apart = λ v free. ne_eqb (get_or lots v 0) (lot_byte home) (λ e. omega (arith, eqb-true _ _ free, byte_set home));
    }
  where
    byte_set : (lot : Lot) → 1 ≤ lot_byte lot
    byte_set A = omega arith
    byte_set B = omega arith

-- sums over the lists of a parish, by index
cut_sum : (ls : List Link) (cs d : List ℕ) → length cs ≡ length ls
    → cut_charges ls cs d ≡ sum_below (length ls) (λ k. cond (cut d (link_at ls k)) (get_or cs k 0) 0)
cut_sum [] cs d same = refl
cut_sum (l ∷ ls) [] d same = absurd (omega arith)
cut_sum (l ∷ ls) (c ∷ cs) d same =
    omega (arith, sum_below_front (length ls) (λ k. cond (cut d (link_at (l ∷ ls) k)) (get_or (c ∷ cs) k 0) 0), cut_sum ls cs d (omega arith))

weight_sum : (lot : ℕ) (hs : List Household) (d : List ℕ) → length d ≡ length hs
    → lot_weight lot hs d ≡ sum_below (length hs) (λ v. cond (eqb (get_or d v 0) lot) (get_or hs v no_household).weight 0)
weight_sum lot [] d same = refl
weight_sum lot (h ∷ hs) [] same = absurd (omega arith)
weight_sum lot (h ∷ hs) (x ∷ d) same =
    omega (
      arith,
      sum_below_front (length hs) (λ v. cond (eqb (get_or (x ∷ d) v 0) lot) (get_or (h ∷ hs) v no_household).weight 0),
      weight_sum lot hs d (omega arith),
    )

module _ (home : Lot) (m : Model) (limit : ℕ) (lots below : List ℕ) (sound : Sound m)
    (within : (k : ℕ) → get_or below k 0 ≤ get_or (strengths m.links) k 0) where
  abbrev G : Ground
  G = ground_for home m lots below

  abbrev away : ℕ
  away = lot_byte (other home)

  fair : Fair G
  fair = ground_fair home m lots below sound

  R : Right G (forest G)
  R = forest_right fair

  -- just usable links are charged
  no_more_than_left : (k : ℕ) → get_or below k 0 + get_or (packed_charges G) k 0 ≤ get_or (strengths m.links) k 0
  no_more_than_left k =
      elim (cases_lt 0 (get_or (packed_charges G) k 0)) [
        | inr none ↦ omega (arith, within k)
        | inl some' ↦
            elim (cases_lt k (length m.links)) [
              | inl l ↦ omega (arith, R.once k, leb-true _ _ (R.only_usable k some'), strength_at m.links k l)
              | inr g ↦ absurd (omega (arith, get_or_past (packed_charges G) k 0 (omega (arith, R.links_long))))
            ]
      ]

  module _ (d : List ℕ) (whole : Bisects m d) (ext : Extends lots d) (even : Balanced m limit d) where
    abbrev across : ℕ → Bool
    across v = eqb (get_or d v 0) away

    cut_crossed : (k : ℕ) → crossed G across k ≡ true → cut d (link_at m.links k) ≡ true
    cut_crossed k h = apart (get_or d (G.from k) 0) (get_or d (G.to k) 0) h
      where
        self : (x : Bool) → differ x x ≡ true → ⊥
        self true e = both_ways false refl e
        self false e = both_ways false refl e

        apart : (x y : ℕ) → differ (eqb x away) (eqb y away) ≡ true → not (eqb x y) ≡ true
        apart x y e =
            elim (cases_eq x y) [
              | inl same ↦ absurd (self (eqb y away) (rw same at e))
              | inr ne ↦ rw (ne_eqb x y ne)
            ]

    heavy : least_lot_weight m limit ≤ weight_of G across
    heavy = omega (arith, by home, weight_sum away m.households d whole.long)
      where
        by : (lot : Lot) → least_lot_weight m limit ≤ lot_weight (lot_byte (other lot)) m.households d
        by A = omega (arith, both_lots m.households d whole.long whole.set_each, even.light_A)
        by B = omega (arith, both_lots m.households d whole.long whole.set_each, even.light_B)

    -- what is set in the home lot stays there
    agrees : (v : ℕ) → G.home v ≡ true → across v ≡ false
    agrees v h = by home (eqb-true _ _ h)
      where
        by : (lot : Lot) → get_or lots v 0 ≡ lot_byte lot → eqb (get_or d v 0) (lot_byte (other lot)) ≡ false
        by A e = ne_eqb (get_or d v 0) 2 (λ q. omega (arith, ext v (omega arith)))
        by B e = ne_eqb (get_or d v 0) 1 (λ q. omega (arith, ext v (omega arith)))

    set_across : (v : ℕ) → across v ≡ true → G.unset v ≡ false → G.away v ≡ true
    set_across v far was =
        let ne : get_or lots v 0 ≡ 0 → ⊥ = eqb-false (get_or lots v 0) 0 was in
        let some' : 1 ≤ get_or lots v 0 = omega arith in
        eq-eqb (get_or lots v 0) away (sym (ext v some') ∙ eqb-true _ _ far)

    paid : packed_number G (least_lot_weight m limit) ≤ cut_charges m.links (packed_charges G) d
    paid =
        omega (
          arith,
          number_paid fair across agrees set_across (least_lot_weight m limit) heavy,
          cut_sum m.links (packed_charges G) d R.links_long,
          sum_below_le (length m.links) (λ k. cond (crossed G across k) (get_or (packed_charges G) k 0) 0)
              (λ k. cond (cut d (link_at m.links k)) (get_or (packed_charges G) k 0) 0)
              (λ k l. cond_le (crossed G across k) _ _ (cut_crossed k)),
        )

  pub packing_adds : Adds m limit lots below (packed_number G (least_lot_weight m limit)) (packed_charges G)
  packing_adds =
      record {
        long = R.links_long;
        left = no_more_than_left;
        charged =
            omega (
              arith,
              number_charged fair (target G (forest G) (least_lot_weight m limit)),
              sum_by_index (packed_charges G),
              ap (λ n. sum_below n (λ k. get_or (packed_charges G) k 0)) R.links_long,
            );
        paid = paid;
      }
