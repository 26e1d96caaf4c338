-- The fewest trees that reach a goal, in words. Assumes nothing.
use Rattle.std.proofs.Common.{◌≡◌, ℕ, zero, suc, ◌<◌, ◌≤◌, min, Bool, true, false, cond, eqb, leb, ◌⊎◌, List, [], ◌∷◌, map, length, sum_by, filter, sym, refl, ap, ◌∙◌, subst, ap₂, inl, inr, arith}
use Rattle.std.specs.List.{AllByRecursion}
use Rattle.std.proofs.ByRecursion.{All-append, All-map}
use Rattle.std.proofs.lemmas.List.Sums.{sum_by-cons}
use Rattle.std.proofs.lemmas.Bool.{cases_eq, cases_lt, cases_Bool, le-leb, leb-true, eq-eqb, ne_eqb, cond-true, cond-false, false≢true}
use Rattle.bisection.specs.Answers.{least}
use Rattle.bisection.proofs.Listing.{left_all, right_all, map_all, all_of_kept, all_kept_with, below_least}
use Rattle.bounds.proofs.Indexed.{sum_below_le}
use Rattle.forest.specs.Searches.{count_below, those_below, sublists}
use Rattle.forest.specs.Grounds.{Ground}
use Rattle.forest.specs.Forests.{Forest, is_root, tree_weight}
use Rattle.forest.specs.Fewest.{roots, fewest, choice_weight, Fewest}
use Rattle.forest.proofs.Sums.{cond_le}

-- ---- a test with another answer at one number

abbrev pub changed : (ℕ → Bool) → ℕ → Bool → ℕ → Bool
changed p i b k = cond (eqb k i) b (p k)

pub changed_at : (p : ℕ → Bool) (i : ℕ) (b : Bool) → changed p i b i ≡ b
changed_at p i b = cond-true (eqb i i) b (p i) (eq-eqb i i refl)

pub changed_off : (p : ℕ → Bool) (i k : ℕ) (b : Bool) → (k ≡ i → ⊥) → changed p i b k ≡ p k
changed_off p i k b ne = cond-false (eqb k i) b (p k) (ne_eqb k i ne)

-- ---- a choice among the numbers below n that pass a test, as a test and as a list

abbrev pub Among : ℕ → (ℕ → Bool) → (ℕ → Bool) → Type 0
Among n p tree = (r : ℕ) → r < n → p r ≡ true → tree r ≡ true

pub choice_most : (n : ℕ) (w : ℕ → ℕ) (p tree : ℕ → Bool) → Among n p tree → choice_weight n w p ≤ choice_weight n w tree
choice_most n w p tree sub = sum_below_le n _ _ (λ r l. cond_le (p r) (tree r) (w r) (sub r l))

those_same : (p q : ℕ → Bool) (n : ℕ) → ((k : ℕ) → k < n → p k ≡ q k) → those_below p n ≡ those_below q n
those_same p q zero h = refl
those_same p q (suc n) h = ap₂ (λ b xs. cond b (n ∷ xs) xs) (h n (omega arith)) (those_same p q n (λ k l. h k (omega arith)))

pub those_many : (p : ℕ → Bool) (n : ℕ) → length (those_below p n) ≡ count_below p n
those_many p zero = refl
those_many p (suc n) =
    elim (cases_Bool (p n)) [
      | inl pass ↦ rw pass (omega (arith, those_many p n))
      | inr fail ↦ rw fail (omega (arith, those_many p n))
    ]

those_weigh : (w : ℕ → ℕ) (p : ℕ → Bool) (n : ℕ) → sum_by w (those_below p n) ≡ choice_weight n w p
those_weigh w p zero = refl
those_weigh w p (suc n) =
    elim (cases_Bool (p n)) [
      | inl pass ↦ rw pass (omega (arith, those_weigh w p n, sum_by-cons w n (those_below p n)))
      | inr fail ↦ rw fail (omega (arith, those_weigh w p n))
    ]

-- what holds of every choice holds of every sublist
each_sublist : (tree : ℕ → Bool) (P : List ℕ → Type 0) (n : ℕ) → ((p : ℕ → Bool) → Among n p tree → P (those_below p n))
    → AllByRecursion P (sublists (those_below tree n))
each_sublist tree P zero h = (h (λ _. false) (λ r l e. absurd (omega arith)), tt)
each_sublist tree P (suc n) h =
    let skip : AllByRecursion P (sublists (those_below tree n)) = each_sublist tree P n (λ p sub. top p false sub (λ e. absurd (false≢true e))) in
    elim (cases_Bool (tree n)) [
      | inr fail ↦ rw fail skip
      | inl pass ↦
          rw pass (All-append P (map (λ s. n ∷ s) (sublists (those_below tree n))) _
          (All-map P (λ s. n ∷ s) _ (each_sublist tree (λ s. P (n ∷ s)) n (λ p sub. top p true sub (λ _. pass)))) skip)
    ]
  where
    top : (p : ℕ → Bool) (b : Bool) → Among n p tree → (b ≡ true → tree n ≡ true) → P (cond b (n ∷ those_below p n) (those_below p n))
    top p b sub ok =
        subst P
        (ap₂ (λ (c : Bool) (xs : List ℕ). cond c (n ∷ xs) xs) (changed_at p n b)
        (those_same (changed p n b) p n (λ k l. changed_off p n k b (λ e. omega arith))))
        (h (changed p n b) (λ r l e. elim (cases_eq r n) [
          | inl q ↦ ap tree q ∙ ok (sym (changed_at p n b) ∙ ap (changed p n b) (sym q) ∙ e)
          | inr q ↦ sub r (omega arith) (sym (changed_off p n r b q) ∙ e)
        ]))

-- and the other way round
sublist_has : (tree : ℕ → Bool) (P : List ℕ → Type 0) (n : ℕ) → AllByRecursion P (sublists (those_below tree n))
    → (p : ℕ → Bool) → Among n p tree → P (those_below p n)
sublist_has tree P zero all p sub = all.0
sublist_has tree P (suc n) all p sub =
    let T : List (List ℕ) = sublists (those_below tree n) in
    let less : Among n p tree = λ r l. sub r (omega arith) in
    elim (cases_Bool (p n)) [
      | inl take' ↦
          rw take' (sublist_has tree (λ s. P (n ∷ s)) n
          (map_all P (λ s. n ∷ s) T (left_all P (map (λ s. n ∷ s) T) T (rw (sub n (omega arith) take') at all))) p less)
      | inr skip ↦
          rw skip (elim (cases_Bool (tree n)) [
            | inl pass ↦ sublist_has tree P n (right_all P (map (λ s. n ∷ s) T) T (rw pass at all)) p less
            | inr fail ↦ sublist_has tree P n (rw fail at all) p less
          ])
    ]

-- the least is the number that it starts from, or that of one of the list
least_met : {X : Type 0} (f : X → ℕ) (u : ℕ) (P : X → Type 0) (xs : List X) → AllByRecursion P xs
    → (least f u xs ≡ u) ⊎ ((x : X) × P x × (least f u xs ≡ f x))
least_met f u P [] h = inl refl
least_met f u P (x ∷ xs) h =
    elim (least_met f (min u (f x)) P xs h.1) [
      | inr m ↦ inr m
      | inl e ↦
          elim (cases_lt (f x) u) [
            | inl l ↦ inr (x, h.0, omega arith)
            | inr g ↦ inl (omega arith)
          ]
    ]

-- ---- the fewest, in words

module _ (G : Ground) (F : Forest) (goal : ℕ) where
  abbrev n : ℕ
  n = G.households

  abbrev w : ℕ → ℕ
  w = tree_weight G F

  abbrev enough : List ℕ → Bool
  enough s = leb goal (sum_by w s)

  -- a choice of trees that reaches the goal, and is as long as a list
  abbrev Reaching : List ℕ → Type 0
  Reaching s = (p : ℕ → Bool) × Among n p (is_root G) × (goal ≤ choice_weight n w p) × (count_below p n ≡ length s)

  met : (fewest G F goal ≡ length (roots G)) ⊎ ((s : List ℕ) × Reaching s × (fewest G F goal ≡ length s))
  met =
      least_met (λ (s : List ℕ). length s) (length (roots G)) Reaching (filter enough (sublists (roots G)))
      (all_kept_with enough Reaching (sublists (roots G)) (each_sublist (is_root G) (λ s. enough s ≡ true → Reaching s) n
      (λ p sub pass. (p, sub, omega (arith, leb-true _ _ pass, those_weigh w p n), sym (those_many p n)))))

  pub fewest_words : Fewest n w (is_root G) goal (fewest G F goal)
  fewest_words =
      let all = those_many (is_root G) n in
      record {
        fewer = λ p sub reach.
            let most = (below_least (λ (s : List ℕ). length s) (length (roots G)) (fewest G F goal) (filter enough (sublists (roots G))) (omega arith)).1 in
            let each = all_of_kept enough (λ s. fewest G F goal ≤ length s) (sublists (roots G)) most in
            let pass : enough (those_below p n) ≡ true = le-leb _ _ (omega (arith, those_weigh w p n)) in
            omega (arith, sublist_has (is_root G) (λ s. enough s ≡ true → fewest G F goal ≤ length s) n each p sub pass, those_many p n);
        choice = λ reach. elim met [
          | inl e ↦ (is_root G, (λ r l root. root), reach, sym (e ∙ all))
          | inr (s, h, e) ↦ (h.0, h.1, h.2, h.3 ∙ sym e)
        ];
        all = λ short. elim met [
          | inl e ↦ e ∙ all
          | inr (s, h, e) ↦ absurd (omega (arith, h.2, choice_most n w h.0 (is_root G) h.1))
        ];
      }

-- one number alone is the fewest
pub fewest_alone : {n : ℕ} {w : ℕ → ℕ} {tree : ℕ → Bool} {goal c e : ℕ} → Fewest n w tree goal c → Fewest n w tree goal e → c ≡ e
fewest_alone {n} {w} {tree} {goal} C E =
    elim (cases_lt (choice_weight n w tree) goal) [
      | inl short ↦ C.all short ∙ sym (E.all short)
      | inr reach ↦
          let p = C.choice reach in
          let q = E.choice reach in
          omega (arith, C.fewer q.0 q.1 q.2, q.3, E.fewer p.0 p.1 p.2, p.3)
    ]

-- and it is at most the number of all trees
pub fewest_most : {n : ℕ} {w : ℕ → ℕ} {tree : ℕ → Bool} {goal c : ℕ} → Fewest n w tree goal c → c ≤ count_below tree n
fewest_most {n} {w} {tree} {goal} C =
    elim (cases_lt (choice_weight n w tree) goal) [
      | inl short ↦ omega (arith, C.all short)
      | inr reach ↦ C.fewer tree (λ r l root. root) reach
    ]
