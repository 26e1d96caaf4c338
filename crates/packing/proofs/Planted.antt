-- Planting household by household. Assumes nothing.
use Rattle.std.proofs.Common.{◌≡◌, ℕ, suc, ◌+◌, ◌*◌, ◌<◌, ◌≤◌, Bool, true, false, cond, ◌&&◌, ltb, None, Option, List, map, take, length, set, replicate, sym, refl, ap, ◌∙◌, subst, ap₂, inl, inr, arith, get_or-set_other, get_or-set_same}
use Rattle.std.proofs.lemmas.Bool.{cases_eq, cases_lt, cases_Bool, and_from, and_left, and_right, lt-ltb, le-ltb, cond-true, cond-false}
use Rattle.std.proofs.lemmas.Option.{none-some}
use Rattle.std.proofs.lemmas.List.{take-replicate}
use Rattle.parish.specs.Limits.{most_households, most_links, heaviest_held}
use Rattle.bounds.proofs.Indexed.{sum_below_same, sum_below_none}
use Rattle.forest.specs.Grounds.{Ground}
use Rattle.forest.specs.Forests.{Forest, is_root, root_link, joined, no_tree, plant, planted, tree_weight}
use Rattle.forest.proofs.Trees.{planted_right, other_tree, same_each}
use Rattle.forest.proofs.Weighing.{join_weighed, tree_weight_most, sum_most}
use Rattle.packing.specs.declared.question.Question.{Question}
use Rattle.packing.specs.declared.growth.Growth.{Growth}
use Rattle.packing.specs.declared.growth.Tree.{Tree}
use Rattle.packing.specs.Grounded.{ground_of}
use Rattle.packing.specs.Stands.{tree_named, forest_of, bare, held_weight, is_live, Plants, Sown}
use Rattle.packing.proofs.Named.{none_named}
use Rattle.packing.proofs.Questions.{fair, weight_most}

-- no tree is heavier than a parish can be
pub tree_light : (q : Question) (F : Forest) (r : ℕ) → tree_weight (ground_of q) F r ≤ most_households * heaviest_held
tree_light q F r =
    let G = ground_of q in
    omega (arith, tree_weight_most G F r, sum_most G.households heaviest_held (λ v. G.weight v) (weight_most q), q.few)

-- one tree is set
module _ (trees : List Tree) (r : ℕ) (t : Tree) where
  pub weight_at : r < length trees → held_weight (set trees r t) r ≡ t.weight
  weight_at l = ap (λ (x : Tree). x.weight) (get_or-set_same trees r t bare l)

  pub weight_others : (q : ℕ) → (q ≡ r → ⊥) → held_weight (set trees r t) q ≡ held_weight trees q
  weight_others q ne = ap (λ (x : Tree). x.weight) (get_or-set_other trees r q t bare ne)

  pub live_at : r < length trees → is_live (set trees r t) r ≡ t.live
  live_at l = ap (λ (x : Tree). x.live) (get_or-set_same trees r t bare l)

  pub live_others : (q : ℕ) → (q ≡ r → ⊥) → is_live (set trees r t) q ≡ is_live trees q
  live_others q ne = ap (λ (x : Tree). x.live) (get_or-set_other trees r q t bare ne)

-- one household more
module _ (g h : Growth) (v roots : ℕ) (b : Bool) (more_roots : ℕ) (lt : v < (ground_of g.question).households) (S : Sown (ground_of g.question) v g roots)
    (P : Plants v g h b) (count : more_roots ≡ roots + cond b 1 0) where
  abbrev G : Ground
  G = ground_of g.question

  abbrev more : Tree
  more = record { weight = held_weight g.trees v + G.weight v; live = true }

  below_same : (q : ℕ) → (q ≡ v → ⊥) → ltb q v ≡ ltb q (suc v)
  below_same q ne =
      elim (cases_lt q v) [
        | inl l ↦ lt-ltb q v l ∙ sym (lt-ltb q (suc v) (omega arith))
        | inr g ↦ le-ltb q v g ∙ sym (le-ltb q (suc v) (omega arith))
      ]

  there : v < length g.trees
  there = omega (arith, g.long, g.question.few)

  is_next : forest_of h ≡ planted G (suc v)
  is_next = P.is ∙ ap (λ F. plant G F v) S.is

  sow_root : is_root G v ≡ true → Sown G (suc v) h more_roots
  sow_root root =
      let k : ℕ = root_link G v in
      let right = planted_right (fair g.question) v (omega arith) in
      let next : planted G (suc v) ≡ joined (planted G v) v v k = cond-true (is_root G v) (joined (planted G v) v v (root_link G v)) (planted G v) root in
      let ts : h.trees ≡ set g.trees v more = P.trees ∙ cond-true (is_root G v) (set g.trees v more) g.trees root in
      record {
        is = is_next;
        weighs = λ q l.
            ap (λ x. held_weight x q) ts
            ∙ join_weighed G (planted G v) v v k right.0.long lt (right.1 v (omega arith)) lt (held_weight g.trees) (held_weight (set g.trees v more)) S.weighs
            (weight_at g.trees v more there) (weight_others g.trees v more) q l
            ∙ ap (λ F. tree_weight G F q) (sym next);
        lives = λ q l.
            ap (λ x. is_live x q) ts
            ∙ elim (cases_eq q v) [
              | inl e ↦
                  ap (is_live (set g.trees v more)) e ∙ live_at g.trees v more there
                  ∙ sym (and_from _ _ (lt-ltb q (suc v) (omega arith)) (ap (is_root G) e ∙ root))
              | inr ne ↦ live_others g.trees v more q ne ∙ S.lives q l ∙ ap (λ x. x && is_root G q) (below_same q ne)
            ];
        counts = omega (arith, S.counts, cond-true {A = ℕ} (is_root G v) 1 0 root, ap {B = ℕ} (λ x. cond x 1 0) P.tells);
      }

  sow_none : is_root G v ≡ false → Sown G (suc v) h more_roots
  sow_none none =
      let next : planted G (suc v) ≡ planted G v = cond-false (is_root G v) (joined (planted G v) v v (root_link G v)) (planted G v) none in
      let ts : h.trees ≡ g.trees = P.trees ∙ cond-false (is_root G v) (set g.trees v more) g.trees none in
      record {
        is = is_next;
        weighs = λ q l. ap (λ x. held_weight x q) ts ∙ S.weighs q l ∙ ap (λ F. tree_weight G F q) (sym next);
        lives = λ q l.
            ap (λ x. is_live x q) ts ∙ S.lives q l
            ∙ elim (cases_eq q v) [
              | inl e ↦ and_right _ _ (ap (is_root G) e ∙ none) ∙ sym (and_right _ _ (ap (is_root G) e ∙ none))
              | inr ne ↦ ap (λ x. x && is_root G q) (below_same q ne)
            ];
        counts = omega (arith, S.counts, cond-false {A = ℕ} (is_root G v) 1 0 none, ap {B = ℕ} (λ x. cond x 1 0) P.tells);
      }

  pub sow_more : Sown (ground_of h.question) (suc v) h more_roots
  sow_more =
      subst (λ q. Sown (ground_of q) (suc v) h more_roots) (sym P.question)
      (elim (cases_Bool (is_root G v)) [ inl root ↦ sow_root root | inr none ↦ sow_none none ])

-- nothing is planted yet
pub sow_start : (g : Growth) → g.tree_of ≡ replicate most_households 0 → g.taken ≡ replicate most_links 0
    → g.trees ≡ replicate most_households bare → Sown (ground_of g.question) 0 g 0
sow_start g e k t =
    record {
      is =
          ap₂ (λ (x : List (Option ℕ)) (y : List ℕ). record { tree = x; taken = y })
          (ap (λ xs. map tree_named (take (ground_of g.question).households xs)) e
          ∙ ap (map tree_named) (take-replicate {X = ℕ} (ground_of g.question).households most_households 0 g.question.few)
          ∙ none_named (ground_of g.question).households)
          (ap (take (ground_of g.question).links) k ∙ take-replicate {X = ℕ} (ground_of g.question).links most_links 0 g.question.short);
      weighs = λ r b. ap (λ x. held_weight x r) t ∙ ap (λ (x : Tree). x.weight) (same_each most_households r bare) ∙ sym (none r);
      lives = λ r b. ap (λ x. is_live x r) t ∙ ap (λ (x : Tree). x.live) (same_each most_households r bare) ∙ sym (and_left _ _ (le-ltb r 0 (omega arith)));
      counts = refl;
    }
  where
    none : (r : ℕ) → tree_weight (ground_of g.question) (no_tree (ground_of g.question)) r ≡ 0
    none r =
        sum_below_same (ground_of g.question).households _ (λ v. 0)
        (λ v b. cond-false {A = ℕ} _ ((ground_of g.question).weight v) 0 (other_tree _ r (λ z. none-some r (sym (same_each {A = Option ℕ} (ground_of g.question).households v None) ∙ z))))
        ∙ sum_below_none (ground_of g.question).households
