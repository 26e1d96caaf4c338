-- Which households are roots, and what is planted before any tree grows. Assumes nothing.
use Rattle.std.proofs.Common.{◌≡◌, ℕ, suc, ◌<◌, true, false, eqb, ◌⊎◌, Some, None, Option, get_or, Decides, sym, ap, ◌∙◌, inl, inr, arith}
use Rattle.std.proofs.lemmas.Bool.{cases_eq, and_parts, and_from, ltb-true, lt-ltb, both_ways}
use Rattle.forest.specs.Grounds.{Ground, leads}
use Rattle.forest.specs.Forests.{Forest, root_link, is_root, Roots, joined, no_tree, planted}
use Rattle.forest.specs.Laws.{Planting}
use Rattle.forest.proofs.Firsts.{first_is, first_passes, first_least}
use Rattle.forest.proofs.Trees.{Fair, Right, Joins, Sown, tree_at, tree_off, taken_at, taken_off, same_each, plant_induct}

-- ---- a root and its link

module _ (G : Ground) (v : ℕ) where
  pub root_has : is_root G v ≡ true → Roots G v (root_link G v)
  root_has root =
      let p = and_parts (G.unset v) _ root in
      let kl : root_link G v < G.links = ltb-true _ _ p.1 in
      record {
        free = p.0;
        there = kl;
        from_home = first_passes (leads G G.home (λ u. eqb u v)) G.links kl;
        lowest = λ j l. first_least (leads G G.home (λ u. eqb u v)) G.links j l;
      }

  pub root_is : (k : ℕ) → Roots G v k → (is_root G v ≡ true) × (root_link G v ≡ k)
  root_is k h =
      let e : root_link G v ≡ k = first_is (leads G G.home (λ u. eqb u v)) G.links k h.there h.from_home h.lowest in
      (and_from _ _ h.free (lt-ltb _ _ (omega (arith, h.there))), e)

  pub roots_decided : Decides (is_root G v) ((k : ℕ) × Roots G v k)
  roots_decided = (λ root. (root_link G v, root_has root), λ h. (root_is h.0 h.1).0)

-- ---- planting

-- the households below n are planted where they are roots
record Planted (G : Ground) (n : ℕ) (F : Forest) : Type 0 where
  sown : Sown G n F
  alone : (v : ℕ) → v < n → (is_root G v ≡ true → get_or F.tree v None ≡ Some v) × (is_root G v ≡ false → get_or F.tree v None ≡ None)
  links : (k : ℕ) → (get_or F.taken k 0 ≡ 0) ⊎ ((get_or F.taken k 0 ≡ 1) × ((v : ℕ) × (v < G.households) × Roots G v k))
  taken : (v : ℕ) → v < n → is_root G v ≡ true → get_or F.taken (root_link G v) 0 ≡ 1

module _ {G : Ground} (fair : Fair G) where
  nothing : Planted G 0 (no_tree G)
  nothing =
      record {
        sown = λ v l. same_each {A = Option ℕ} G.households v None;
        alone = λ v l. absurd (omega arith);
        links = λ k. inl (same_each {A = ℕ} G.links k 0);
        taken = λ v l. absurd (omega arith);
      }

  more : (v u : ℕ) (F : Forest) → Right G F → is_root G v ≡ true → Joins G F u v v (root_link G v) → Planted G v F
      → Planted G (suc v) (joined F v v (root_link G v))
  more v u F R root J P =
      let H : Forest = joined F v v (root_link G v) in
      record {
        sown = λ w l. tree_off R J w (λ e. omega arith) ∙ P.sown w (omega arith);
        alone = λ w l. elim (cases_eq w v) [
          | inl e ↦ (
            λ _. ap (λ x. get_or H.tree x None) e ∙ tree_at R J ∙ ap Some (sym e),
            λ none. absurd (both_ways _ none (ap (is_root G) e ∙ root)),
          )
          | inr ne ↦
              let was = P.alone w (omega arith) in
              (λ h. tree_off R J w ne ∙ was.0 h, λ h. tree_off R J w ne ∙ was.1 h)
        ];
        links = λ k. elim (cases_eq k (root_link G v)) [
          | inl e ↦ inr (ap (λ x. get_or H.taken x 0) e ∙ taken_at R J, (v, J.there, rw e (root_has G v root)))
          | inr ne ↦
              elim (P.links k) [
                | inl z ↦ inl (taken_off R J k ne ∙ z)
                | inr (z, h) ↦ inr (taken_off R J k ne ∙ z, h)
              ]
        ];
        taken = λ w l h. elim (cases_eq (root_link G w) (root_link G v)) [
          | inl e ↦ ap (λ x. get_or H.taken x 0) e ∙ taken_at R J
          | inr ne ↦
              let others : w ≡ v → ⊥ = λ e. ne (ap (root_link G) e) in
              taken_off R J (root_link G w) ne ∙ P.taken w (omega arith) h
        ];
      }

  same : (v : ℕ) (F : Forest) → is_root G v ≡ false → Planted G v F → Planted G (suc v) F
  same v F none P =
      record {
        sown = λ w l. P.sown w (omega arith);
        alone = λ w l. elim (cases_eq w v) [
          | inl e ↦ (λ h. absurd (both_ways _ none (sym (ap (is_root G) e) ∙ h)), λ _. P.sown w (omega arith))
          | inr ne ↦ P.alone w (omega arith)
        ];
        links = P.links;
        taken = λ w l h. elim (cases_eq w v) [
          | inl e ↦ absurd (both_ways _ none (sym (ap (is_root G) e) ∙ h))
          | inr ne ↦ P.taken w (omega arith) h
        ];
      }

  pub planting_words : Planting G (planted G G.households)
  planting_words =
      let P = plant_induct fair (Planted G) nothing (λ v u F R root _ J p. more v u F R root J p) same G.households (omega arith) in
      record {
        roots = λ v l. roots_decided G v;
        alone = P.alone;
        links = λ k l. P.links k;
        taken = λ v k l h.
            let r = root_is G v k h in
            ap (λ x. get_or (planted G G.households).taken x 0) (sym r.1) ∙ P.taken v l r.0;
      }
