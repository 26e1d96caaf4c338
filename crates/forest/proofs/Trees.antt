-- What every forest keeps, from the roots on. Assumes nothing.
use Rattle.std.proofs.Common.{◌≡◌, ℕ, zero, suc, ◌<◌, ◌≤◌, Bool, true, false, ◌&&◌, eqb, ltb, ◌⊎◌, Some, None, Option, is_none, length, get_or, replicate, sym, refl, ap, ◌∙◌, subst, inl, inr, arith}
use Rattle.std.specs.Option.{option_eq}
use Rattle.std.proofs.lemmas.Option.{same_Some, none-some}
use Rattle.std.proofs.lemmas.List.{length-set, get_or-set_same, get_or-set_other, length-replicate}
use Rattle.std.proofs.lemmas.Bool.{cases_eq, cases_lt, cases_Bool, and_parts, and_from, and_left, and_right, or_cases, eqb-true, eq-eqb, ne_eqb, ltb-true, lt-ltb, le-ltb, both_ways, cond-true, cond-false, false≢true}
use Rattle.forest.specs.Grounds.{Ground, leads}
use Rattle.forest.specs.Forests.{Forest, root_link, is_root, joined, no_tree, plant, planted, inside, outside, grow_link, can_grow, far_end, none_lighter, lightest, grow, grown, forest}
use Rattle.forest.proofs.Firsts.{first_passes}

-- the ends of a link are households, and no unset household is in the home lot
pub record Fair (G : Ground) : Type 0 where
  pub ends : (k : ℕ) → k < G.links → (G.from k < G.households) × (G.to k < G.households)
  pub apart : (v : ℕ) → G.unset v ≡ true → G.home v ≡ false

-- u and v are the two ends of link k
abbrev pub Ends : Ground → ℕ → ℕ → ℕ → Type 0
Ends G k u v = ((G.from k ≡ u) × (G.to k ≡ v)) ⊎ ((G.to k ≡ u) × (G.from k ≡ v))

-- ---- the tree that a household is in, if any

pub cases_tree : (o : Option ℕ) → (o ≡ None) ⊎ ((r : ℕ) × (o ≡ Some r))
cases_tree None = inl refl
cases_tree (Some r) = inr (r, refl)

pub same_tree : (o : Option ℕ) (r : ℕ) → o ≡ Some r → option_eq eqb o (Some r) ≡ true
same_tree o r e = rw e (eq-eqb r r refl)

pub tree_same : (o : Option ℕ) (r : ℕ) → option_eq eqb o (Some r) ≡ true → o ≡ Some r
tree_same None r e = absurd (false≢true e)
tree_same (Some q) r e = ap Some (eqb-true q r e)

pub other_tree : (o : Option ℕ) (r : ℕ) → (o ≡ Some r → ⊥) → option_eq eqb o (Some r) ≡ false
other_tree None r ne = refl
other_tree (Some q) r ne = ne_eqb q r (λ e. ne (ap Some e))

pub no_tree_none : (o : Option ℕ) → is_none o ≡ true → o ≡ None
no_tree_none None e = refl
no_tree_none (Some r) e = absurd (false≢true e)

pub record Right (G : Ground) (F : Forest) : Type 0 where
  pub long : length F.tree ≡ G.households
  pub links_long : length F.taken ≡ G.links
  -- each link is taken at most once, and only a usable one
  pub once : (k : ℕ) → get_or F.taken k 0 ≤ 1
  pub only_usable : (k : ℕ) → 1 ≤ get_or F.taken k 0 → G.usable k ≡ true
  -- no end of a taken link is unset and outside all trees
  pub held : (k : ℕ) → 1 ≤ get_or F.taken k 0 → (outside G F (G.from k) ≡ false) × (outside G F (G.to k) ≡ false)
  -- a household in a tree is in that of a root
  pub rooted : (v r : ℕ) → get_or F.tree v None ≡ Some r → (r < G.households) × (is_root G r ≡ true)

-- household v joins the tree of root r by link k, of which u is the other end
pub record Joins (G : Ground) (F : Forest) (u v r k : ℕ) : Type 0 where
  pub there : v < G.households
  pub link : k < G.links
  pub ends : Ends G k u v
  pub usable : G.usable k ≡ true
  pub near : outside G F u ≡ false
  pub far : outside G F v ≡ true
  pub root : (r < G.households) × (is_root G r ≡ true)

-- who is in a tree is not outside
pub in_tree : (G : Ground) (F : Forest) (w r : ℕ) → get_or F.tree w None ≡ Some r → outside G F w ≡ false
in_tree G F w r e = and_right (G.unset w) _ (ap is_none e)

-- a household in no tree joins tree r: every other tree is as it was
pub tree_others : (F : Forest) (v r k : ℕ) → v < length F.tree → get_or F.tree v None ≡ None
    → (q : ℕ) → (q ≡ r → ⊥) → (w : ℕ) → inside (joined F v r k) q w ≡ inside F q w
tree_others F v r k there out q ne w =
    elim (cases_eq w v) [
      | inl e ↦
          let now' : get_or (joined F v r k).tree w None ≡ Some r = ap (λ x. get_or (joined F v r k).tree x None) e ∙ get_or-set_same F.tree v (Some r) None there in
          let before : get_or F.tree w None ≡ None = ap (λ x. get_or F.tree x None) e ∙ out in
          other_tree _ _ (λ z. ne (same_Some q r (sym z ∙ now')))
          ∙ sym (other_tree _ _ (λ z. none-some q (sym before ∙ z)))
      | inr e ↦ ap (λ x. option_eq eqb x (Some q)) (get_or-set_other F.tree v w (Some r) None e)
    ]

module _ {G : Ground} {F : Forest} {u v r k : ℕ} (R : Right G F) (J : Joins G F u v r k) where
  pub was_out : get_or F.tree v None ≡ None
  was_out = no_tree_none _ (and_parts _ _ J.far).1

  pub was_free : get_or F.taken k 0 ≡ 0
  was_free =
      elim (cases_lt 0 (get_or F.taken k 0)) [
        | inl l ↦ absurd (both_ways (outside G F v) (end (R.held k l)) J.far)
        | inr g ↦ omega arith
      ]
    where
      end : (outside G F (G.from k) ≡ false) × (outside G F (G.to k) ≡ false) → outside G F v ≡ false
      end h = elim J.ends [ inl e ↦ rw e.1 at h.1 | inr e ↦ rw e.1 at h.0 ]

  pub tree_at : get_or (joined F v r k).tree v None ≡ Some r
  tree_at = get_or-set_same F.tree v (Some r) None (omega (arith, R.long, J.there))

  pub tree_off : (w : ℕ) → (w ≡ v → ⊥) → get_or (joined F v r k).tree w None ≡ get_or F.tree w None
  tree_off w ne = get_or-set_other F.tree v w (Some r) None ne

  pub taken_at : get_or (joined F v r k).taken k 0 ≡ 1
  taken_at = get_or-set_same F.taken k 1 0 (omega (arith, R.links_long, J.link))

  pub taken_off : (j : ℕ) → (j ≡ k → ⊥) → get_or (joined F v r k).taken j 0 ≡ get_or F.taken j 0
  taken_off j ne = get_or-set_other F.taken k j 1 0 ne

  pub others_same : (q : ℕ) → (q ≡ r → ⊥) → (w : ℕ) → inside (joined F v r k) q w ≡ inside F q w
  others_same = tree_others F v r k (omega (arith, R.long, J.there)) was_out

  -- who was not outside is not outside now
  pub still_in : (w : ℕ) → outside G F w ≡ false → outside G (joined F v r k) w ≡ false
  still_in w h =
      elim (cases_eq w v) [
        | inl e ↦ in_tree G (joined F v r k) w r (ap (λ x. get_or (joined F v r k).tree x None) e ∙ tree_at)
        | inr e ↦ ap (λ x. G.unset w && is_none x) (tree_off w e) ∙ h
      ]

  pub now_in : outside G (joined F v r k) v ≡ false
  now_in = in_tree G (joined F v r k) v r tree_at

  ends_in : (outside G (joined F v r k) (G.from k) ≡ false) × (outside G (joined F v r k) (G.to k) ≡ false)
  ends_in =
      elim J.ends [
        | inl e ↦ (rw e.0 (still_in u J.near), rw e.1 now_in)
        | inr e ↦ (rw e.1 now_in, rw e.0 (still_in u J.near))
      ]

  pub join_right : Right G (joined F v r k)
  join_right =
      record {
        long = length-set F.tree v (Some r) ∙ R.long;
        links_long = length-set F.taken k 1 ∙ R.links_long;
        once = λ j. elim (cases_eq j k) [
          | inl e ↦ omega (arith, ap (λ x. get_or (joined F v r k).taken x 0) e, taken_at)
          | inr e ↦ omega (arith, taken_off j e, R.once j)
        ];
        only_usable = λ j l. elim (cases_eq j k) [
          | inl e ↦ ap (λ x. G.usable x) e ∙ J.usable
          | inr e ↦ R.only_usable j (omega (arith, taken_off j e))
        ];
        held = λ j l. elim (cases_eq j k) [
          | inl e ↦ rw e ends_in
          | inr e ↦ let h = R.held j (omega (arith, taken_off j e)) in (still_in _ h.0, still_in _ h.1)
        ];
        rooted = λ w q is. elim (cases_eq w v) [
          | inl e ↦
              let same : r ≡ q = same_Some r q (sym tree_at ∙ sym (ap (λ x. get_or (joined F v r k).tree x None) e) ∙ is) in
              subst (λ x. (x < G.households) × (is_root G x ≡ true)) same J.root
          | inr e ↦ R.rooted w q (sym (tree_off w e) ∙ is)
        ];
      }

-- ---- nothing is planted yet

-- the same stands at every place
pub same_each : {A : Type 0} (n k : ℕ) (a : A) → get_or (replicate n a) k a ≡ a
same_each zero k a = refl
same_each (suc n) zero a = refl
same_each (suc n) (suc k) a = same_each n k a

pub no_tree_right : (G : Ground) → Right G (no_tree G)
no_tree_right G =
    record {
      long = length-replicate G.households None;
      links_long = length-replicate G.links 0;
      once = λ k. omega (arith, same_each {A = ℕ} G.links k 0);
      only_usable = λ k l. absurd (omega (arith, same_each {A = ℕ} G.links k 0));
      held = λ k l. absurd (omega (arith, same_each {A = ℕ} G.links k 0));
      rooted = λ v r is. absurd (none-some r (sym (same_each {A = Option ℕ} G.households v None) ∙ is));
    }

-- ---- a link that leads from one test to another

pub record Led (G : Ground) (near far : ℕ → Bool) (k : ℕ) : Type 0 where
  pub u : ℕ
  pub v : ℕ
  pub usable : G.usable k ≡ true
  pub ends : Ends G k u v
  pub near_end : near u ≡ true
  pub far_end : far v ≡ true

pub leads_led : (G : Ground) (near far : ℕ → Bool) (k : ℕ) → leads G near far k ≡ true → Led G near far k
leads_led G near far k h =
    let p = and_parts (G.usable k) _ h in
    elim (or_cases (near (G.from k) && far (G.to k)) (near (G.to k) && far (G.from k)) p.1) [
      | inl a ↦
          let q = and_parts (near (G.from k)) (far (G.to k)) a in
          record { u = G.from k; v = G.to k; usable = p.0; ends = inl (refl, refl); near_end = q.0; far_end = q.1 }
      | inr a ↦
          let q = and_parts (near (G.to k)) (far (G.from k)) a in
          record { u = G.to k; v = G.from k; usable = p.0; ends = inr (refl, refl); near_end = q.0; far_end = q.1 }
    ]

-- ---- one step of growing, or none

pub lightest_can : (G : Ground) (F : Forest) → lightest G F < G.households → can_grow G F (lightest G F) ≡ true
lightest_can G F l = (and_parts _ _ (first_passes (λ r. can_grow G F r && none_lighter G F r) G.households l)).0

pub grown_more : (G : Ground) (i : ℕ) (F : Forest) → lightest G F < G.households → grown G (suc i) F ≡ grown G i (grow G F (lightest G F))
grown_more G i F l = cond-true (ltb (lightest G F) G.households) _ _ (lt-ltb _ _ l)

pub grown_end : (G : Ground) (i : ℕ) (F : Forest) → G.households ≤ lightest G F → grown G i F ≡ F
grown_end G zero F l = refl
grown_end G (suc i) F l = cond-false (ltb (lightest G F) G.households) _ _ (le-ltb _ _ l)

-- ---- planting and growing

-- the roots below n alone are in trees
abbrev pub Sown : Ground → ℕ → Forest → Type 0
Sown G n F = (v : ℕ) → n ≤ v → get_or F.tree v None ≡ None

module _ {G : Ground} (fair : Fair G) where
  -- what planting household v does, where it is a root
  pub plant_joins : (F : Forest) (v : ℕ) → v < G.households → get_or F.tree v None ≡ None → is_root G v ≡ true
      → (u : ℕ) × (G.home u ≡ true) × Joins G F u v v (root_link G v)
  plant_joins F v lt out root =
      let p = and_parts (G.unset v) _ root in
      let k : ℕ = root_link G v in
      let kl : k < G.links = ltb-true _ _ p.1 in
      let led = leads_led G G.home (λ w. eqb w v) k (first_passes (leads G G.home (λ w. eqb w v)) G.links kl) in
      let there : led.v ≡ v = eqb-true _ _ led.far_end in (
        led.u,
        led.near_end,
        record {
          there = lt;
          link = kl;
          ends = elim led.ends [ inl e ↦ inl (e.0, e.1 ∙ there) | inr e ↦ inr (e.0, e.1 ∙ there) ];
          usable = led.usable;
          near = elim (cases_Bool (G.unset led.u)) [
            | inl f ↦ absurd (both_ways _ (fair.apart led.u f) led.near_end)
            | inr f ↦ and_left _ _ f
          ];
          far = and_from _ _ p.0 (ap is_none out);
          root = (lt, root);
        },
      )

  -- what growing tree r does, where it can grow
  pub grow_joins : {F : Forest} (r : ℕ) → Right G F → can_grow G F r ≡ true
      → (u : ℕ) × (get_or F.tree u None ≡ Some r) × Joins G F u (far_end G F (grow_link G F r)) r (grow_link G F r)
  grow_joins {F} r R can =
      let k : ℕ = grow_link G F r in
      let kl : k < G.links = ltb-true _ _ can in
      let led = leads_led G (inside F r) (outside G F) k (first_passes (leads G (inside F r) (outside G F)) G.links kl) in
      let mine : get_or F.tree led.u None ≡ Some r = tree_same _ r led.near_end in
      let near : outside G F led.u ≡ false = in_tree G F led.u r mine in
      let there : far_end G F k ≡ led.v = end k led.u led.v led.ends near led.far_end in (
        led.u,
        mine,
        record {
          there = rw there (end_there k led.u led.v kl led.ends);
          link = kl;
          ends = rw there led.ends;
          usable = led.usable;
          near = near;
          far = rw there led.far_end;
          root = R.rooted led.u r mine;
        },
      )
    where
      end : (k u v : ℕ) → Ends G k u v → outside G F u ≡ false → outside G F v ≡ true → far_end G F k ≡ v
      end k u v (inl e) out far = cond-true (outside G F (G.to k)) _ _ (rw e.1 far) ∙ e.1
      end k u v (inr e) out far = cond-false (outside G F (G.to k)) _ _ (rw e.0 out) ∙ e.1

      end_there : (k u v : ℕ) → k < G.links → Ends G k u v → v < G.households
      end_there k u v l (inl e) = omega (arith, (fair.ends k l).1, e.1)
      end_there k u v l (inr e) = omega (arith, (fair.ends k l).0, e.1)

  -- ---- what holds where there is no tree and is kept by each root holds of all of them

  -- what holds with household v as a root where it is one, and without where it is none
  plant_step : (P : Forest → Type 0) (v : ℕ) (F : Forest) → (is_root G v ≡ true → P (joined F v v (root_link G v))) → (is_root G v ≡ false → P F)
      → P (plant G F v)
  plant_step P v F more same =
      elim (cases_Bool (is_root G v)) [
        | inl root ↦ subst P (sym (cond-true (is_root G v) (joined F v v (root_link G v)) F root)) (more root)
        | inr none ↦ subst P (sym (cond-false (is_root G v) (joined F v v (root_link G v)) F none)) (same none)
      ]

  pub planted_right : (n : ℕ) → n ≤ G.households → Right G (planted G n) × Sown G n (planted G n)
  planted_right zero l = (no_tree_right G, λ v b. same_each {A = Option ℕ} G.households v None)
  planted_right (suc v) l =
      let F : Forest = planted G v in
      let ih = planted_right v (omega arith) in
      plant_step (λ H. Right G H × Sown G (suc v) H) v F
      (λ root.
      let j = (plant_joins F v l (ih.1 v (omega arith)) root).2 in
      (join_right ih.0 j, λ w b. tree_off ih.0 j w (λ e. omega arith) ∙ ih.1 w (omega arith)))
      (λ none. (ih.0, λ w b. ih.1 w (omega arith)))

  pub plant_induct : (P : ℕ → Forest → Type 0) → P 0 (no_tree G)
      → ((v u : ℕ) (F : Forest) → Right G F → is_root G v ≡ true → G.home u ≡ true → Joins G F u v v (root_link G v)
      → P v F → P (suc v) (joined F v v (root_link G v)))
      → ((v : ℕ) (F : Forest) → is_root G v ≡ false → P v F → P (suc v) F)
      → (n : ℕ) → n ≤ G.households → P n (planted G n)
  plant_induct P base more same zero l = base
  plant_induct P base more same (suc v) l =
      let R = planted_right v (omega arith) in
      let F : Forest = planted G v in
      let ih = plant_induct P base more same v (omega arith) in
      plant_step (P (suc v)) v F
      (λ root. let j = plant_joins F v l (R.1 v (omega arith)) root in more v j.0 F R.0 root j.1 j.2 ih)
      (λ none. same v F none ih)

  -- ---- and what each taken link keeps holds of the grown forest

  pub grow_right : {F : Forest} (r : ℕ) → Right G F → can_grow G F r ≡ true → Right G (grow G F r)
  grow_right r R can = join_right R (grow_joins r R can).2

  pub grow_induct : (P : Forest → Type 0)
      → ((F : Forest) (r : ℕ) → Right G F → can_grow G F r ≡ true → P F → P (grow G F r))
      → (i : ℕ) (F : Forest) → Right G F → P F → Right G (grown G i F) × P (grown G i F)
  grow_induct P step zero F R p = (R, p)
  grow_induct P step (suc i) F R p =
      elim (cases_lt (lightest G F) G.households) [
        | inl l ↦
            let can = lightest_can G F l in
            subst (λ H. Right G H × P H) (sym (grown_more G i F l))
            (grow_induct P step i (grow G F (lightest G F)) (grow_right _ R can) (step F _ R can p))
        | inr g ↦ subst (λ H. Right G H × P H) (sym (grown_end G (suc i) F g)) (R, p)
      ]

  pub forest_right : Right G (forest G)
  forest_right =
      (grow_induct (λ F. Unit {0}) (λ F r R can u. tt) G.households (planted G G.households) (planted_right G.households (omega arith)).0 tt).0
