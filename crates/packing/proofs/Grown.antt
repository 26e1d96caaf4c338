-- Growing tree by tree: one link taken, one tree closed, none left. Assumes nothing.
use Rattle.std.proofs.Common.{◌≡◌, ℕ, suc, ◌+◌, ◌-◌, ◌<◌, ◌≤◌, true, false, cond, ◌&&◌, ◌⊎◌, Some, None, Option, List, length, take, set, sym, refl, ap, ◌∙◌, subst, ap₂, inl, inr, arith}
use Rattle.std.proofs.lemmas.List.{get_or-take, length-take}
use Rattle.std.proofs.lemmas.Bool.{cases_eq, cases_Bool, lt-ltb, le-ltb, both_ways}
use Rattle.forest.specs.Searches.{count_below}
use Rattle.forest.specs.Grounds.{Ground, leads}
use Rattle.forest.specs.Forests.{Forest, is_root, joined, planted, inside, outside, grow_link, can_grow, far_end, lightest, grow, grown, forest, tree_weight}
use Rattle.forest.proofs.Sums.{sum_rise, count_most}
use Rattle.forest.proofs.Firsts.{first_is, first_none}
use Rattle.forest.proofs.Trees.{Right, was_out, grow_joins, grow_right, grown_more, grown_end, planted_right}
use Rattle.forest.proofs.Ending.{lightest_is, none_lightest, fewer_outside}
use Rattle.forest.proofs.Weighing.{join_weighed, stays_closed}
use Rattle.packing.specs.declared.question.Question.{Question}
use Rattle.packing.specs.declared.growth.Growth.{Growth}
use Rattle.packing.specs.declared.growth.Tree.{Tree}
use Rattle.packing.specs.Grounded.{ground_of}
use Rattle.packing.specs.Stands.{forest_of, bare, held_weight, is_live, Weighs, Joins, Sown, Whole}
use Rattle.packing.specs.Growing.{Lightest, LightestBelow}
use Rattle.packing.proofs.Questions.{fair}
use Rattle.packing.proofs.Planted.{weight_at, weight_others, live_at, live_others}

-- the lightest of the first n trees
lightest_of : (trees : List Tree) (n : ℕ) (r : Option ℕ) → n ≤ length trees → Lightest (take n trees) (length (take n trees)) r → Lightest trees n r
lightest_of trees n None few h = λ q l. ap (λ (x : Tree). x.live) (sym (get_or-take n trees q bare l)) ∙ h q (omega (arith, length-take n trees))
lightest_of trees n (Some t) few h =
    let there : t < n = omega (arith, h.there, length-take n trees) in
    let lives : (q : ℕ) → q < n → is_live (take n trees) q ≡ is_live trees q = λ q l. ap (λ (x : Tree). x.live) (get_or-take n trees q bare l) in
    let weighs : (q : ℕ) → q < n → held_weight (take n trees) q ≡ held_weight trees q = λ q l. ap (λ (x : Tree). x.weight) (get_or-take n trees q bare l) in
    record {
      there = there;
      lives = sym (lives t there) ∙ h.lives;
      least = λ q l on. elim (h.least q (omega (arith, length-take n trees)) (lives q l ∙ on)) [
        | inl less ↦ inl (omega (arith, weighs t there, weighs q l))
        | inr e ↦ inr (omega (arith, e.0, weighs t there, weighs q l), e.1)
      ];
    }

-- and so of the trees of a question
pub lightest_at : (g : Growth) (q : Question) (r : Option ℕ) → g.question ≡ q
    → Lightest (take (ground_of q).households g.trees) (length (take (ground_of q).households g.trees)) r
    → Lightest g.trees (ground_of g.question).households r
lightest_at g q r e h =
    subst (λ n. Lightest g.trees n r) (ap (λ (x : Question). (ground_of x).households) (sym e))
    (lightest_of g.trees (ground_of q).households r (omega (arith, g.long, q.few)) h)

-- on the way from the roots to the whole forest: what is still to grow is counted, and a tree that is not live cannot grow
pub record Growing (G : Ground) (F : Forest) (trees : List Tree) : Type 0 where
  pub right : Right G F
  pub rounds : ℕ
  pub enough : count_below (outside G F) G.households ≤ rounds
  pub ends : grown G rounds F ≡ forest G
  pub closed : (r : ℕ) → r < G.households → is_live trees r ≡ false → can_grow G F r ≡ false
  pub weighs : Weighs G F trees

-- so it stands with what the program holds
abbrev pub Stands : Growth → Type 0
Stands g = Growing (ground_of g.question) (forest_of g) g.trees

-- how many households are outside, and how many trees are live
abbrev pub left_out : Growth → ℕ
left_out g = count_below (outside (ground_of g.question) (forest_of g)) (ground_of g.question).households

abbrev pub alive : ℕ → List Tree → ℕ
alive n trees = count_below (is_live trees) n

-- ---- the lightest live tree takes its lowest link
module _ (g : Growth) (S : Stands g) (r : ℕ) (best : LightestBelow g.trees (ground_of g.question).households r) where
  abbrev G : Ground
  G = ground_of g.question

  abbrev F : Forest
  F = forest_of g

  live_where : (q : ℕ) → q < G.households → can_grow G F q ≡ true → is_live g.trees q ≡ true
  live_where q b can =
      elim (cases_Bool (is_live g.trees q)) [
        | inl on ↦ on
        | inr off ↦ absurd (both_ways _ (S.closed q b off) can)
      ]

  lighter : (q : ℕ) → q < G.households → can_grow G F q ≡ true
      → (tree_weight G F r < tree_weight G F q) ⊎ ((tree_weight G F r ≡ tree_weight G F q) × (r ≤ q))
  lighter q b can =
      elim (best.least q b (live_where q b can)) [
        | inl less ↦ inl (omega (arith, S.weighs r best.there, S.weighs q b))
        | inr e ↦ inr (omega (arith, e.0, S.weighs r best.there, S.weighs q b), e.1)
      ]

  module _ (k v : ℕ) (h : Growth) (there : k < G.links) (out : leads G (inside F r) (outside G F) k ≡ true)
      (none : (j : ℕ) → j < k → leads G (inside F r) (outside G F) j ≡ false) (far : v ≡ far_end G F k) (joins : Joins v r k g h) where
    link_is : grow_link G F r ≡ k
    link_is = first_is (leads G (inside F r) (outside G F)) G.links k there out none

    can : can_grow G F r ≡ true
    can = lt-ltb _ _ (omega (arith, link_is))

    same : forest_of h ≡ grow G F r
    same = joins.is ∙ ap₂ (λ x y. joined F x r y) (far ∙ ap (far_end G F) (sym link_is)) (sym link_is)

    fewer : count_below (outside G (grow G F r)) G.households + 1 ≤ left_out g
    fewer = fewer_outside (fair g.question) S.right r can

    pub takes_fewer : left_out h < left_out g
    takes_fewer =
        let e : left_out h ≡ count_below (outside G (grow G F r)) G.households =
        ap₂ (λ q H. count_below (outside (ground_of q) H) (ground_of q).households) joins.question same in
        omega (arith, fewer)

    room : r < length g.trees
    room = omega (arith, best.there, g.long, g.question.few)

    abbrev more : Tree
    more = record { weight = held_weight g.trees r + G.weight v; live = true }

    still_live : (q : ℕ) → is_live (set g.trees r more) q ≡ false → (q ≡ r → ⊥) × (is_live g.trees q ≡ false)
    still_live q dead =
        elim (cases_eq q r) [
          | inl e ↦ absurd (both_ways _ dead (ap (is_live (set g.trees r more)) e ∙ live_at g.trees r more room))
          | inr ne ↦ (ne, sym (live_others g.trees r more q ne) ∙ dead)
        ]

    grows_on : Growing G (grow G F r) (set g.trees r more)
    grows_on =
        let one : lightest G F ≡ r = lightest_is (fair g.question) S.right r can lighter in
        let step : grown G (suc (S.rounds - 1)) F ≡ grown G (S.rounds - 1) (grow G F r) =
        grown_more G (S.rounds - 1) F (omega (arith, one, best.there)) ∙ ap (λ x. grown G (S.rounds - 1) (grow G F x)) one in
        let some : S.rounds ≡ suc (S.rounds - 1) = omega (arith, S.enough, fewer) in
        let j = grow_joins (fair g.question) r S.right can in
        record {
          right = grow_right (fair g.question) r S.right can;
          rounds = S.rounds - 1;
          enough = omega (arith, S.enough, fewer);
          ends = sym step ∙ ap (λ x. grown G x F) (sym some) ∙ S.ends;
          closed = λ q b dead. let was = still_live q dead in stays_closed S.right j.2 q was.0 (S.closed q b was.1);
          weighs =
              join_weighed G F (far_end G F (grow_link G F r)) r (grow_link G F r) S.right.long j.2.there (was_out S.right j.2) best.there
              (held_weight g.trees) (held_weight (set g.trees r more)) S.weighs
              (weight_at g.trees r more room ∙ ap (λ x. held_weight g.trees r + G.weight x) (far ∙ ap (far_end G F) (sym link_is)))
              (weight_others g.trees r more);
        }

    pub takes : Stands h
    takes =
        subst (λ q. Growing (ground_of q) (forest_of h) h.trees) (sym joins.question)
        (subst (λ H. Growing G H h.trees) (sym same) (subst (Growing G (grow G F r)) (sym joins.trees) grows_on))

-- ---- no link leads from tree r: it is closed

-- a tree that lived lives no more
pub fewer_live : (n : ℕ) (trees : List Tree) (r : ℕ) (t : Tree) → r < n → r < length trees → t.live ≡ false → is_live trees r ≡ true
    → alive n (set trees r t) < alive n trees
fewer_live n trees r t there place off on =
    let fall = sum_rise n r 1 (λ q. cond (is_live (set trees r t) q) 1 0) (λ q. cond (is_live trees q) 1 0) there
    (λ q b ne. omega (arith, ap {B = ℕ} (λ x. cond x 1 0) (live_others trees r t q ne)))
    (omega (arith, ap {B = ℕ} (λ x. cond x 1 0) (live_at trees r t place ∙ off), ap {B = ℕ} (λ x. cond x 1 0) on)) in
    omega (arith, fall)

module _ (g : Growth) (S : Stands g) (r : ℕ) (there : r < (ground_of g.question).households)
    (none : (j : ℕ) → j < (ground_of g.question).links → leads (ground_of g.question) (inside (forest_of g) r) (outside (ground_of g.question) (forest_of g)) j ≡ false) where
  abbrev closed_tree : Tree
  closed_tree = record { weight = held_weight g.trees r; live = false }

  place : r < length g.trees
  place = omega (arith, g.long, g.question.few)

  pub closes : Growing (ground_of g.question) (forest_of g) (set g.trees r closed_tree)
  closes =
      record {
        right = S.right;
        rounds = S.rounds;
        enough = S.enough;
        ends = S.ends;
        closed = λ q b dead. elim (cases_eq q r) [
          | inl e ↦ ap (can_grow (ground_of g.question) (forest_of g)) e ∙ le-ltb _ _ (omega (arith, first_none _ (ground_of g.question).links none))
          | inr ne ↦ S.closed q b (sym (live_others g.trees r closed_tree q ne) ∙ dead)
        ];
        weighs = λ q b. elim (cases_eq q r) [
          | inl e ↦ ap (held_weight (set g.trees r closed_tree)) e ∙ weight_at g.trees r closed_tree place ∙ sym (ap (held_weight g.trees) e) ∙ S.weighs q b
          | inr ne ↦ weight_others g.trees r closed_tree q ne ∙ S.weighs q b
        ];
      }

  pub fewer_alive : is_live g.trees r ≡ true → (m : ℕ) → alive (ground_of g.question).households g.trees ≡ m
      → alive (ground_of g.question).households (set g.trees r closed_tree) < m
  fewer_alive on m all = omega (arith, fewer_live (ground_of g.question).households g.trees r closed_tree there place refl on)

-- ---- no tree is live: the forest is whole
pub grown_whole : (g : Growth) → Stands g → ((q : ℕ) → q < (ground_of g.question).households → is_live g.trees q ≡ false) → Whole (ground_of g.question) g
grown_whole g S none =
    let G = ground_of g.question in
    let is : forest_of g ≡ forest (ground_of g.question) =
    sym (grown_end G S.rounds (forest_of g) (none_lightest (fair g.question) S.right (λ r b. S.closed r b (none r b)))) ∙ S.ends in
    record { is = is; weighs = λ r b. S.weighs r b ∙ ap (λ F. tree_weight (ground_of g.question) F r) is }

-- ---- the roots are where growing starts
pub growing_start : (g : Growth) (roots : ℕ) → Sown (ground_of g.question) (ground_of g.question).households g roots → Stands g
growing_start g roots S =
    let G = ground_of g.question in
    let R = (planted_right (fair g.question) G.households (omega arith)).0 in
    subst (λ F. Growing (ground_of g.question) F g.trees) (sym S.is) (record {
      right = R;
      rounds = G.households;
      enough = count_most (outside G (planted G G.households)) G.households;
      ends = refl;
      closed = λ r b dead. elim (cases_Bool (can_grow G (planted G G.households) r)) [
        | inr fail ↦ fail
        | inl can ↦
            let root = (grow_joins (fair g.question) r R can).2.root.1 in
            absurd (both_ways _ (sym (S.lives r b ∙ ap (λ x. x && is_root (ground_of g.question) r) (lt-ltb r _ b)) ∙ dead) root)
      ];
      weighs = S.weighs;
    })
