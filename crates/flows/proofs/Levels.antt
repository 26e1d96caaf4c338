-- The search level by level sends along ways, and where it sends nothing the reached households are a shut side.
-- Assumes nothing.
use Rattle.std.proofs.Common.{◌≡◌, ℕ, zero, suc, ◌+◌, ◌-◌, ◌<◌, ◌≤◌, Bool, true, false, cond, ◌&&◌, eqb, ltb, List, [], ◌∷◌, length, get_or, set, Some, None, Option, option_and_then, is_none, sym, refl, ap, ◌∙◌, subst, inl, inr, arith, length-set, get_or-set_other, get_or-set_same}
use Rattle.std.specs.List.{AllByRecursion}
use Rattle.std.specs.Option.{option_map_or, IsSomeAnd}
use Rattle.std.proofs.ByRecursion.{All-weaker}
use Rattle.std.proofs.lemmas.Bool.{cases_eq, ne_eqb, eqb-true, ltb-true, and_parts, false≢true, cond_both, eq-eqb}
use Rattle.std.proofs.lemmas.Bool.Decides.{nat_tests}
use Rattle.parish.specs.declared.items.Link.{Link}
use Rattle.flows.specs.declared.items.Arc.{Arc}
use Rattle.flows.specs.declared.items.Mark.{Mark}
use Rattle.bounds.specs.Sums.{sum_below}
use Rattle.bounds.specs.Left.{link_at}
use Rattle.flows.specs.Paths.{tail, head, room_of, least_room, Apart, Leads}
use Rattle.flows.specs.Rounds.{Way}
use Rattle.flows.specs.Levels.{mark_of, level_of, is_at, arc_to, path_back, leads_on, arc_on, path_before}
use Rattle.flows.specs.Trees.{Parent, Tree, Roomy, Covered}
use Rattle.bounds.proofs.Indexed.{sum_below_change, sum_below_has}
use Rattle.flows.proofs.Sending.{least_sendable, least_some}

-- ---- an arc that leads on

pub record LeadsOn (ls : List Link) (left room : List ℕ) (marks : List (Option Mark)) (depth : ℕ) (a : Arc) : Type 0 where
  pub here : level_of marks (tail ls a) ≡ depth
  pub unreached : level_of marks (head ls a) ≡ 0
  pub some : 1 ≤ room_of left room a

-- a mark by its tests
at_level : (o : Option Mark) (d : ℕ) → option_map_or (λ m. eqb m.level d) o false ≡ true → option_map_or (λ m. m.level) o 0 ≡ d
at_level None d e = absurd (false≢true e)
at_level (Some m) d e = eqb-true m.level d e

no_level : (o : Option Mark) → is_none o ≡ true → ◌≡◌ {A = ℕ} (option_map_or (λ m. m.level) o 0) 0
no_level None e = refl
no_level (Some m) e = absurd (false≢true e)

not_fresh : (o u : Option Mark) (r d : ℕ) → 1 ≤ d → ((m : Mark) → u ≡ Some m → 1 ≤ m.level)
    → (option_map_or (λ m. eqb m.level d) o false && (is_none u && ltb 0 r)) ≡ false → option_map_or (λ m. m.level) o 0 ≡ d → 1 ≤ r
    → 1 ≤ option_map_or (λ m. m.level) u 0
not_fresh o (Some n) r d deep ranked e h some = ranked n refl
not_fresh None None r d deep ranked e h some = absurd (omega arith)
not_fresh (Some m) None r d deep ranked e h some = fresh_not m.level e h
  where
    fresh_not : (x : ℕ) → (eqb x d && (true && ltb 0 r)) ≡ false → x ≡ d → 1 ≤ 0
    fresh_not x e h = grind (arith, nat_tests)

module _ (ls : List Link) (left room : List ℕ) (marks : List (Option Mark)) (depth : ℕ) where
  pub on_true : (a : Arc) → leads_on ls left room marks depth a ≡ true → LeadsOn ls left room marks depth a
  on_true a e =
      let p = and_parts (is_at marks depth (tail ls a)) (is_none (mark_of marks (head ls a)) && ltb 0 (room_of left room a)) e in
      let q = and_parts (is_none (mark_of marks (head ls a))) (ltb 0 (room_of left room a)) p.1 in
      record { here = at_level (mark_of marks (tail ls a)) depth p.0; unreached = no_level (mark_of marks (head ls a)) q.0; some = ltb-true 0 (room_of left room a) q.1 }

  on_false : 1 ≤ depth → ((v : ℕ) (m : Mark) → mark_of marks v ≡ Some m → 1 ≤ m.level) → (a : Arc) → leads_on ls left room marks depth a ≡ false
      → Covered ls left room marks depth a
  on_false deep ranked a e h some =
      not_fresh (mark_of marks (tail ls a)) (mark_of marks (head ls a)) (room_of left room a) depth deep (ranked (head ls a)) e h some

  -- what arc_on gives, by its two tests
  by_tests : (s t : Bool) (x y a : Arc) → cond s (Some x) (cond t (Some y) None) ≡ Some a
      → (P : Arc → Type 0) → (s ≡ true → P x) → (t ≡ true → P y) → P a
  by_tests true t x y a e P f g = let same : x ≡ a = cc in subst P same (f refl)
  by_tests false true x y a e P f g = let same : y ≡ a = cc in subst P same (g refl)
  by_tests false false x y a e P f g = absurd cc

  none_tests : (s t : Bool) (x y : Arc) → cond s (Some x) (cond t (Some y) None) ≡ None → (s ≡ false) × (t ≡ false)
  none_tests true t x y e = absurd cc
  none_tests false true x y e = absurd cc
  none_tests false false x y e = (refl, refl)

  -- a link gone one way or the other
  abbrev way : ℕ → Bool → Arc
  way k o = record { link = k; onward = o }

  pub arc_some : (k : ℕ) (a : Arc) → arc_on ls left room marks depth k ≡ Some a → (a.link ≡ k) × LeadsOn ls left room marks depth a
  arc_some k a e =
      by_tests (leads_on ls left room marks depth (way k true)) (leads_on ls left room marks depth (way k false)) (way k true) (way k false) a e
      (λ b. (b.link ≡ k) × LeadsOn ls left room marks depth b) (λ q. (refl, on_true (way k true) q)) (λ q. (refl, on_true (way k false) q))

  module _ (deep : 1 ≤ depth) (ranked : (v : ℕ) (m : Mark) → mark_of marks v ≡ Some m → 1 ≤ m.level) where
    pub arc_none : (k : ℕ) → arc_on ls left room marks depth k ≡ None → (o : Bool) → Covered ls left room marks depth (record { link = k; onward = o })
    arc_none k e o =
        let none = none_tests (leads_on ls left room marks depth (way k true)) (leads_on ls left room marks depth (way k false)) (way k true) (way k false) e in
        on_false deep ranked (way k o) (elim o as (λ x. leads_on ls left room marks depth (way k x) ≡ false) [ true ↦ none.0 | false ↦ none.1 ])

-- one end of a link, and both
one_end : (o : Bool) (x y : ℕ) (P : ℕ → Type 0) → P x → P y → P (cond o x y)
one_end o x y P h g = cond_both o x y P (λ _. h) (λ _. g)

both_ends : (o : Bool) (x y : ℕ) (P : ℕ → Type 0) → P (cond o x y) → P (cond o y x) → P x × P y
both_ends true x y P h g = (h, g)
both_ends false x y P h g = (g, h)

-- the arc by which a household was reached, from the level before
pub record Step (ls : List Link) (marks : List (Option Mark)) (v d : ℕ) : Type 0 where
  pub arc : Arc
  pub is : arc_to marks v ≡ Some arc
  pub there : arc.link < length ls
  pub heads : head ls arc ≡ v
  pub above : level_of marks (tail ls arc) ≡ suc d

pub step_to : {ls : List Link} {lots : List ℕ} {marks : List (Option Mark)} → Tree ls lots marks → (v d : ℕ) → level_of marks v ≡ suc (suc d) → Step ls marks v d
step_to {ls} {lots} {marks} t v d e = by (arc_to marks v) refl (t.linked v d e)
  where
    by : (o : Option Arc) → arc_to marks v ≡ o → IsSomeAnd o (Parent ls marks v d) → Step ls marks v d
    by None is h = absurd h
    by (Some a) is h = record { arc = a; is = is; there = h.there; heads = h.heads; above = h.above }

linked_by : {ls : List Link} {marks : List (Option Mark)} {v d : ℕ} → Step ls marks v d → IsSomeAnd (arc_to marks v) (Parent ls marks v d)
linked_by {ls} {marks} {v} {d} p =
    let parent : Parent ls marks v d p.arc = record { there = p.there; heads = p.heads; above = p.above } in
    subst (λ (o : Option Arc). IsSomeAnd o (Parent ls marks v d)) (sym p.is) parent

-- where no household is reached, the marks are a tree
pub tree_none : (ls : List Link) (lots : List ℕ) (marks : List (Option Mark)) → length marks ≡ length lots → ((v : ℕ) → mark_of marks v ≡ None)
    → Tree ls lots marks
tree_none ls lots marks long none =
    record {
      long = long;
      first = λ v e. absurd (omega (arith, zero_at v));
      ranked = λ v m e. absurd (let z = sym (none v) ∙ e in cc);
      roots = λ v e. ap (λ (o : Option Mark). option_and_then (λ m. m.arc) o) (none v);
      linked = λ v d e. absurd (omega (arith, zero_at v));
    }
  where
    zero_at : (v : ℕ) → level_of marks v ≡ 0
    zero_at v = ap (λ (o : Option Mark). option_map_or (λ m. m.level) o 0) (none v)

-- ---- how many households are not reached

abbrev pub blank : ℕ → List (Option Mark) → ℕ
blank n marks = sum_below n (λ v. cond (eqb (level_of marks v) 0) 1 0)

pub at_most_one : (b : Bool) → cond b 1 0 ≤ 1
at_most_one true = omega arith
at_most_one false = omega arith

pub blank_most : (n : ℕ) (marks : List (Option Mark)) → blank n marks ≤ n
blank_most zero marks = omega arith
blank_most (suc n) marks = omega (arith, blank_most n marks, at_most_one (eqb (level_of marks n) 0))

pub blank_none : (n : ℕ) (marks : List (Option Mark)) (v : ℕ) → blank n marks ≤ 0 → v < n → 1 ≤ level_of marks v
blank_none n marks v z lt =
    let le : cond (eqb (level_of marks v) 0) 1 0 ≤ 0 = omega (arith, sum_below_has n v (λ u. cond (eqb (level_of marks u) 0) 1 0) lt) in
    some (level_of marks v) le
  where
    some : (x : ℕ) → cond (eqb x 0) 1 0 ≤ 0 → 1 ≤ x
    some x h = grind (arith, nat_tests)

-- ---- the tree of arcs

-- a household is reached, at a level up to n
abbrev Low : List (Option Mark) → ℕ → ℕ → Type 0
Low marks n v = (1 ≤ level_of marks v) × (level_of marks v ≤ n)

-- and so are both ends of an arc
abbrev LowArc : List Link → List (Option Mark) → ℕ → Arc → Type 0
LowArc ls marks n a = Low marks n (link_at ls a.link).from × Low marks n (link_at ls a.link).to

-- the way back to A
pub record Back (ls : List Link) (lots : List ℕ) (marks : List (Option Mark)) (v d : ℕ) (p : List Arc) : Type 0 where
  pub start : ℕ
  pub from_A : get_or lots start 0 ≡ 1
  pub leads : Leads ls p start v
  pub apart : Apart p
  pub there : AllByRecursion (λ a. a.link < length ls) p
  pub low : AllByRecursion (LowArc ls marks (suc d)) p

-- an arc one of whose ends is not so low has another link than those of a path
apart_from : (ls : List Link) (marks : List (Option Mark)) (n : ℕ) (a : Arc) (p : List Arc) → (Low marks n (head ls a) → ⊥)
    → AllByRecursion (LowArc ls marks n) p → AllByRecursion (λ b. a.link ≡ b.link → ⊥) p
apart_from ls marks n a p high low =
    All-weaker (LowArc ls marks n) (λ b. a.link ≡ b.link → ⊥)
    (λ b h e.
    let g : LowArc ls marks n (record { link = a.link; onward = true }) = subst (λ k. LowArc ls marks n (record { link = k; onward = true })) (sym e) h in
    high (one_end a.onward (link_at ls a.link).to (link_at ls a.link).from (Low marks n) g.1 g.0))
    p low

-- one arc of the path back, and the rest; or no arc
pub path_more : (ls : List Link) (marks : List (Option Mark)) (n v : ℕ) (a : Arc) → arc_to marks v ≡ Some a
    → path_back ls marks (suc n) v ≡ a ∷ path_back ls marks n (tail ls a)
path_more ls marks n v a e =
    ap (λ (o : Option Arc). elim o [
      | None ↦ []
      | Some b ↦ b ∷ path_back ls marks n (tail ls b)
    ]) e

module _ (ls : List Link) (lots : List ℕ) (marks : List (Option Mark)) (t : Tree ls lots marks) where
  pub back_to : (d v : ℕ) → level_of marks v ≡ suc d → Back ls lots marks v d (path_back ls marks d v)
  back_to zero v e = record { start = v; from_A = t.first v e; leads = refl; apart = tt; there = tt; low = tt }
  back_to (suc d) v e =
      let p : Step ls marks v d = step_to t v d e in
      let rest : List Arc = path_back ls marks d (tail ls p.arc) in
      let b : Back ls lots marks (tail ls p.arc) d (path_back ls marks d (tail ls p.arc)) = back_to d (tail ls p.arc) p.above in
      let top : level_of marks (head ls p.arc) ≡ suc (suc d) = ap (level_of marks) p.heads ∙ e in
      subst (Back ls lots marks v (suc d)) (sym (path_more ls marks d v p.arc p.is))
      (record {
        start = b.start;
        from_A = b.from_A;
        leads = (p.heads, b.leads);
        apart = (apart_from ls marks (suc d) p.arc rest (λ h. omega arith) b.low, b.apart);
        there = (p.there, b.there);
        low = (
          both_ends p.arc.onward (link_at ls p.arc.link).from (link_at ls p.arc.link).to (Low marks (suc (suc d)))
              (omega (arith, p.above), omega (arith, p.above)) (omega arith, omega arith),
          All-weaker (LowArc ls marks (suc d)) (LowArc ls marks (suc (suc d)))
              (λ c h. ((h.0.0, omega arith), (h.1.0, omega arith))) rest b.low,
        );
      })

  pub back_roomy : (left room : List ℕ) → Roomy ls left room marks → (d v : ℕ) → level_of marks v ≡ suc d
      → AllByRecursion (λ a. 1 ≤ room_of left room a) (path_back ls marks d v)
  back_roomy left room r zero v e = tt
  back_roomy left room r (suc d) v e =
      let p : Step ls marks v d = step_to t v d e in
      subst (AllByRecursion (λ a. 1 ≤ room_of left room a)) (sym (path_more ls marks d v p.arc p.is))
      (r v d e p.arc p.is, back_roomy left room r d (tail ls p.arc) p.above)

  -- an arc from a level to B ends a way
  module _ (left room : List ℕ) (depth : ℕ) (a : Arc) (deep : 1 ≤ depth) (there : a.link < length ls) (on : LeadsOn ls left room marks depth a) where
    deep_is : level_of marks (tail ls a) ≡ suc (depth - 1)
    deep_is = omega (arith, on.here)

    pub way_by : get_or lots (head ls a) 0 ≡ 2 → Way ls lots left room (least_room left room a (path_before ls marks depth a)) (a ∷ path_before ls marks depth a)
    way_by goal =
        let b : Back ls lots marks (tail ls a) (depth - 1) (path_before ls marks depth a) = back_to (depth - 1) (tail ls a) deep_is in
        record {
          start = b.start;
          goal = head ls a;
          from_A = b.from_A;
          to_B = goal;
          leads = (refl, b.leads);
          clear = record {
            apart = (apart_from ls marks (suc (depth - 1)) a (path_before ls marks depth a) (λ h. omega (arith, on.unreached)) b.low, b.apart);
            there = (there, b.there);
            roomy = least_sendable left room a (path_before ls marks depth a);
          };
        }

    pub way_some : Roomy ls left room marks → 1 ≤ least_room left room a (path_before ls marks depth a)
    way_some r = least_some left room (path_before ls marks depth a) (room_of left room a) on.some (back_roomy left room r (depth - 1) (tail ls a) deep_is)

-- ---- one household more

module _ (ls : List Link) (lots left room : List ℕ) (marks : List (Option Mark)) (depth : ℕ) (a : Arc) (deep : 1 ≤ depth) (there : a.link < length ls)
    (inside : head ls a < length lots) (t : Tree ls lots marks) (on : LeadsOn ls left room marks depth a) where
  abbrev new_mark : Mark
  new_mark = record { level = depth + 1; arc = Some a }

  abbrev pub marked : List (Option Mark)
  marked = set marks (head ls a) (Some new_mark)

  mark_at : mark_of marked (head ls a) ≡ Some new_mark
  mark_at = get_or-set_same marks (head ls a) (Some new_mark) None (omega (arith, t.long))

  mark_other : (v : ℕ) → (v ≡ head ls a → ⊥) → mark_of marked v ≡ mark_of marks v
  mark_other v ne = get_or-set_other marks (head ls a) v (Some new_mark) None ne

  pub level_at : level_of marked (head ls a) ≡ depth + 1
  level_at = ap (λ (o : Option Mark). option_map_or (λ m. m.level) o 0) mark_at

  pub level_other : (v : ℕ) → (v ≡ head ls a → ⊥) → level_of marked v ≡ level_of marks v
  level_other v ne = ap (λ (o : Option Mark). option_map_or (λ m. m.level) o 0) (mark_other v ne)

  -- what was reached stays as it was
  level_kept : (v : ℕ) → 1 ≤ level_of marks v → level_of marked v ≡ level_of marks v
  level_kept v some = level_other v (λ e. let z : level_of marks v ≡ level_of marks (head ls a) = ap (level_of marks) e in omega (arith, on.unreached))

  pub firsts_more : ((v : ℕ) → get_or lots v 0 ≡ 1 → level_of marks v ≡ 1) → (v : ℕ) → get_or lots v 0 ≡ 1 → level_of marked v ≡ 1
  firsts_more firsts v e = level_kept v (omega (arith, firsts v e)) ∙ firsts v e

  -- a level up to this one is an old one
  old_level : (v e : ℕ) → level_of marked v ≡ e → e ≤ depth → level_of marks v ≡ e
  old_level v e h le =
      elim (cases_eq v (head ls a)) [
        | inl q ↦ let z : level_of marked v ≡ depth + 1 = ap (level_of marked) q ∙ level_at in absurd (omega arith)
        | inr ne ↦ sym (level_other v ne) ∙ h
      ]

  -- the new arc is the one that a path back reads
  arc_at : arc_to marked (head ls a) ≡ Some a
  arc_at = ap (λ (o : Option Mark). option_and_then (λ m. m.arc) o) mark_at

  arc_other : (v : ℕ) → (v ≡ head ls a → ⊥) → arc_to marks v ≡ arc_to marked v
  arc_other v ne = ap (λ (o : Option Mark). option_and_then (λ m. m.arc) o) (sym (mark_other v ne))

  ranked_more : (v : ℕ) (m : Mark) → mark_of marked v ≡ Some m → 1 ≤ m.level
  ranked_more v m is =
      let level : level_of marked v ≡ m.level = ap (λ (o : Option Mark). option_map_or (λ n. n.level) o 0) is in
      elim (cases_eq v (head ls a)) [
        | inl q ↦ let z : level_of marked v ≡ depth + 1 = ap (level_of marked) q ∙ level_at in omega arith
        | inr ne ↦ t.ranked v m (sym (mark_other v ne) ∙ is)
      ]

  pub tree_more : Tree ls lots marked
  tree_more =
      record {
        long = length-set marks (head ls a) (Some new_mark) ∙ t.long;
        first = λ v e. t.first v (old_level v 1 e deep);
        ranked = ranked_more;
        roots = λ v e.
            elim (cases_eq v (head ls a)) [
              | inl q ↦ let z : level_of marked v ≡ depth + 1 = ap (level_of marked) q ∙ level_at in absurd (omega arith)
              | inr ne ↦ sym (arc_other v ne) ∙ t.roots v (omega (arith, level_other v ne))
            ];
        linked = λ v d e. linked_by
            (elim (cases_eq v (head ls a)) [
              | inl q ↦
                  let same : depth ≡ suc d = omega (arith, sym (ap (level_of marked) q ∙ level_at) ∙ e) in
                  subst (λ u. Step ls marked u d) (sym q)
                  (record { arc = a; is = arc_at; there = there; heads = refl; above = level_kept (tail ls a) (omega (arith, on.here)) ∙ on.here ∙ same })
              | inr ne ↦
                  let p : Step ls marks v d = step_to t v d (sym (level_other v ne) ∙ e) in
                  record {
                    arc = p.arc;
                    is = sym (arc_other v ne) ∙ p.is;
                    there = p.there;
                    heads = p.heads;
                    above = level_kept (tail ls p.arc) (omega (arith, p.above)) ∙ p.above;
                  }
            ]);
      }

  pub roomy_more : Roomy ls left room marks → Roomy ls left room marked
  roomy_more r v d e b is =
      elim (cases_eq v (head ls a)) [
        | inl q ↦
            let found : ◌≡◌ {A = Option Arc} (Some a) (Some b) = sym arc_at ∙ ap (arc_to marked) (sym q) ∙ is in
            let same : a ≡ b = cc in
            subst (λ x. 1 ≤ room_of left room x) same on.some
        | inr ne ↦ r v d (sym (level_other v ne) ∙ e) b (arc_other v ne ∙ is)
      ]

  pub covered_more : (e : ℕ) (b : Arc) → e ≤ depth → Covered ls left room marks e b → Covered ls left room marked e b
  covered_more e b le c h some =
      let old : 1 ≤ level_of marks (head ls b) = c (old_level (tail ls b) e h le) some in
      omega (arith, level_kept (head ls b) old)

  -- both arcs of the link are covered now: one leads to the household, the other comes from it
  pub covered_here : (o : Bool) → Covered ls left room marked depth (record { link = a.link; onward = o })
  covered_here o = by a.onward o level_at
    where
      by : (x y : Bool) → level_of marked (cond x (link_at ls a.link).to (link_at ls a.link).from) ≡ depth + 1
          → level_of marked (cond y (link_at ls a.link).from (link_at ls a.link).to) ≡ depth
          → 1 ≤ room_of left room (record { link = a.link; onward = y })
          → 1 ≤ level_of marked (cond y (link_at ls a.link).to (link_at ls a.link).from)
      by true true e h some = omega arith
      by false false e h some = omega arith
      by true false e h some = absurd (omega arith)
      by false true e h some = absurd (omega arith)

  pub blank_more : blank (length lots) marked + 1 ≡ blank (length lots) marks
  blank_more =
      let n : ℕ = length lots in
      let e = sum_below_change n (head ls a) (λ u. cond (eqb (level_of marked u) 0) 1 0) (λ u. cond (eqb (level_of marks u) 0) 1 0) inside
      (λ u ne. ap (λ x. cond (eqb x 0) 1 0) (level_other u ne)) in
      let x : ◌≡◌ {A = ℕ} (cond (eqb (level_of marked (head ls a)) 0) 1 0) 0 = ap (λ b. cond b 1 0) (ne_eqb (level_of marked (head ls a)) 0 (λ q. omega (arith, level_at))) in
      let y : ◌≡◌ {A = ℕ} (cond (eqb (level_of marks (head ls a)) 0) 1 0) 1 = ap (λ b. cond b 1 0) (eq-eqb (level_of marks (head ls a)) 0 on.unreached) in
      omega arith
