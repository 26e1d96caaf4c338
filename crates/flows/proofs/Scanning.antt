-- One level after another: what holds as the links of a level are taken, and what a search gives. Assumes nothing.
use Rattle.std.proofs.Common.{◌≡◌, ℕ, zero, suc, ◌+◌, ◌<◌, ◌≤◌, Bool, true, false, cond, ◌&&◌, eqb, ltb, List, [], ◌∷◌, length, get_or, Some, None, Option, option_and_then, sym, refl, ap, ◌∙◌, subst, inl, inr, arith}
use lib.ListN.{length-map}
use Rattle.std.proofs.lemmas.Bool.{cases_eq, cases_lt, eq-eqb, ne_eqb, eqb-true, lt-ltb, le-ltb, ltb-true, ltb-false, and_parts, both_ways}
use Rattle.std.proofs.lemmas.Bool.Decides.{nat_tests}
use Rattle.std.specs.Option.{option_map_or}
use Rattle.parish.specs.declared.items.Link.{Link}
use Rattle.flows.specs.declared.items.Arc.{Arc}
use Rattle.flows.specs.declared.items.Mark.{Mark}
use Rattle.flows.specs.Paths.{tail, head, room_of, least_room}
use Rattle.flows.specs.Rounds.{Send, Sends, Shut, Searches}
use Rattle.flows.specs.Levels.{mark_of, level_of, arc_to, level_one, Scan, fresh, goes_on, arc_on, path_before, sent_by, reached_by, by_arc, take_link, take_links, scan_level, search_from, searched, by_levels}
use Rattle.flows.specs.Trees.{Within, Tree, Roomy, Covered, Ready}
use Rattle.flows.proofs.Ends.{head_within}
use Rattle.flows.proofs.Levels.{LeadsOn, arc_some, arc_none, blank, at_most_one, blank_most, blank_none, way_by, way_some, level_at, level_other, firsts_more, tree_more, roomy_more, covered_more, covered_here, blank_more}

-- what holds of a level's links while nothing is sent, up to link k
pub record Idle (ls : List Link) (left : List ℕ) (depth : ℕ) (before room : List ℕ) (marks : List (Option Mark)) (k : ℕ) : Type 0 where
  pub same : room ≡ before
  pub roomy : Roomy ls left room marks
  pub covered : (e : ℕ) → 1 ≤ e → e < depth → (a : Arc) → a.link < length ls → Covered ls left room marks e a
  pub so_far : (a : Arc) → a.link < k → Covered ls left room marks depth a

-- what holds before link k of a level is taken; at most so many households were not reached before the level
pub record Scanning (ls : List Link) (lots left : List ℕ) (depth bound : ℕ) (before : List ℕ) (s : Scan) (k : ℕ) : Type 0 where
  pub tree : Tree ls lots s.marks
  pub firsts : (v : ℕ) → get_or lots v 0 ≡ 1 → level_of s.marks v ≡ 1
  pub no_goal : (v : ℕ) → 1 ≤ level_of s.marks v → get_or lots v 0 ≡ 2 → ⊥
  pub low : (v : ℕ) → level_of s.marks v ≤ depth + cond s.grew 1 0
  pub fewer : blank (length lots) s.marks + cond s.grew 1 0 ≤ bound
  pub list : List Send
  pub sends : Sends ls lots left before list s.sent s.room
  pub idle : s.sent ≡ 0 → Idle ls left depth before s.room s.marks k

module _ (ls : List Link) (lots left : List ℕ) (within : Within (length lots) ls) where
  -- ---- one link
  module _ (depth bound : ℕ) (deep : 1 ≤ depth) (before : List ℕ) (s : Scan) (k : ℕ) (lt : k < length ls) (h : Scanning ls lots left depth bound before s k) where
    -- it leads nowhere
    pass : ((o : Bool) → Covered ls left s.room s.marks depth (record { link = k; onward = o })) → Scanning ls lots left depth bound before s (suc k)
    pass here =
        record {
          tree = h.tree;
          firsts = h.firsts;
          no_goal = h.no_goal;
          low = h.low;
          fewer = h.fewer;
          list = h.list;
          sends = h.sends;
          idle = λ z.
              let i = h.idle z in
              record {
                same = i.same;
                roomy = i.roomy;
                covered = i.covered;
                so_far = λ a below.
                    elim (cases_eq a.link k) [
                      | inl e ↦ subst (λ x. Covered ls left s.room s.marks depth (record { link = x; onward = a.onward })) (sym e) (here a.onward)
                      | inr ne ↦ i.so_far a (omega arith)
                    ];
              };
        }

    module _ (a : Arc) (is : a.link ≡ k) (on : LeadsOn ls left s.room s.marks depth a) where
      there : a.link < length ls
      there = omega arith

      inside : head ls a < length lots
      inside = head_within (length lots) ls a within there

      -- it reaches a household that is not set in B
      reach : (get_or lots (head ls a) 0 ≡ 2 → ⊥) → Scanning ls lots left depth bound before (reached_by ls depth s a) (suc k)
      reach free =
          let at = level_at ls lots left s.room s.marks depth a deep there inside h.tree on in
          let other = level_other ls lots left s.room s.marks depth a deep there inside h.tree on in
          record {
            tree = tree_more ls lots left s.room s.marks depth a deep there inside h.tree on;
            firsts = firsts_more ls lots left s.room s.marks depth a deep there inside h.tree on h.firsts;
            no_goal = λ v some.
                elim (cases_eq v (head ls a)) [
                  | inl e ↦ λ q. free (ap (λ u. get_or lots u 0) (sym e) ∙ q)
                  | inr ne ↦ h.no_goal v (omega (arith, other v ne))
                ];
            low = λ v.
                elim (cases_eq v (head ls a)) [
                  | inl e ↦ let z : level_of (reached_by ls depth s a).marks v ≡ depth + 1 = ap (level_of (reached_by ls depth s a).marks) e ∙ at in omega arith
                  | inr ne ↦ omega (arith, h.low v, other v ne, at_most_one s.grew)
                ];
            fewer = omega (arith, blank_more ls lots left s.room s.marks depth a deep there inside h.tree on, h.fewer);
            list = h.list;
            sends = h.sends;
            idle = λ z.
                let i = h.idle z in
                record {
                  same = i.same;
                  roomy = roomy_more ls lots left s.room s.marks depth a deep there inside h.tree on i.roomy;
                  covered = λ e some less b below.
                      covered_more ls lots left s.room s.marks depth a deep there inside h.tree on e b (omega arith) (i.covered e some less b below);
                  so_far = λ b below.
                      elim (cases_eq b.link a.link) [
                        | inl e ↦
                            subst (λ x. Covered ls left s.room (reached_by ls depth s a).marks depth (record { link = x; onward = b.onward })) (sym e)
                            (covered_here ls lots left s.room s.marks depth a deep there inside h.tree on b.onward)
                        | inr ne ↦
                            covered_more ls lots left s.room s.marks depth a deep there inside h.tree on depth b (omega arith) (i.so_far b (omega arith))
                      ];
                };
          }

      -- it ends a path: something is sent, unless something was before
      send_on : get_or lots (head ls a) 0 ≡ 2 → Scanning ls lots left depth bound before (sent_by ls left depth s a) (suc k)
      send_on goal =
          let p : List Arc = path_before ls s.marks depth a in
          let d : ℕ = least_room left s.room a p in
          record {
            tree = h.tree;
            firsts = h.firsts;
            no_goal = h.no_goal;
            low = h.low;
            fewer = h.fewer;
            list = record { amount = d; path = a ∷ p } ∷ h.list;
            sends = (s.sent, s.room, h.sends, way_by ls lots s.marks h.tree left s.room depth a deep there on goal, refl, refl);
            idle = λ z.
                let some = way_some ls lots s.marks h.tree left s.room depth a deep there on (h.idle (omega arith)).roomy in
                absurd (omega arith);
          }

    pub link_taken : Scanning ls lots left depth bound before (take_link ls lots left depth s k) (suc k)
    link_taken =
        elim (arc_on ls left s.room s.marks depth k)
        as (λ o. arc_on ls left s.room s.marks depth k ≡ o → Scanning ls lots left depth bound before (by_arc ls lots left depth s o) (suc k)) [
          | None ↦ λ e. pass (arc_none ls left s.room s.marks depth deep h.tree.ranked k e)
          | Some a ↦ λ e.
              let found = arc_some ls left s.room s.marks depth k a e in
              elim (eqb (get_or lots (head ls a) 0) 2)
              as (λ t. eqb (get_or lots (head ls a) 0) 2 ≡ t
              → Scanning ls lots left depth bound before (cond t (sent_by ls left depth s a) (reached_by ls depth s a)) (suc k)) [
                | true ↦ λ q. send_on a found.0 found.1 (eqb-true (get_or lots (head ls a) 0) 2 q)
                | false ↦ λ q. reach a found.0 found.1 (λ z. both_ways (eqb (get_or lots (head ls a) 0) 2) q (eq-eqb (get_or lots (head ls a) 0) 2 z))
              ] refl
        ] refl

  -- ---- one level
  pub scanning : (depth : ℕ) (room : List ℕ) (marks : List (Option Mark)) → Ready ls lots left depth room marks → (k : ℕ) → k ≤ length ls
      → Scanning ls lots left depth (blank (length lots) marks) room (take_links ls lots left depth (fresh room marks) k) k
  scanning depth room marks r zero le =
      record {
        tree = r.tree;
        firsts = r.firsts;
        no_goal = r.no_goal;
        low = λ v. omega (arith, r.low v);
        fewer = omega arith;
        list = [];
        sends = (refl, refl);
        idle = λ z. record { same = refl; roomy = r.roomy; covered = r.covered; so_far = λ a below. absurd (omega arith) };
      }
  scanning depth room marks r (suc k) le =
      link_taken depth (blank (length lots) marks) r.deep room (take_links ls lots left depth (fresh room marks) k) k (omega arith)
      (scanning depth room marks r k (omega arith))

  -- at the end of a level on which nothing was sent, the next is ready
  pub next_ready : (depth bound : ℕ) → 1 ≤ depth → (before : List ℕ) (s : Scan) → Scanning ls lots left depth bound before s (length ls) → s.sent ≡ 0
      → Ready ls lots left (depth + 1) s.room s.marks
  next_ready depth bound deep before s h z =
      let i = h.idle z in
      record {
        deep = omega arith;
        tree = h.tree;
        firsts = h.firsts;
        no_goal = h.no_goal;
        low = λ v. omega (arith, h.low v, at_most_one s.grew);
        roomy = i.roomy;
        covered = λ e some lt a there.
            elim (cases_lt e depth) [
              | inl less ↦ i.covered e some less a there
              | inr le ↦ let is : depth ≡ e = omega arith in subst (λ x. Covered ls left s.room s.marks x a) is (i.so_far a there)
            ];
      }

  -- ---- all levels
  -- the reached households are a shut side
  shut_side : (room : List ℕ) (marks : List (Option Mark)) → ((v : ℕ) → get_or lots v 0 ≡ 1 → level_of marks v ≡ 1) → ((v : ℕ) → 1 ≤ level_of marks v → get_or lots v 0 ≡ 2 → ⊥)
      → ((a : Arc) → a.link < length ls → 1 ≤ level_of marks (tail ls a) → 1 ≤ room_of left room a → 1 ≤ level_of marks (head ls a)) → Shut ls lots left room
  shut_side room marks firsts no_goal closed =
      record {
        side = λ v. ltb 0 (level_of marks v);
        has_A = λ v e. lt-ltb 0 (level_of marks v) (omega (arith, firsts v e));
        lacks_B = λ v e. le-ltb 0 (level_of marks v) (elim (cases_lt 0 (level_of marks v)) [ inl some ↦ absurd (no_goal v some e) | inr none ↦ none ]);
        full = λ a there x y. one (level_of marks (tail ls a)) (level_of marks (head ls a)) (room_of left room a) (closed a there) x y;
      }
    where
      one : (x y r : ℕ) → (1 ≤ x → 1 ≤ r → 1 ≤ y) → ltb 0 x ≡ true → ltb 0 y ≡ false → r ≡ 0
      one x y r f p q =
          elim (cases_lt 0 r) [
            | inl some ↦ absurd (omega (arith, f (ltb-true 0 x p) some, ltb-false 0 y q))
            | inr none ↦ omega arith
          ]

  -- what a search gives, for the room before it
  pub record Found (before : List ℕ) (s : Scan) : Type 0 where
    pub list : List Send
    pub sends : Sends ls lots left before list s.sent s.room
    pub ends : s.sent ≡ 0 → Shut ls lots left s.room

  -- a level is scanned: the search goes on to the next, or ends
  module _ (more depth : ℕ) (room : List ℕ) (marks : List (Option Mark)) (r : Ready ls lots left depth room marks) (few : blank (length lots) marks ≤ suc more)
      (s : Scan) (h : Scanning ls lots left depth (blank (length lots) marks) room s (length ls))
      (next : (after : List ℕ) (ms : List (Option Mark)) → Ready ls lots left (depth + 1) after ms → blank (length lots) ms ≤ more
      → Found after (search_from ls lots left more (depth + 1) after ms)) where
    ready_next : s.sent ≡ 0 → Ready ls lots left (depth + 1) s.room s.marks
    ready_next z = next_ready depth (blank (length lots) marks) r.deep room s h z

    found_by : (b : Bool) → goes_on s ≡ b → Found room (elim b [
      | true ↦ search_from ls lots left more (depth + 1) s.room s.marks
      | false ↦ s
    ])
    found_by true e =
        let p = and_parts s.grew (eqb s.sent 0) e in
        let z : s.sent ≡ 0 = eqb-true s.sent 0 p.1 in
        let one : ◌≡◌ {A = ℕ} (cond s.grew 1 0) 1 = ap (λ b. cond b 1 0) p.0 in
        subst (λ x. Found x (search_from ls lots left more (depth + 1) s.room s.marks)) (h.idle z).same
        (next s.room s.marks (ready_next z) (omega (arith, h.fewer)))
    found_by false e =
        record {
          list = h.list;
          sends = h.sends;
          ends = λ z.
              let n = ready_next z in
              let none : ◌≡◌ {A = ℕ} (cond s.grew 1 0) 0 = stuck s.grew s.sent e z in
              shut_side s.room s.marks n.firsts n.no_goal (λ a there some. n.covered (level_of s.marks (tail ls a)) some (omega (arith, h.low (tail ls a))) a there refl);
        }
      where
        stuck : (g : Bool) (d : ℕ) → (g && eqb d 0) ≡ false → d ≡ 0 → ◌≡◌ {A = ℕ} (cond g 1 0) 0
        stuck g d e z = grind (arith, nat_tests)

  pub found_from : (more depth : ℕ) (room : List ℕ) (marks : List (Option Mark)) → Ready ls lots left depth room marks → blank (length lots) marks ≤ more
      → Found room (search_from ls lots left more depth room marks)
  found_from zero depth room marks r few =
      record {
        list = [];
        sends = (refl, refl);
        ends = λ z. shut_side room marks r.firsts r.no_goal
            (λ a there some open'. blank_none (length lots) marks (head ls a) few (head_within (length lots) ls a within there));
      }
  found_from (suc more) depth room marks r few =
      found_by more depth room marks r few (scan_level ls lots left depth room marks) (scanning depth room marks r (length ls) (omega arith))
      (λ after ms ready fewer. found_from more (depth + 1) after ms ready fewer) (goes_on (scan_level ls lots left depth room marks)) refl

  -- ---- from the first level on
  pub first_ready : (room : List ℕ) → Ready ls lots left 1 room (level_one lots)
  first_ready room =
      record {
        deep = omega arith;
        tree = record {
          long = length-map lots (λ x. cond (eqb x 1) (Some (record { level = 1; arc = None })) None);
          first = λ v e. is_one (get_or lots v 0) (sym (first_at lots v) ∙ e);
          ranked = ranked_at lots;
          roots = λ v e. no_arc lots v;
          linked = λ v d e. absurd (omega (arith, first_at lots v, at_most_one (eqb (get_or lots v 0) 1)));
        };
        firsts = λ v e. first_at lots v ∙ ap (λ b. cond b 1 0) (eq-eqb (get_or lots v 0) 1 e);
        no_goal = λ v some e. let z : ◌≡◌ {A = ℕ} (cond (eqb (get_or lots v 0) 1) 1 0) 0 = ap (λ b. cond b 1 0) (ne_eqb (get_or lots v 0) 1 (λ q. omega arith)) in omega (arith, first_at lots v);
        low = λ v. omega (arith, first_at lots v, at_most_one (eqb (get_or lots v 0) 1));
        roomy = λ v d e. absurd (omega (arith, first_at lots v, at_most_one (eqb (get_or lots v 0) 1)));
        covered = λ e some lt a there. absurd (omega arith);
      }
    where
      first_at : (xs : List ℕ) (v : ℕ) → level_of (level_one xs) v ≡ cond (eqb (get_or xs v 0) 1) 1 0
      first_at [] v = refl
      first_at (x ∷ xs) zero = by (eqb x 1)
        where
          by : (b : Bool) → option_map_or (λ (m : Mark). m.level) (cond b (Some (record { level = 1; arc = None })) None) 0 ≡ cond b 1 0
          by true = refl
          by false = refl
      first_at (x ∷ xs) (suc v) = first_at xs v

      ranked_at : (xs : List ℕ) (v : ℕ) (m : Mark) → mark_of (level_one xs) v ≡ Some m → 1 ≤ m.level
      ranked_at [] v m e = absurd cc
      ranked_at (x ∷ xs) zero m e = by (eqb x 1) e
        where
          by : (b : Bool) → cond b (Some (record { level = 1; arc = None })) None ≡ Some m → 1 ≤ m.level
          by true e = let same : ◌≡◌ {A = Mark} (record { level = 1; arc = None }) m = cc in subst (λ (n : Mark). 1 ≤ n.level) same (omega arith)
          by false e = absurd cc
      ranked_at (x ∷ xs) (suc v) m e = ranked_at xs v m e

      no_arc : (xs : List ℕ) (v : ℕ) → arc_to (level_one xs) v ≡ None
      no_arc [] v = refl
      no_arc (x ∷ xs) zero = by (eqb x 1)
        where
          by : (b : Bool) → option_and_then (λ (m : Mark). m.arc) (cond b (Some (record { level = 1; arc = None })) None) ≡ None
          by true = refl
          by false = refl
      no_arc (x ∷ xs) (suc v) = no_arc xs v

      is_one : (x : ℕ) → ◌≡◌ {A = ℕ} (cond (eqb x 1) 1 0) 1 → x ≡ 1
      is_one x h = grind (arith, nat_tests)

  pub found : (room : List ℕ) → Found room (searched ls lots left room)
  found room = found_from (length lots) 1 room (level_one lots) (first_ready room) (blank_most (length lots) (level_one lots))

-- the search level by level owes nothing more
pub by_levels_searches : (ls : List Link) (lots left : List ℕ) → Within (length lots) ls → Searches ls lots left (by_levels ls lots left)
by_levels_searches ls lots left within =
    record {
      sends = λ room ok. ((found ls lots left within room).list, (found ls lots left within room).sends);
      ends = λ room ok z. (found ls lots left within room).ends z;
    }
