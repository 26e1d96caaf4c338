-- A walk that prunes by the best leaf it has itself seen takes exactly the standing nodes, and ends with the answer.
-- Assumes nothing.
use Rattle.std.proofs.Common.{◌≡◌, ℕ, zero, suc, ◌+◌, ◌<◌, ◌≤◌, Bool, true, false, cond, not, ◌&&◌, ◌||◌, ltb, leb, ◌⊎◌, List, [], ◌∷◌, ◌++◌, map, length, Some, Option, sym, refl, ap, ◌∙◌, subst, ap₂, inl, inr, append_assoc, append-nil, map-id, arith, length-append}
use mathlib.Core.List.{map-map}
use Rattle.std.proofs.Math.Path.{fun_ext}
use Rattle.std.proofs.lemmas.List.{map-append}
use Rattle.std.proofs.lemmas.Bool.{or_left, not_from_false, lt-ltb, le-ltb, cases_lt}
use Rattle.parish.specs.Model.{Model, Sound}
use Rattle.parish.specs.declared.items.Lot.{Lot}
use Rattle.parish.specs.declared.items.Lot.TheVariants.{A, B}
use Rattle.bisection.specs.Lots.{pins}
use Rattle.bisection.specs.Weights.{balanced}
use Rattle.bisection.specs.Costs.{cost}
use Rattle.bisection.specs.Meanings.{Number}
use Rattle.bounds.specs.Bounds.{Lower}
use Rattle.search.specs.Nodes.{free, lots_of, incumbent, closed}
use Rattle.search.specs.Walking.{Walked, to_beat, better, prunes, walk_from, pruned_walk}
use Rattle.search.specs.Words.{PrunedSearchLaw}
use Rattle.search.proofs.Order.{on, on_last_A, on_last_B}
use Rattle.search.proofs.Walk.{walk, walked}
use Rattle.search.proofs.Leading.{leader, leader_upto, leader_worth, leaf_better, leaf_same, leader_down, no_leader_first, leader_closed}

-- a walk from a node takes what stands at and below it, and ends with the leader before the next node
pub record Right (number : Number) (m : Model) (limit ceiling k : ℕ) (n : List Lot) (w : Walked) : Type 0 where
  pub takes : w.taken ≡ map (λ e. n ++ e) (walk (λ e. closed number m limit ceiling (n ++ e)) k)
  pub ends : w.best ≡ leader_upto m limit ceiling (on n)

module _ (number : Number) (m : Model) (limit ceiling : ℕ) (sound : Sound m) (law : Lower number) where
  -- what a leaf is worth: light, and cheaper than the incumbent
  abbrev chosen : List Lot → Bool → Bool → Option (List ℕ)
  chosen n light cheap = cond (light && cheap) (Some (lots_of m n)) (leader m limit ceiling n)

  at_leaf : (n : List Lot) → length n ≡ free (pins m)
      → better number m limit ceiling (lots_of m n) (leader m limit ceiling n) ≡ leader_upto m limit ceiling (on n)
  at_leaf n leaf = by (balanced m limit (lots_of m n)) refl (cases_lt (cost m (lots_of m n)) (incumbent m limit ceiling n))
    where
      worth : ltb (cost m (lots_of m n)) (to_beat number m limit ceiling (leader m limit ceiling n)) ≡ ltb (cost m (lots_of m n)) (incumbent m limit ceiling n)
      worth = ap (ltb (cost m (lots_of m n))) (leader_worth number m limit ceiling n)

      by : (b : Bool) → balanced m limit (lots_of m n) ≡ b
          → ((cost m (lots_of m n) < incumbent m limit ceiling n) ⊎ (incumbent m limit ceiling n ≤ cost m (lots_of m n)))
          → better number m limit ceiling (lots_of m n) (leader m limit ceiling n) ≡ leader_upto m limit ceiling (on n)
      by false e c =
          ap (λ b. chosen n b (ltb (cost m (lots_of m n)) (to_beat number m limit ceiling (leader m limit ceiling n)))) e
          ∙ sym (leader_closed number m limit ceiling sound law n (omega arith) (or_left _ _ (not_from_false _ e)))
      by true e (inl lt) = ap₂ (chosen n) e (worth ∙ lt-ltb _ _ lt) ∙ sym (leaf_better m limit ceiling n leaf e lt)
      by true e (inr le) = ap₂ (chosen n) e (worth ∙ le-ltb _ _ le) ∙ sym (leaf_same m limit ceiling n leaf e le)

  -- the walk prunes a node where it is closed
  prunes_closed : (n : List Lot) → length n < free (pins m)
      → prunes number m limit ceiling n (leader m limit ceiling n) ≡ closed number m limit ceiling n
  prunes_closed n short =
      let over : Bool = not (balanced m limit (lots_of m n)) in
      let bound : ℕ = number m limit (lots_of m n) in
      ap (λ v. over || leb v bound) (leader_worth number m limit ceiling n)
      ∙ sym (ap (λ b. over || (b && leb (incumbent m limit ceiling n) bound)) (lt-ltb _ _ short))

  -- the nodes that a walk takes below an open node: those that go on from it with x
  abbrev part : ℕ → List Lot → Lot → List (List Lot)
  part k n x = map (λ e. x ∷ e) (walk (λ e. closed number m limit ceiling (n ++ x ∷ e)) k)

  side : (n : List Lot) (x : Lot) (k : ℕ)
      → map (λ e. (n ++ x ∷ []) ++ e) (walk (λ e. closed number m limit ceiling ((n ++ x ∷ []) ++ e)) k)
      ≡ map (λ e. n ++ e) (part k n x)
  side n x k =
      ap (λ (f : List Lot → List Lot). map f (walk (λ e. closed number m limit ceiling (f e)) k)) (fun_ext (λ e. append_assoc n (x ∷ []) e))
      ∙ sym (map-map (λ e. n ++ e) (λ e. x ∷ e) (walk (λ e. closed number m limit ceiling (n ++ x ∷ e)) k))

  -- a walk of a node that is closed takes it alone
  walk_closed : (k : ℕ) (n : List Lot) → length n < free (pins m) → closed number m limit ceiling n ≡ true
      → Right number m limit ceiling (suc k) n (record { taken = n ∷ []; best = leader m limit ceiling n })
  walk_closed k n short e =
      let here : closed number m limit ceiling (n ++ []) ≡ true = ap (closed number m limit ceiling) (append-nil n) ∙ e in
      record {
        takes = ap₂ ◌∷◌ (sym (append-nil n)) (sym (ap (λ c. map (λ e. n ++ e) (cond c [] (part k n A ++ part k n B))) here));
        ends = sym (leader_closed number m limit ceiling sound law n (omega arith) e);
      }

  -- and of another it and what it takes below
  walk_open : (k : ℕ) (n : List Lot) → closed number m limit ceiling n ≡ false → (a b : Walked)
      → Right number m limit ceiling k (n ++ A ∷ []) a → Right number m limit ceiling k (n ++ B ∷ []) b
      → Right number m limit ceiling (suc k) n (record { taken = n ∷ (a.taken ++ b.taken); best = b.best })
  walk_open k n e a b in_A in_B =
      let here : closed number m limit ceiling (n ++ []) ≡ false = ap (closed number m limit ceiling) (append-nil n) ∙ e in
      record {
        takes = ap₂ ◌∷◌ (sym (append-nil n))
            (ap₂ ◌++◌ (in_A.takes ∙ side n A k) (in_B.takes ∙ side n B k)
            ∙ sym (map-append (λ e. n ++ e) (part k n A) (part k n B))
            ∙ sym (ap (λ c. map (λ e. n ++ e) (cond c [] (part k n A ++ part k n B))) here));
        ends = in_B.ends ∙ ap (leader_upto m limit ceiling) (on_last_B n);
      }

  walks : (k : ℕ) (n : List Lot) → length n + k ≡ free (pins m)
      → Right number m limit ceiling k n (walk_from number m limit ceiling k n (leader m limit ceiling n))
  walks zero n e =
      record { takes = ap (λ e. e ∷ []) (sym (append-nil n)); ends = at_leaf n (omega arith) }
  walks (suc k) n e =
      let short : length n < free (pins m) = omega arith in
      let longer : (x : Lot) → length (n ++ x ∷ []) + k ≡ free (pins m) = λ x. omega (arith, length-append n (x ∷ [])) in
      let a : Walked = walk_from number m limit ceiling k (n ++ A ∷ []) (leader m limit ceiling n) in
      let in_A : Right number m limit ceiling k (n ++ A ∷ []) a =
      subst (λ o. Right number m limit ceiling k (n ++ A ∷ []) (walk_from number m limit ceiling k (n ++ A ∷ []) o))
      (leader_down m limit ceiling n short) (walks k (n ++ A ∷ []) (longer A)) in
      let b : Walked = walk_from number m limit ceiling k (n ++ B ∷ []) a.best in
      let in_B : Right number m limit ceiling k (n ++ B ∷ []) b =
      subst (λ o. Right number m limit ceiling k (n ++ B ∷ []) (walk_from number m limit ceiling k (n ++ B ∷ []) o))
      (sym (in_A.ends ∙ ap (leader_upto m limit ceiling) (on_last_A n))) (walks k (n ++ B ∷ []) (longer B)) in
      let W : Bool → Walked = λ c. cond c (record { taken = n ∷ []; best = leader m limit ceiling n }) (record { taken = n ∷ (a.taken ++ b.taken); best = b.best }) in
      subst (λ c. Right number m limit ceiling (suc k) n (W c)) (sym (prunes_closed n short))
      (elim (closed number m limit ceiling n) as (λ c. closed number m limit ceiling n ≡ c → Right number m limit ceiling (suc k) n (W c)) [
        | true ↦ λ shut. walk_closed k n short shut
        | false ↦ λ open'. walk_open k n open' a b in_A in_B
      ] refl)

pub pruned_rightly : PrunedSearchLaw
pruned_rightly number law m limit ceiling sound =
    let k : ℕ = free (pins m) in
    let from_start : Right number m limit ceiling k [] (pruned_walk number m limit ceiling) =
    subst (λ o. Right number m limit ceiling k [] (walk_from number m limit ceiling k [] o)) (no_leader_first m limit ceiling)
    (walks number m limit ceiling sound law k [] (omega arith)) in
    record {
      takes = from_start.takes ∙ map-id (walk (closed number m limit ceiling) k) ∙ sym (walked k (closed number m limit ceiling));
      ends = from_start.ends;
    }
