-- The leader before a node: what changes it, and what does not. Assumes nothing.
use Rattle.std.proofs.Common.{◌≡◌, ℕ, ◌<◌, ◌≤◌, Bool, true, not, ◌&&◌, ltb, leb, ◌⊎◌, List, [], ◌∷◌, ◌++◌, map, length, Some, None, filter, Option, sym, ap, ◌∙◌, subst, inl, inr, arith}
use Rattle.std.specs.List.{AllByRecursion}
use Rattle.std.proofs.ByRecursion.{All-map}
use Rattle.std.proofs.lemmas.Bool.{or_cases, and_parts, not-true, leb-true, both_ways, cond-true}
use Rattle.parish.specs.Model.{Model, Sound}
use Rattle.parish.specs.declared.items.Lot.{Lot}
use Rattle.parish.specs.declared.items.Lot.TheVariants.{A}
use Rattle.bisection.specs.Lots.{pins}
use Rattle.bisection.specs.Weights.{balanced}
use Rattle.bisection.specs.Costs.{cost}
use Rattle.bisection.specs.Bisections.{lawful_bisections, before}
use Rattle.bisection.specs.Answers.{first_least}
use Rattle.bisection.specs.Meanings.{Number}
use Rattle.bisection.proofs.Listing.{all_kept_with}
use Rattle.bisection.proofs.Tests.{balanced_decided}
use Rattle.bounds.specs.Bounds.{Lower}
use Rattle.bounds.proofs.Sums.{below_costs}
use Rattle.search.specs.Nodes.{free, lots_of, lawful_before, incumbent, closed}
use Rattle.search.specs.Walking.{to_beat}
use Rattle.search.proofs.Order.{leaves_below, on, before_down, below_leaf}
use Rattle.search.proofs.Best.{Outcome, best_law, best_stays, best_takes}
use Rattle.search.proofs.Leaves.{lawful_of, before_is, lawful_upto, upto_law}
use Rattle.search.proofs.Extending.{all_below, lots_fit, leaf_bisects, lots_extend, light_above}
use Rattle.search.proofs.Listed.{before_self, sorted_kept, sorted_lawful}

-- the first lawful bisection of least cost before a node, if it costs less than the ceiling
abbrev pub leader : Model → ℕ → ℕ → List Lot → Option (List ℕ)
leader m limit ceiling n = first_least (cost m) ceiling (lawful_before m limit n)

-- before what may be a node; where there is none, of all
abbrev pub leader_upto : Model → ℕ → ℕ → Option (List Lot) → Option (List ℕ)
leader_upto m limit ceiling o = first_least (cost m) ceiling (lawful_upto m limit o)

-- the leader costs what the incumbent is, or there is none and the incumbent is the ceiling
pub leader_worth : (number : Number) (m : Model) (limit ceiling : ℕ) (n : List Lot)
    → to_beat number m limit ceiling (leader m limit ceiling n) ≡ incumbent m limit ceiling n
leader_worth number m limit ceiling n =
    by (leader m limit ceiling n)
    (best_law (cost m) before before_self ceiling (lawful_before m limit n) (sorted_kept before (λ d. before d (lots_of m n)) (lawful_bisections m limit) (sorted_lawful m limit)))
  where
    by : (o : Option (List ℕ)) → Outcome (cost m) before ceiling (lawful_before m limit n) o → to_beat number m limit ceiling o ≡ incumbent m limit ceiling n
    by None h = sym h.costs
    by (Some d) h = h.costs

-- a light leaf: what lies below it is its own bisection
leaf_upto : (m : Model) (limit : ℕ) (n : List Lot) → length n ≡ free (pins m) → balanced m limit (lots_of m n) ≡ true
    → lawful_upto m limit (on n) ≡ lawful_before m limit n ++ lots_of m n ∷ []
leaf_upto m limit n e light =
    let P : ℕ → Type 0 = λ k. leaves_below k n ≡ n ∷ [] in
    upto_law m limit n (omega arith)
    ∙ ap (λ r. lawful_before m limit n ++ lawful_of m limit r) (subst P e (below_leaf n))
    ∙ ap (λ r. lawful_before m limit n ++ map (lots_of m) r) (cond-true (balanced m limit (lots_of m n)) (n ∷ []) [] light)

-- one that costs less leads from then on, another changes nothing
pub leaf_better : (m : Model) (limit ceiling : ℕ) (n : List Lot) → length n ≡ free (pins m) → balanced m limit (lots_of m n) ≡ true
    → cost m (lots_of m n) < incumbent m limit ceiling n → leader_upto m limit ceiling (on n) ≡ Some (lots_of m n)
leaf_better m limit ceiling n e light lt =
    ap (first_least (cost m) ceiling) (leaf_upto m limit n e light) ∙ best_takes (cost m) ceiling (lawful_before m limit n) (lots_of m n) lt

pub leaf_same : (m : Model) (limit ceiling : ℕ) (n : List Lot) → length n ≡ free (pins m) → balanced m limit (lots_of m n) ≡ true
    → incumbent m limit ceiling n ≤ cost m (lots_of m n) → leader_upto m limit ceiling (on n) ≡ leader m limit ceiling n
leaf_same m limit ceiling n e light le =
    ap (first_least (cost m) ceiling) (leaf_upto m limit n e light)
    ∙ best_stays (cost m) ceiling (lawful_before m limit n) (lots_of m n ∷ []) (le, tt)

-- nothing more comes before the first node below a node
pub leader_down : (m : Model) (limit ceiling : ℕ) (n : List Lot) → length n < free (pins m)
    → leader m limit ceiling (n ++ A ∷ []) ≡ leader m limit ceiling n
leader_down m limit ceiling n short =
    ap (first_least (cost m) ceiling)
    (before_is m limit (n ++ A ∷ []) ∙ ap (lawful_of m limit) (before_down n (free (pins m)) short) ∙ sym (before_is m limit n))

pub no_leader_first : (m : Model) (limit ceiling : ℕ) → leader m limit ceiling [] ≡ None
no_leader_first m limit ceiling = ap (first_least (cost m) ceiling) (before_is m limit [])

module _ (number : Number) (m : Model) (limit ceiling : ℕ) (sound : Sound m) (law : Lower number) where
  -- below a closed node nothing is cheaper than the incumbent
  none_below : (n : List Lot) → closed number m limit ceiling n ≡ true
      → AllByRecursion (λ d. incumbent m limit ceiling n ≤ cost m d) (lawful_of m limit (leaves_below (free (pins m)) n))
  none_below n e =
      let P : List Lot → Type 0 = λ l. incumbent m limit ceiling n ≤ cost m (lots_of m l) in
      let W : List Lot → Bool = λ l. balanced m limit (lots_of m l) in
      All-map (λ d. incumbent m limit ceiling n ≤ cost m d) (lots_of m) (filter W (leaves_below (free (pins m)) n))
      (all_kept_with W P (leaves_below (free (pins m)) n)
      (all_below (λ l. W l ≡ true → P l) n (free (pins m)) (λ r leaf w. by r leaf w (or_cases _ _ e))))
    where
      by : (r : List Lot) → length (n ++ r) ≡ free (pins m) → balanced m limit (lots_of m (n ++ r)) ≡ true
          → ((not (balanced m limit (lots_of m n)) ≡ true) ⊎ ((ltb (length n) (free (pins m)) && leb (incumbent m limit ceiling n) (number m limit (lots_of m n))) ≡ true))
          → incumbent m limit ceiling n ≤ cost m (lots_of m (n ++ r))
      by r leaf w (inl over) =
          let light = (balanced_decided m limit (lots_of m n)).1 (light_above m limit n r ((balanced_decided m limit (lots_of m (n ++ r))).0 w)) in
          absurd (both_ways _ (not-true _ over) light)
      by r leaf w (inr reached) =
          let q = law m limit (lots_of m n) sound (lots_fit m n) in
          let p = below_costs m limit (lots_of m n) (number m limit (lots_of m n)) q.0 q.1 (lots_of m (n ++ r))
          (leaf_bisects m (n ++ r) leaf) (lots_extend m n r) ((balanced_decided m limit (lots_of m (n ++ r))).0 w) in
          let q' = (and_parts (ltb (length n) (free (pins m))) (leb (incumbent m limit ceiling n) (number m limit (lots_of m n))) reached).1 in
          omega (arith, leb-true (incumbent m limit ceiling n) (number m limit (lots_of m n)) q', p)

  pub leader_closed : (n : List Lot) → length n ≤ free (pins m) → closed number m limit ceiling n ≡ true
      → leader_upto m limit ceiling (on n) ≡ leader m limit ceiling n
  leader_closed n h e =
      ap (first_least (cost m) ceiling) (upto_law m limit n h)
      ∙ best_stays (cost m) ceiling (lawful_before m limit n) (lawful_of m limit (leaves_below (free (pins m)) n)) (none_below n e)
