-- Standing, by test and in words. Assumes nothing.
use Rattle.std.proofs.Common.{◌≡◌, ℕ, zero, suc, ◌<◌, Bool, true, false, not, ◌&&◌, ltb, leb, List, [], ◌∷◌, ◌++◌, length, filter, Decides, sym, refl, ap, subst, inl, inr, arith, length-append}
use Rattle.std.specs.List.{AllByRecursion}
use Rattle.std.proofs.ByRecursion.{All-map, All-weaker, Decides-by_and}
use Rattle.std.proofs.lemmas.Bool.{not-true, not-false, not_from_false, not_from_true, or_parts, or_from, and_right, and_cases, lt-ltb, leb-false, lt-leb, both_ways}
use Rattle.std.proofs.lemmas.Bool.Decides.{Decides-like}
use Rattle.parish.specs.Model.{Model}
use Rattle.parish.specs.declared.items.Lot.{Lot}
use Rattle.bisection.specs.Lots.{pins}
use Rattle.bisection.specs.Weights.{balanced}
use Rattle.bisection.specs.Costs.{cost}
use Rattle.bisection.specs.Bisections.{before, Lawful, lawful_bisections}
use Rattle.bisection.specs.Meanings.{Number}
use Rattle.bisection.proofs.Listing.{map_all, all_of_kept, all_kept_with, below_least, above_least}
use Rattle.bisection.proofs.Tests.{balanced_decided}
use Rattle.search.specs.Nodes.{free, lots_of, nodes, above, none, closed, stands, incumbent, lawful_before}
use Rattle.search.specs.Words.{Unclosed, StandingLaw, EmptyNodeLaw}
use Rattle.search.proofs.Listed.{all_lawful, lawful_has}

none_decided : {X : Type 0} (p : X → Bool) (xs : List X) → Decides (none p xs) (AllByRecursion (λ x. p x ≡ false) xs)
none_decided p xs = Decides-by_and (λ x. not (p x)) (λ x. p x ≡ false) (none p) (λ x. (not-true (p x), not_from_false (p x))) refl (λ _ _. refl) xs

-- the nodes above a node are its proper beginnings
above_has : (P : List Lot → Type 0) (e : List Lot) (x : Lot) (r : List Lot) → AllByRecursion P (above (e ++ x ∷ r)) → P e
above_has P [] x r h = h.0
above_has P (y ∷ e) x r h = above_has (λ n. P (y ∷ n)) e x r (map_all P (λ n. y ∷ n) (above (e ++ x ∷ r)) h.1)

all_above : (P : List Lot → Type 0) (n : List Lot) → ((e : List Lot) (x : Lot) (r : List Lot) → e ++ x ∷ r ≡ n → P e) → AllByRecursion P (above n)
all_above P [] h = tt
all_above P (y ∷ n) h =
    (h [] y n refl, All-map P (λ e. y ∷ e) (above n) (all_above (λ e. P (y ∷ e)) n (λ e x r q. h (y ∷ e) x r (ap (λ l. y ∷ l) q))))

module _ (number : Number) (m : Model) (limit ceiling : ℕ) where
  opened : (e : List Lot) → length e < free (pins m) → closed number m limit ceiling e ≡ false → Unclosed number m limit ceiling e
  opened e short h =
      let p = or_parts (not (balanced m limit (lots_of m e))) (ltb (length e) (free (pins m)) && leb (incumbent m limit ceiling e) (number m limit (lots_of m e))) h in
      let low : number m limit (lots_of m e) < incumbent m limit ceiling e =
      (elim (and_cases (ltb (length e) (free (pins m))) (leb (incumbent m limit ceiling e) (number m limit (lots_of m e))) p.1) [
        | inl a ↦ absurd (both_ways _ a (lt-ltb _ _ short))
        | inr b ↦ leb-false (incumbent m limit ceiling e) (number m limit (lots_of m e)) b
      ]) in
      let q = below_least (cost m) ceiling (suc (number m limit (lots_of m e))) (lawful_before m limit e) low in
      let all = all_of_kept (λ d. before d (lots_of m e)) (λ d. number m limit (lots_of m e) < cost m d) (lawful_bisections m limit) q.1 in
      record {
        light = (balanced_decided m limit (lots_of m e)).0 (not-false (balanced m limit (lots_of m e)) p.0);
        below_ceiling = q.0;
        below_costs = lawful_has m limit (λ d. before d (lots_of m e) ≡ true → number m limit (lots_of m e) < cost m d) all;
      }

  shut : (e : List Lot) → Unclosed number m limit ceiling e → closed number m limit ceiling e ≡ false
  shut e o =
      let each : AllByRecursion (λ d. before d (lots_of m e) ≡ true → number m limit (lots_of m e) < cost m d) (lawful_bisections m limit) =
      All-weaker (Lawful m limit) (λ d. before d (lots_of m e) ≡ true → number m limit (lots_of m e) < cost m d) (λ d w b. o.below_costs d w b) (lawful_bisections m limit) (all_lawful m limit) in
      let low = above_least (cost m) ceiling (suc (number m limit (lots_of m e))) (lawful_before m limit e) o.below_ceiling
      (all_kept_with (λ d. before d (lots_of m e)) (λ d. number m limit (lots_of m e) < cost m d) (lawful_bisections m limit) each) in
      or_from (not (balanced m limit (lots_of m e))) (ltb (length e) (free (pins m)) && leb (incumbent m limit ceiling e) (number m limit (lots_of m e)))
      (not_from_true (balanced m limit (lots_of m e)) ((balanced_decided m limit (lots_of m e)).1 o.light))
      (and_right (ltb (length e) (free (pins m))) (leb (incumbent m limit ceiling e) (number m limit (lots_of m e))) (lt-leb _ _ low))

pub in_words : StandingLaw
in_words number m limit ceiling n fits =
    let P : List Lot → Type 0 = λ e. closed number m limit ceiling e ≡ false in
    Decides-like (stands number m limit ceiling n)
    (λ h e x r q. opened number m limit ceiling e (omega (arith, length-append e (x ∷ r), ap length q)) (above_has P e x r (subst (λ l. AllByRecursion P (above l)) (sym q) h)))
    (λ w. all_above P n (λ e x r q. shut number m limit ceiling e (w e x r q)))
    (none_decided (closed number m limit ceiling) (above n))

-- the empty node lies below no other, and comes first
pub empty_first : EmptyNodeLaw
empty_first number m limit ceiling = (refl, by (free (pins m)))
  where
    by : (k : ℕ) → (rest : List (List Lot)) × (filter (stands number m limit ceiling) (nodes k) ≡ [] ∷ rest)
    by zero = ([], refl)
    by (suc k) = (_, refl)
