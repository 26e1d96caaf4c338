-- The lawful bisections of a parish are the lots of the leaves whose lots are light; so are those before a node.
-- Assumes nothing.
use Rattle.std.proofs.Common.{◌≡◌, ℕ, ◌≤◌, Bool, true, false, List, [], ◌∷◌, ◌++◌, map, length, Some, None, filter, Option, sym, refl, ap, ◌∙◌, ap₂, append-nil}
use mathlib.Core.List.{map-map}
use Rattle.std.proofs.lemmas.List.Elements.{filter-append}
use Rattle.std.proofs.lemmas.List.{map-append}
use Rattle.parish.specs.Model.{Model}
use Rattle.parish.specs.declared.items.Lot.{Lot}
use Rattle.parish.specs.declared.items.Lot.TheVariants.{A, B}
use Rattle.bisection.specs.Lots.{pin_byte, pins, pinned, extends}
use Rattle.bisection.specs.Weights.{balanced}
use Rattle.bisection.specs.Bisections.{bisections, lawful_bisections, before}
use Rattle.search.specs.Nodes.{free, dealt, lots_of, lawful_before}
use Rattle.search.proofs.Kept.{kept_by_map, kept_by_none, kept_by_both, kept_by_swap}
use Rattle.search.proofs.Extending.{length_pins}
use Rattle.search.proofs.Listed.{lawful_is_kept}
use Rattle.search.proofs.Order.{leaves, leaves_before, leaves_below, leaves_upto, on, upto_on}

kept_all : {X : Type 0} (xs : List X) → filter (λ x. true) xs ≡ xs
kept_all [] = refl
kept_all (x ∷ xs) = ap (λ r. x ∷ r) (kept_all xs)

-- both sides of a split list, by a test
kept_sides : {X Y : Type 0} (test : Y → Bool) (f g : X → Y) (xs ys : List X)
    → filter test (map f xs ++ map g ys) ≡ map f (filter (λ x. test (f x)) xs) ++ map g (filter (λ y. test (g y)) ys)
kept_sides test f g xs ys =
    filter-append test (map f xs) (map g ys) ∙ ap₂ ◌++◌ (kept_by_map test f xs) (kept_by_map test g ys)

map_sides : {X Y Z : Type 0} (h : Y → Z) (f g : X → Y) (xs ys : List X)
    → map h (map f xs ++ map g ys) ≡ map (λ x. h (f x)) xs ++ map (λ y. h (g y)) ys
map_sides h f g xs ys = map-append h (map f xs) (map g ys) ∙ ap₂ ◌++◌ (map-map h f xs) (map-map h g ys)

kept_bisections : (ps : List (Option Lot)) → filter (extends (map pin_byte ps)) (bisections (length ps)) ≡ map (dealt ps) (leaves (free ps))
kept_bisections [] = refl
kept_bisections (None ∷ ps) =
    kept_sides (extends (map pin_byte (None ∷ ps))) (λ d. 1 ∷ d) (λ d. 2 ∷ d) (bisections (length ps)) (bisections (length ps))
    ∙ ap₂ (λ a b. map (λ d. 1 ∷ d) a ++ map (λ d. 2 ∷ d) b) (kept_bisections ps) (kept_bisections ps)
    ∙ ap₂ ◌++◌ (map-map (λ d. 1 ∷ d) (dealt ps) (leaves (free ps))) (map-map (λ d. 2 ∷ d) (dealt ps) (leaves (free ps)))
    ∙ sym (map_sides (dealt (None ∷ ps)) (λ n. A ∷ n) (λ n. B ∷ n) (leaves (free ps)) (leaves (free ps)))
kept_bisections (Some A ∷ ps) =
    kept_sides (extends (map pin_byte (Some A ∷ ps))) (λ d. 1 ∷ d) (λ d. 2 ∷ d) (bisections (length ps)) (bisections (length ps))
    ∙ ap₂ (λ a b. map (λ d. 1 ∷ d) a ++ map (λ d. 2 ∷ d) b) (kept_bisections ps) (kept_by_none (λ d. false) (λ d. refl) (bisections (length ps)))
    ∙ append-nil _
    ∙ map-map (λ d. 1 ∷ d) (dealt ps) (leaves (free ps))
kept_bisections (Some B ∷ ps) =
    kept_sides (extends (map pin_byte (Some B ∷ ps))) (λ d. 1 ∷ d) (λ d. 2 ∷ d) (bisections (length ps)) (bisections (length ps))
    ∙ ap₂ (λ a b. map (λ d. 1 ∷ d) a ++ map (λ d. 2 ∷ d) b) (kept_by_none (λ d. false) (λ d. refl) (bisections (length ps))) (kept_bisections ps)
    ∙ map-map (λ d. 2 ∷ d) (dealt ps) (leaves (free ps))

kept_before : (ps : List (Option Lot)) (n : List Lot) → filter (λ l. before (dealt ps l) (dealt ps n)) (leaves (free ps)) ≡ leaves_before (free ps) n
kept_before [] [] = refl
kept_before [] (x ∷ n) = refl
kept_before (Some A ∷ ps) n = kept_before ps n
kept_before (Some B ∷ ps) n = kept_before ps n
kept_before (None ∷ ps) [] =
    kept_sides (λ l. before (dealt (None ∷ ps) l) (0 ∷ dealt ps [])) (λ l. A ∷ l) (λ l. B ∷ l) (leaves (free ps)) (leaves (free ps))
    ∙ ap₂ (λ a b. map (λ l. A ∷ l) a ++ map (λ l. B ∷ l) b) (kept_before ps []) (kept_before ps [])
kept_before (None ∷ ps) (A ∷ n) =
    kept_sides (λ l. before (dealt (None ∷ ps) l) (1 ∷ dealt ps n)) (λ l. A ∷ l) (λ l. B ∷ l) (leaves (free ps)) (leaves (free ps))
    ∙ ap₂ (λ a b. map (λ l. A ∷ l) a ++ map (λ l. B ∷ l) b) (kept_before ps n) (kept_by_none (λ l. false) (λ l. refl) (leaves (free ps)))
    ∙ append-nil _
kept_before (None ∷ ps) (B ∷ n) =
    kept_sides (λ l. before (dealt (None ∷ ps) l) (2 ∷ dealt ps n)) (λ l. A ∷ l) (λ l. B ∷ l) (leaves (free ps)) (leaves (free ps))
    ∙ ap₂ (λ a b. map (λ l. A ∷ l) a ++ map (λ l. B ∷ l) b) (kept_all (leaves (free ps))) (kept_before ps n)

-- the lawful leaves of a list of leaves
abbrev pub lawful_of : Model → ℕ → List (List Lot) → List (List ℕ)
lawful_of m limit ls = map (lots_of m) (filter (λ l. balanced m limit (lots_of m l)) ls)

kept_pins : (m : Model) → filter (extends (pinned m)) (bisections (length m.households)) ≡ map (lots_of m) (leaves (free (pins m)))
kept_pins m = ap (λ n. filter (extends (pinned m)) (bisections n)) (sym (length_pins m)) ∙ kept_bisections (pins m)

lawful_is : (m : Model) (limit : ℕ) → lawful_bisections m limit ≡ lawful_of m limit (leaves (free (pins m)))
lawful_is m limit =
    lawful_is_kept m limit
    ∙ kept_by_both (extends (pinned m)) (balanced m limit) (bisections (length m.households))
    ∙ ap (filter (balanced m limit)) (kept_pins m)
    ∙ kept_by_map (balanced m limit) (lots_of m) (leaves (free (pins m)))

pub before_is : (m : Model) (limit : ℕ) (n : List Lot) → lawful_before m limit n ≡ lawful_of m limit (leaves_before (free (pins m)) n)
before_is m limit n =
    let test : List ℕ → Bool = λ d. before d (lots_of m n) in
    ap (filter test) (lawful_is_kept m limit ∙ kept_by_both (extends (pinned m)) (balanced m limit) (bisections (length m.households)))
    ∙ kept_by_swap test (balanced m limit) (filter (extends (pinned m)) (bisections (length m.households)))
    ∙ ap (λ r. filter (balanced m limit) (filter test r)) (kept_pins m)
    ∙ ap (filter (balanced m limit)) (kept_by_map test (lots_of m) (leaves (free (pins m))) ∙ ap (map (lots_of m)) (kept_before (pins m) n))
    ∙ kept_by_map (balanced m limit) (lots_of m) (leaves_before (free (pins m)) n)

-- the lawful bisections before what may be a node; where there is none, all
abbrev pub lawful_upto : Model → ℕ → Option (List Lot) → List (List ℕ)
lawful_upto m limit None = lawful_bisections m limit
lawful_upto m limit (Some e) = lawful_before m limit e

upto_is : (m : Model) (limit : ℕ) (o : Option (List Lot)) → lawful_upto m limit o ≡ lawful_of m limit (leaves_upto (free (pins m)) o)
upto_is m limit None = lawful_is m limit
upto_is m limit (Some e) = before_is m limit e

of_append : (m : Model) (limit : ℕ) (xs ys : List (List Lot)) → lawful_of m limit (xs ++ ys) ≡ lawful_of m limit xs ++ lawful_of m limit ys
of_append m limit xs ys =
    ap (map (lots_of m)) (filter-append (λ l. balanced m limit (lots_of m l)) xs ys)
    ∙ map-append (lots_of m) (filter (λ l. balanced m limit (lots_of m l)) xs) (filter (λ l. balanced m limit (lots_of m l)) ys)

-- before the next node: what was before, and what lies below the node
pub upto_law : (m : Model) (limit : ℕ) (n : List Lot) → length n ≤ free (pins m)
    → lawful_upto m limit (on n) ≡ lawful_before m limit n ++ lawful_of m limit (leaves_below (free (pins m)) n)
upto_law m limit n h =
    upto_is m limit (on n)
    ∙ ap (lawful_of m limit) (upto_on n (free (pins m)) h)
    ∙ of_append m limit (leaves_before (free (pins m)) n) (leaves_below (free (pins m)) n)
    ∙ ap (λ r. r ++ lawful_of m limit (leaves_below (free (pins m)) n)) (sym (before_is m limit n))
