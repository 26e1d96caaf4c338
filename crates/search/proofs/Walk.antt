-- The standing nodes by a walk, over any test C for closed. Assumes nothing.
use Rattle.std.proofs.Common.{◌≡◌, ℕ, zero, suc, Bool, true, false, cond, not, ◌&&◌, List, [], ◌∷◌, ◌++◌, map, filter, refl, ap, ◌∙◌, ap₂}
use Rattle.std.proofs.Math.Path.{fun_ext}
use Rattle.std.proofs.lemmas.List.Elements.{filter-append, filter_agree}
use Rattle.std.proofs.lemmas.List.Folds.{list_all-map}
use Rattle.parish.specs.declared.items.Lot.{Lot}
use Rattle.parish.specs.declared.items.Lot.TheVariants.{A, B}
use Rattle.search.specs.Nodes.{nodes, above, none}
use Rattle.search.proofs.Kept.{kept_by_map, kept_by_none}

abbrev pub stands_by : (List Lot → Bool) → List Lot → Bool
stands_by C n = none C (above n)

-- the walk: a node, and unless it is closed those below it
abbrev pub walk : (List Lot → Bool) → ℕ → List (List Lot)
walk C zero = [] ∷ []
walk C (suc k) =
    [] ∷ cond (C []) [] (map (λ n. A ∷ n) (walk (λ n. C (A ∷ n)) k) ++ map (λ n. B ∷ n) (walk (λ n. C (B ∷ n)) k))

-- one side: the nodes that begin with x
side : (C : List Lot → Bool) (x : Lot) (ns : List (List Lot))
    → filter (stands_by C) (map (λ n. x ∷ n) ns) ≡ cond (C []) [] (map (λ n. x ∷ n) (filter (stands_by (λ n. C (x ∷ n))) ns))
side C x ns =
    kept_by_map (stands_by C) (λ n. x ∷ n) ns
    ∙ ap (map (λ n. x ∷ n)) (filter_agree _ (λ n. not (C []) && stands_by (λ e. C (x ∷ e)) n) (λ n. ap (λ b. not (C []) && b) (list_all-map (λ e. not (C e)) (λ e. x ∷ e) (above n))) ns)
    ∙ by_test (C [])
  where
    by_test : (b : Bool) → map (λ n. x ∷ n) (filter (λ n. not b && stands_by (λ e. C (x ∷ e)) n) ns) ≡ cond b [] (map (λ n. x ∷ n) (filter (stands_by (λ n. C (x ∷ n))) ns))
    by_test true = ap (map (λ n. x ∷ n)) (kept_by_none _ (λ n. refl) ns)
    by_test false = refl

pub walked : (k : ℕ) (C : List Lot → Bool) → filter (stands_by C) (nodes k) ≡ walk C k
walked zero C = refl
walked (suc k) C =
    ap (λ r. [] ∷ r)
    (filter-append (stands_by C) (map (λ n. A ∷ n) (nodes k)) (map (λ n. B ∷ n) (nodes k))
    ∙ ap₂ ◌++◌ (side C A (nodes k)) (side C B (nodes k))
    ∙ ap₂ (λ a b. cond (C []) [] (map (λ n. A ∷ n) a) ++ cond (C []) [] (map (λ n. B ∷ n) b)) (walked k (λ n. C (A ∷ n))) (walked k (λ n. C (B ∷ n)))
    ∙ joined (C []))
  where
    joined : (b : Bool) → cond b [] (map (λ n. A ∷ n) (walk (λ n. C (A ∷ n)) k)) ++ cond b [] (map (λ n. B ∷ n) (walk (λ n. C (B ∷ n)) k))
        ≡ cond b [] (map (λ n. A ∷ n) (walk (λ n. C (A ∷ n)) k) ++ map (λ n. B ∷ n) (walk (λ n. C (B ∷ n)) k))
    joined true = refl
    joined false = refl

-- the walk by two tests that agree
pub walk_same : (k : ℕ) (C D : List Lot → Bool) → ((n : List Lot) → C n ≡ D n) → walk C k ≡ walk D k
walk_same k C D h = ap (λ test. walk test k) (fun_ext h)
