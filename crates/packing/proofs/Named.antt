-- Trees named by bytes. Assumes nothing.
use Rattle.std.proofs.Common.{◌≡◌, ℕ, zero, suc, ◌<◌, Some, None, List, [], ◌∷◌, map, take, set, replicate, refl, ap, ◌∙◌}
use Rattle.std.proofs.Math.Seq.{take-set-lt}
use Rattle.packing.specs.Stands.{tree_named}

named_set : (xs : List ℕ) (v r : ℕ) → map tree_named (set xs v (suc r)) ≡ set (map tree_named xs) v (Some r)
named_set [] v r = refl
named_set (x ∷ xs) zero r = refl
named_set (x ∷ xs) (suc v) r = ap (λ ys. tree_named x ∷ ys) (named_set xs v r)

pub set_named : (xs : List ℕ) (n v r b : ℕ) → b ≡ suc r → v < n → map tree_named (take n (set xs v b)) ≡ set (map tree_named (take n xs)) v (Some r)
set_named xs n v r b e l = ap (map tree_named) (ap (λ x. take n (set xs v x)) e ∙ take-set-lt n xs v (suc r) l) ∙ named_set (take n xs) v r

pub none_named : (n : ℕ) → map tree_named (replicate n 0) ≡ replicate n None
none_named zero = refl
none_named (suc n) = ap (λ ys. None ∷ ys) (none_named n)
