-- Sums of charges, over all links and over those that a bisection cuts. Assumes nothing.
use Rattle.std.proofs.Common.{◌≡◌, ℕ, zero, suc, ◌+◌, ◌*◌, ◌<◌, ◌≤◌, true, false, cond, List, [], ◌∷◌, length, get_or, sum_by, sum, sym, refl, ◌∙◌, arith}
use lib.ListN.{length-map}
use Rattle.std.proofs.lemmas.List.Sums.{sum_by-cons}
use Rattle.parish.specs.Limits.{strongest_held}
use Rattle.parish.specs.Model.{Model, Sound}
use Rattle.parish.specs.declared.items.Link.{Link}
use Rattle.bisection.specs.Costs.{cut, cut_strength}
use Rattle.bisection.specs.Meanings.{cut_charges}
use Rattle.bounds.specs.Bounds.{strengths, Bounds, BelowCosts, NumbersFit}

pub sum_cons : (x : ℕ) (xs : List ℕ) → sum (x ∷ xs) ≡ x + sum xs
sum_cons x xs = sum_by-cons (λ (y : ℕ). y) x xs

-- the cost is what the cut links are charged, where each is charged its strength
cost_is : (ls : List Link) (d : List ℕ) → sum_by (cut_strength d) ls ≡ cut_charges ls (strengths ls) d
cost_is [] d = refl
cost_is (l ∷ ls) d = omega (arith, sum_by-cons (cut_strength d) l ls, cost_is ls d)

-- larger charges, larger sums
sum_mono : (cs es : List ℕ) → ((k : ℕ) → get_or cs k 0 ≤ get_or es k 0) → sum cs ≤ sum es
sum_mono [] es h = omega arith
sum_mono (c ∷ cs) [] h = omega (arith, h zero, sum_cons c cs, sum_mono cs [] (λ k. h (suc k)))
sum_mono (c ∷ cs) (e ∷ es) h = omega (arith, h zero, sum_cons c cs, sum_cons e es, sum_mono cs es (λ k. h (suc k)))

cut_mono : (ls : List Link) (cs es d : List ℕ) → ((k : ℕ) → get_or cs k 0 ≤ get_or es k 0) → length cs ≡ length es
    → cut_charges ls cs d ≤ cut_charges ls es d
cut_mono [] cs es d h e = omega arith
cut_mono (l ∷ ls) [] es d h e = omega arith
cut_mono (l ∷ ls) (c ∷ cs) [] d h e = omega arith
cut_mono (l ∷ ls) (c ∷ cs) (x ∷ es) d h e =
    let here : cond (cut d l) c 0 ≤ cond (cut d l) x 0 = elim (cut d l) as (λ b. cond b c 0 ≤ cond b x 0) [ true ↦ h zero | false ↦ omega arith ] in
    omega (arith, here, cut_mono ls cs es d (λ k. h (suc k)) (omega arith))

-- what a bound's number is good for
pub below_costs : (m : Model) (limit : ℕ) (lots : List ℕ) (n : ℕ) (cs : List ℕ) → Bounds m limit lots n cs → BelowCosts m limit lots n
below_costs m limit lots n cs b d whole ext even =
    let same : length cs ≡ length (strengths m.links) = b.long ∙ sym (length-map m.links (λ (l : Link). l.strength)) in
    omega (arith, b.paid d whole ext even, cut_mono m.links cs (strengths m.links) d b.within same, cost_is m.links d)

-- every charge and every number fits 32 bits with room to spare

pub strengths_most : (m : Model) → Sound m → (k : ℕ) → get_or (strengths m.links) k 0 ≤ strongest_held
strengths_most m sound = most m.links (λ j d lt. (sound.joined j d lt).4)
  where
    most : (ls : List Link) → ((i : ℕ) (d : Link) → i < length ls → (get_or ls i d).strength ≤ strongest_held) → (k : ℕ) → get_or (strengths ls) k 0 ≤ strongest_held
    most [] h k = omega arith
    most (l ∷ ls) h zero = h zero l (omega arith)
    most (l ∷ ls) h (suc k) = most ls (λ i d lt. h (suc i) d (omega arith)) k

pub sum_most : (xs : List ℕ) → ((k : ℕ) → get_or xs k 0 ≤ strongest_held) → sum xs ≤ strongest_held * length xs
sum_most [] h = omega arith
sum_most (x ∷ xs) h = omega (arith, h zero, sum_cons x xs, sum_most xs (λ k. h (suc k)))

pub numbers_fit : NumbersFit
numbers_fit m limit lots n cs sound b =
    let all = sum_mono cs (strengths m.links) b.within in
    let most = sum_most (strengths m.links) (strengths_most m sound) in (
      omega (arith, b.charged, all, most, length-map m.links (λ (l : Link). l.strength), sound.short),
      λ k. omega (arith, b.within k, strengths_most m sound k),
    )
