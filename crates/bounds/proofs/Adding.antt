-- A layer that adds charges to those below. Assumes nothing.
use Rattle.std.proofs.Common.{◌≡◌, ℕ, zero, suc, ◌+◌, true, false, cond, List, [], ◌∷◌, length, get_or, sum, sym, refl, ap, ◌∙◌, arith}
use Rattle.parish.specs.declared.items.Link.{Link}
use Rattle.bisection.specs.Costs.{cut}
use Rattle.bisection.specs.Meanings.{cut_charges}
use Rattle.bounds.specs.Adding.{added, LayersAdd}
use Rattle.bounds.proofs.Sums.{sum_cons}

pub length_added : (cs es : List ℕ) → length (added cs es) ≡ length cs
length_added [] es = refl
length_added (c ∷ cs) [] = refl
length_added (c ∷ cs) (e ∷ es) = ap suc (length_added cs es)

pub get_or_added : (cs es : List ℕ) (k : ℕ) → length cs ≡ length es → get_or (added cs es) k 0 ≡ get_or cs k 0 + get_or es k 0
get_or_added [] [] k same = omega arith
get_or_added [] (e ∷ es) k same = omega arith
get_or_added (c ∷ cs) [] k same = omega arith
get_or_added (c ∷ cs) (e ∷ es) zero same = refl
get_or_added (c ∷ cs) (e ∷ es) (suc k) same = get_or_added cs es k (omega arith)

sum_added : (cs es : List ℕ) → length cs ≡ length es → sum (added cs es) ≡ sum cs + sum es
sum_added [] [] same = omega arith
sum_added [] (e ∷ es) same = omega arith
sum_added (c ∷ cs) [] same = omega arith
sum_added (c ∷ cs) (e ∷ es) same =
    omega (arith, sum_cons c cs, sum_cons e es, sum_cons (c + e) (added cs es), sum_added cs es (omega arith))

cut_added : (ls : List Link) (cs es d : List ℕ) → length cs ≡ length es → cut_charges ls (added cs es) d ≡ cut_charges ls cs d + cut_charges ls es d
cut_added [] cs es d same = omega arith
cut_added (l ∷ ls) [] [] d same = omega arith
cut_added (l ∷ ls) [] (e ∷ es) d same = omega arith
cut_added (l ∷ ls) (c ∷ cs) [] d same = omega arith
cut_added (l ∷ ls) (c ∷ cs) (e ∷ es) d same =
    let here : cond (cut d l) (c + e) 0 ≡ cond (cut d l) c 0 + cond (cut d l) e 0 = elim (cut d l) as (λ b. cond b (c + e) 0 ≡ cond b c 0 + cond b e 0) [ true ↦ refl | false ↦ omega arith ] in
    omega (arith, here, cut_added ls cs es d (omega arith))

pub added_bounds : LayersAdd
added_bounds m limit lots n v below extra b a =
    let same : length below ≡ length extra = b.long ∙ sym a.long in
    record {
      long = length_added below extra ∙ b.long;
      within = λ k. omega (arith, get_or_added below extra k same, a.left k);
      charged = omega (arith, sum_added below extra same, b.charged, a.charged);
      paid = λ d whole ext even. omega (arith, cut_added m.links below extra d same, b.paid d whole ext even, a.paid d whole ext even);
    }
