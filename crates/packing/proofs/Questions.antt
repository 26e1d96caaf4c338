-- What every question keeps. Assumes nothing.
use Rattle.std.proofs.Common.{◌≡◌, ℕ, zero, suc, ◌+◌, ◌^◌, ◌<◌, sum_by, ◌≤◌, Bool, true, false, cond, ◌&&◌, ◌||◌, Some, None, Option, is_none, MatchOption, get_or, sym, refl, ap, ◌∙◌, arith}
use Rattle.std.proofs.lemmas.Bool.{cond_both, ne_eqb, eqb-true, lt-ltb, le-ltb, false≢true}
use Rattle.parish.specs.Limits.{heaviest_held}
use Rattle.parish.specs.Lots.{lot_byte}
use Rattle.parish.specs.Model.{no_household, no_link}
use Rattle.parish.specs.declared.items.Lot.{Lot}
use Rattle.parish.specs.declared.items.Lot.TheVariants.{A, B}
use Rattle.bounds.specs.Sums.{sum_below}
use Rattle.bounds.proofs.Indexed.{sum_below_same, sum_below_add, sum_below_front}
use Rattle.std.specs.List.{range_with_len}
use Rattle.std.proofs.lemmas.List.Sums.{sum_by-cons}
use Rattle.forest.proofs.Weighing.{sum_most}
use Rattle.forest.specs.Grounds.{other, weight_of}
use Rattle.forest.specs.Searches.{first}
use Rattle.forest.specs.Forests.{Forest, root_of, outside}
use Rattle.forest.proofs.Firsts.{first_is, first_none}
use Rattle.forest.proofs.Trees.{Fair}
use Rattle.packing.specs.declared.question.Question.{Question}
use Rattle.packing.specs.Grounded.{ground_of, below}
use Rattle.packing.specs.Counting.{weight_off}

-- both lots have a byte above 0
byte_some : (lot : Lot) → 1 ≤ lot_byte lot
byte_some A = omega arith
byte_some B = omega arith

-- the first number below n that passes a test, as `find` gives it
pub below_first : (test : ℕ → Bool) (n : ℕ) (r : Option ℕ)
    → MatchOption r ((k : ℕ) → 0 ≤ k → k < n → test k ≡ false) (λ i. (0 ≤ i) × (i < n) × (test i ≡ true) × ((k : ℕ) → 0 ≤ k → k < i → test k ≡ false))
    → r ≡ below n (first test n)
below_first test n None h =
    sym (ap (λ b. cond b (Some (first test n)) None) (le-ltb _ n (omega (arith, first_none test n (λ k l. h k (omega arith) l)))))
below_first test n (Some i) h =
    let e : first test n ≡ i = first_is test n i h.1 h.2 (λ k l. h.3 k (omega arith) l) in
    ap Some (sym e) ∙ sym (ap (λ b. cond b (Some (first test n)) None) (lt-ltb _ n (omega arith)))

-- the sum over a range
sum_range : (f : ℕ → ℕ) (n : ℕ) → sum_by f (range_with_len 0 n) ≡ sum_below n f
sum_range f n = from n 0 ∙ sum_below_same n (λ k. f (0 + k)) f (λ k l. ap f (omega arith))
  where
    from : (m a : ℕ) → sum_by f (range_with_len a m) ≡ sum_below m (λ k. f (a + k))
    from zero a = refl
    from (suc m) a =
        let first' : f (a + 0) ≡ f a = ap f (omega arith) in
        omega (
          arith,
          first',
          sum_by-cons f a (range_with_len (a + 1) m),
          from m (a + 1),
          sum_below_front m (λ k. f (a + k)),
          sum_below_same m (λ k. f (a + 1 + k)) (λ k. f (a + suc k)) (λ k l. ap f (omega arith)),
        )

module _ (q : Question) where
  -- no household is heavier than a parish can hold
  pub weight_most : (v : ℕ) → v < (ground_of q).households → (ground_of q).weight v ≤ heaviest_held
  weight_most v lt = q.weights v no_household lt

  pub off_most : (F : Forest) (v : ℕ) → v < (ground_of q).households → weight_off (ground_of q) F v ≤ heaviest_held
  off_most F v lt =
      cond_both ((ground_of q).away v || outside (ground_of q) F v) ((ground_of q).weight v) 0 (λ w. w ≤ heaviest_held)
      (λ _. weight_most v lt) (λ _. omega arith)

  -- an unset household is in neither lot
  pub unset_home : (v : ℕ) → (ground_of q).unset v ≡ true → (ground_of q).home v ≡ false
  unset_home v e = ne_eqb (get_or q.lots.now v 0) (lot_byte q.home) (λ z. omega (arith, eqb-true (get_or q.lots.now v 0) 0 e, byte_some q.home))

  pub unset_away : (v : ℕ) → (ground_of q).unset v ≡ true → (ground_of q).away v ≡ false
  unset_away v e =
      ne_eqb (get_or q.lots.now v 0) (lot_byte (other q.home)) (λ z. omega (arith, eqb-true (get_or q.lots.now v 0) 0 e, byte_some (other q.home)))

  -- what the households take from the target, in all
  pub off_below : (F : Forest) → sum_below (ground_of q).households (weight_off (ground_of q) F)
      ≡ weight_of (ground_of q) (ground_of q).away + weight_of (ground_of q) (outside (ground_of q) F)
  off_below F =
      sum_below_same (ground_of q).households _ _ (λ v lt. one ((ground_of q).away v) ((ground_of q).unset v) (is_none (root_of F v)) ((ground_of q).weight v) (unset_away v))
      ∙ sum_below_add (ground_of q).households (λ v. cond ((ground_of q).away v) ((ground_of q).weight v) 0)
      (λ v. cond (outside (ground_of q) F v) ((ground_of q).weight v) 0)
    where
      one : (a u t : Bool) (w : ℕ) → (u ≡ true → a ≡ false) → cond (a || (u && t)) w 0 ≡ cond a w 0 + cond (u && t) w 0
      one true true t w h = absurd (false≢true (sym (h refl)))
      one true false t w h = omega arith
      one false u t w h = omega arith

  pub off_all : (F : Forest) → sum_by (weight_off (ground_of q) F) (range_with_len 0 (ground_of q).households)
      ≡ weight_of (ground_of q) (ground_of q).away + weight_of (ground_of q) (outside (ground_of q) F)
  off_all F = sum_range (weight_off (ground_of q) F) (ground_of q).households ∙ off_below F

  pub off_fits : (F : Forest) → sum_by (weight_off (ground_of q) F) (range_with_len 0 (ground_of q).households) < 2 ^ 32
  off_fits F =
      omega (
        arith,
        q.few,
        sum_range (weight_off (ground_of q) F) (ground_of q).households,
        sum_most (ground_of q).households heaviest_held (weight_off (ground_of q) F) (off_most F),
      )

  -- so trees can grow on its ground
  pub fair : Fair (ground_of q)
  fair = record { ends = λ k lt. let j = q.joined k no_link lt in (j.0, j.1); apart = unset_home }
