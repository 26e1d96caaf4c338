-- 'Comes before' is a strict total order on bisections. Assumes nothing.
use Rattle.std.proofs.Common.{◌≡◌, ℕ, zero, suc, true, ◌⊎◌, List, [], ◌∷◌, map, length, sym, refl, ap, ◌∙◌, inl, inr, arith}
use lib.ListN.{length-map}
use Rattle.std.proofs.lemmas.Bool.{false≢true}
use Rattle.parish.specs.declared.items.Lot.{Lot}
use Rattle.parish.specs.declared.items.Lot.TheVariants.{A, B}
use Rattle.parish.specs.Lots.{lot_byte}
use Rattle.bisection.specs.Bisections.{before}
use Rattle.bisection.proofs.Listing.{AllSet, one_or_two}
use Rattle.search.specs.Words.{OrderLaw}
use Rattle.search.proofs.Listed.{before_self}

-- a bisection is the bytes of a list of lots
as_lots : (d : List ℕ) → AllSet d → (ls : List Lot) × (d ≡ map lot_byte ls)
as_lots [] r = ([], refl)
as_lots (x ∷ d) r =
    let rest = as_lots d (λ k lt. r (suc k) (omega arith)) in
    elim (one_or_two x (r zero (omega arith))) [
      | inl o ↦ (A ∷ rest.0, (let e = rest.1 in cc))
      | inr o ↦ (B ∷ rest.0, (let e = rest.1 in cc))
    ]

chain : (a b c : List Lot) → before (map lot_byte a) (map lot_byte b) ≡ true → before (map lot_byte b) (map lot_byte c) ≡ true
    → before (map lot_byte a) (map lot_byte c) ≡ true
chain [] b c p q = absurd (false≢true p)
chain (x ∷ a) [] c p q = absurd (false≢true p)
chain (x ∷ a) (y ∷ b) [] p q = absurd (false≢true q)
chain (A ∷ a) (A ∷ b) (A ∷ c) p q = chain a b c p q
chain (A ∷ a) (A ∷ b) (B ∷ c) p q = refl
chain (A ∷ a) (B ∷ b) (A ∷ c) p q = absurd (false≢true q)
chain (A ∷ a) (B ∷ b) (B ∷ c) p q = refl
chain (B ∷ a) (A ∷ b) (z ∷ c) p q = absurd (false≢true p)
chain (B ∷ a) (B ∷ b) (A ∷ c) p q = absurd (false≢true q)
chain (B ∷ a) (B ∷ b) (B ∷ c) p q = chain a b c p q

abbrev OneFirst : List ℕ → List ℕ → Type 0
OneFirst d e = (before d e ≡ true) ⊎ ((d ≡ e) ⊎ (before e d ≡ true))

-- one household more that both have in one lot
under : (x : ℕ) (d e : List ℕ) → before (x ∷ d) (x ∷ e) ≡ before d e → before (x ∷ e) (x ∷ d) ≡ before e d → OneFirst d e → OneFirst (x ∷ d) (x ∷ e)
under x d e p q (inl h) = inl (p ∙ h)
under x d e p q (inr (inl h)) = inr (inl (ap (λ r. x ∷ r) h))
under x d e p q (inr (inr h)) = inr (inr (q ∙ h))

compared : (a b : List Lot) → length a ≡ length b → OneFirst (map lot_byte a) (map lot_byte b)
compared [] [] e = inr (inl refl)
compared [] (y ∷ b) e = absurd (omega arith)
compared (x ∷ a) [] e = absurd (omega arith)
compared (A ∷ a) (A ∷ b) e = under 1 (map lot_byte a) (map lot_byte b) refl refl (compared a b (omega arith))
compared (A ∷ a) (B ∷ b) e = inl refl
compared (B ∷ a) (A ∷ b) e = inr (inr refl)
compared (B ∷ a) (B ∷ b) e = under 2 (map lot_byte a) (map lot_byte b) refl refl (compared a b (omega arith))

pub one_first : (d e : List ℕ) → length d ≡ length e → AllSet d → AllSet e → OneFirst d e
one_first d e same r s =
    let a = as_lots d r in
    let b = as_lots e s in
    let long : length a.0 ≡ length b.0 = omega (arith, same, ap length a.1, ap length b.1, length-map a.0 lot_byte, length-map b.0 lot_byte) in
    rw (a.1, b.1) (compared a.0 b.0 long)

chains : (d e f : List ℕ) → AllSet d → AllSet e → AllSet f → before d e ≡ true → before e f ≡ true → before d f ≡ true
chains d e f r s t p q =
    let a = as_lots d r in
    let b = as_lots e s in
    let c = as_lots f t in
    let p' : before (map lot_byte a.0) (map lot_byte b.0) ≡ true = rw (sym a.1, sym b.1) p in
    let q' : before (map lot_byte b.0) (map lot_byte c.0) ≡ true = rw (sym b.1, sym c.1) q in
    rw (a.1, c.1) (chain a.0 b.0 c.0 p' q')

pub ordered : OrderLaw
ordered m =
    record {
      not_itself = λ d k. before_self d;
      chains = λ d e f i j k p q. chains d e f i.whole.set_each j.whole.set_each k.whole.set_each p q;
      one_first = λ d e i j. one_first d e (i.whole.long ∙ sym j.whole.long) i.whole.set_each j.whole.set_each;
    }
