-- Number fields and pin fields in words. Assumes nothing.
use Rattle.std.proofs.Common.{◌≡◌, ℕ, ◌+◌, ◌-◌, ◌*◌, ◌^◌, ◌<◌, ◌≤◌, true, false, cond, ◌&&◌, eqb, leb, List, [], ◌∷◌, length, get_or, take, drop, Some, None, decimal, Decides, Option, sym, refl, ap, ◌∙◌, subst, ⊎_elim, pow-suc, zero-add, add-one, arith, rules, ne_eqb, eqb-true, le-leb}
use native.Mathlib.Nat.{pow-le-pow_right}
use borrow.Author.Tests.{eqb-false}
use Rattle.std.proofs.lemmas.Fmt.{decimal_digit, decimal_nonempty, decimal-digits_value, digits_decimal, first_decimal, length-decimal-le, digits_value-decimal}
use Rattle.std.proofs.ByRecursion.{All-from_get_or}
use Rattle.std.proofs.lemmas.List.{at_drop_more, nil_from_length}
use Rattle.std.proofs.lemmas.Str.Parse.{IsNumeralModel, not_in_digits, numerals_by_fold, digits_value_short}
use Rattle.std.proofs.lemmas.Option.{none-some, cond_some}
use Rattle.std.proofs.lemmas.Slice.{first_rest}
use Rattle.std.proofs.lemmas.Slice.Eq.{slice_eq-Decides}
use Rattle.std.proofs.lemmas.Bool.{and_parts, cases_eq}
use Rattle.std.proofs.lemmas.Bool.Decides.{nat_tests, Decides-eqb}
use Rattle.std.proofs.lemmas.Grind.{common_steps}
use Rattle.std.specs.Str.{all_ascii_digits}
use lib.Pointwise.{pointwise}
use Rattle.std.specs.Int.{IsInRange}
use Rattle.std.specs.Char.{is_ascii_digit}
use Rattle.parish.specs.declared.items.Lot.{Lot}
use Rattle.parish.specs.declared.items.Lot.TheVariants.{A, B}
use Rattle.spelling.specs.Fields.{digits_after, read_on, lone_zero, number_of, NumberFields, same, pin_byte, pin_of, pin_field, PinFields}
use Rattle.spelling.specs.Laws.{Plain}
use Rattle.spelling.specs.Pieces.{Lacks}

-- the number that digits write
abbrev digits_value : List ℕ → ℕ
digits_value ds = digits_after 0 ds

own : IsNumeralModel (λ ds. all_ascii_digits ds ≡ true) digits_value
own = numerals_by_fold _ (search rules) digits_after (search rules)

-- ---- numbers
-- 1 to 7 digits, the first of them no 0 unless it stands alone
record Shaped (f : List ℕ) : Type 0 where
  digits : all_ascii_digits f ≡ true
  some : 0 < length f
  short : length f ≤ 7
  lone : get_or f 0 0 ≡ 48 → length f ≡ 1

first_value : (d : ℕ) (ds : List ℕ) → digits_value (d ∷ ds) ≡ digits_after (d - 48) ds
first_value d ds = ap (λ n. digits_after n ds) (zero-add (d - 48))

shaped : (f : List ℕ) (v : ℕ) → number_of f ≡ Some v → Shaped f × (digits_value f ≡ v)
shaped [] v e = absurd (none-some v e)
shaped (d ∷ ds) v e =
    elim (eqb d 48) as (λ t. eqb d 48 ≡ t
    → cond t (lone_zero ds) (cond (leb 49 d && leb d 57 && leb (length ds) 6) (read_on (d - 48) ds) None) ≡ Some v → Shaped (d ∷ ds) × (digits_value (d ∷ ds) ≡ v)) [
      | true ↦ λ t g. shaped_zero d ds v (eqb-true d 48 t) g
      | false ↦ λ t g.
          elim (leb 49 d && leb d 57 && leb (length ds) 6) as (λ u. (leb 49 d && leb d 57 && leb (length ds) 6) ≡ u
          → cond u (read_on (d - 48) ds) None ≡ Some v → Shaped (d ∷ ds) × (digits_value (d ∷ ds) ≡ v)) [
            | true ↦ λ u h.
                let r = cond_some (all_ascii_digits ds) (digits_after (d - 48) ds) v h in
                let all = r.0 in (
                  record {
                    digits = grind (arith, nat_tests);
                    some = omega arith;
                    short = grind (arith, nat_tests);
                    lone = λ z. absurd (eqb-false d 48 t z);
                  },
                  first_value d ds ∙ r.1,
                )
            | false ↦ λ u h. absurd (none-some v h)
          ] refl g
    ] refl e
  where
    shaped_zero : (d : ℕ) (ds : List ℕ) (v : ℕ) → d ≡ 48 → lone_zero ds ≡ Some v → Shaped (d ∷ ds) × (digits_value (d ∷ ds) ≡ v)
    shaped_zero d [] v z g =
        let at : ◌≡◌ {A = ℕ} 0 v = cc in (
          record { digits = ap (λ x. all_ascii_digits (x ∷ [])) z; some = omega arith; short = omega arith; lone = λ _. refl },
          ap (λ x. digits_value (x ∷ [])) z ∙ at,
        )
    shaped_zero d (c ∷ cs) v z g = absurd (none-some v g)

digit_low : (d : ℕ) → is_ascii_digit d ≡ true → 48 ≤ d
digit_low d e = grind (arith, nat_tests)

pub digit_high : (d : ℕ) → is_ascii_digit d ≡ true → d ≤ 57
digit_high d e = grind (arith, nat_tests)

pub digit_small : (d : ℕ) → is_ascii_digit d ≡ true → d - 48 < 10
digit_small d e = omega (arith, digit_high d e)

-- a first digit 1 to 9, and the rest
number_first : (d : ℕ) (ds : List ℕ) → 49 ≤ d → d ≤ 57 → length ds ≤ 6 → number_of (d ∷ ds) ≡ read_on (d - 48) ds
number_first d ds low high short =
    simp (ne_eqb d 48 (λ e. omega arith), le-leb 49 d low, le-leb d 57 high, le-leb (length ds) 6 short)

number_at : (d : ℕ) (ds : List ℕ) → all_ascii_digits ds ≡ true → 48 ≤ d → d ≤ 57 → length ds ≤ 6 → (d ≡ 48 → length (d ∷ ds) ≡ 1)
    → number_of (d ∷ ds) ≡ Some (digits_after (d - 48) ds)
number_at d ds all low high short lone =
    ⊎_elim
    (λ e.
    let none : ds ≡ [] = nil_from_length ds (omega (arith, lone e)) in
    let f : d ∷ ds ≡ 48 ∷ [] = cc in
    ap number_of f ∙ ap Some (let z : ◌≡◌ {A = ℕ} 0 (d - 48) = omega arith in z ∙ ap (digits_after (d - 48)) (sym none)))
    (λ ne. number_first d ds (omega arith) high short ∙ simp all)
    (cases_eq d 48)

number_from : (f : List ℕ) → Shaped f → number_of f ≡ Some (digits_value f)
number_from [] s = absurd (let z : ⊥ = omega (arith, s.some) in z)
number_from (d ∷ ds) s =
    let all = and_parts (is_ascii_digit d) (all_ascii_digits ds) s.digits in
    number_at d ds all.1 (digit_low d all.0) (digit_high d all.0) (omega (arith, s.short)) s.lone
    ∙ ap Some (sym (first_value d ds))

decimal_shaped : (n : ℕ) → n < 10 ^ 7 → Shaped (decimal n)
decimal_shaped n lt =
    let small : n < 2 ^ 64 = omega arith in
    record {
      digits = digits_decimal own n small;
      some = decimal_nonempty n small;
      short = length-decimal-le 7 n (omega arith) lt small;
      lone = λ e. ⊎_elim
          (λ z. ap length (ap decimal z ∙ decimal_digit 0 (omega arith)))
          (λ ne. let f = first_decimal n (omega arith) small in let z : ⊥ = omega arith in absurd z)
          (cases_eq n 0);
    }

pub number_fields : NumberFields
number_fields f n = (
  λ e.
      let both = shaped f n e in
      let s = both.0 in
      let small : digits_value f < 10 ^ 7 = digits_value_short own f 7 s.digits s.short in
      (sym (decimal-digits_value own f s.digits s.some s.lone (omega arith)) ∙ ap decimal both.1, omega (arith, both.1)),
  λ e lt.
      number_from f (subst Shaped (sym e) (decimal_shaped n lt)) ∙ ap Some (ap digits_value e ∙ digits_value-decimal own n (omega arith)),
)

-- no digit ends a field or a line
digits_lack : (f : List ℕ) (b : ℕ) → all_ascii_digits f ≡ true → (IsInRange 48 57 b → ⊥) → Lacks b f
digits_lack f b d out = All-from_get_or (λ x. x ≡ b → ⊥) f 0 (not_in_digits own f b d out)

pub number_plain : (f : List ℕ) (n : ℕ) → number_of f ≡ Some n → Plain f
number_plain f n e =
    let s = (shaped f n e).0 in
    (digits_lack f 44 s.digits (λ within. omega arith), digits_lack f 10 s.digits (λ within. omega arith))

-- as slices are compared
pub same_by_items : (xs ys : List ℕ) → same xs ys ≡ pointwise eqb xs ys
same_by_items [] [] = refl
same_by_items [] (y ∷ ys) = refl
same_by_items (x ∷ xs) [] = refl
same_by_items (x ∷ xs) (y ∷ ys) = ap (λ t. eqb x y && t) (same_by_items xs ys)

-- two texts are the same just where the test says so
pub same_decides : (xs ys : List ℕ) → Decides (same xs ys) (xs ≡ ys)
same_decides xs ys = slice_eq-Decides Decides-eqb xs ys (same xs ys) (same_by_items xs ys)

pub same_self : (xs : List ℕ) → same xs xs ≡ true
same_self xs = (same_decides xs xs).1 refl

pub differ : (xs ys : List ℕ) → (xs ≡ ys → ⊥) → same xs ys ≡ false
differ xs ys ne = elim (same xs ys) as (λ t. same xs ys ≡ t → t ≡ false) [ true ↦ λ e. absurd (ne ((same_decides xs ys).0 e)) | false ↦ λ e. refl ] refl

-- ---- pins
pin_byte_writes : (b : ℕ) (p : Option Lot) → pin_byte b ≡ Some p → b ∷ [] ≡ pin_field p
pin_byte_writes b p e = grind (arith, nat_tests, common_steps)

pin_writes : (f : List ℕ) (p : Option Lot) → pin_of f ≡ Some p → f ≡ pin_field p
pin_writes [] p e = absurd (none-some p e)
pin_writes (b ∷ []) p e = pin_byte_writes b p e
pin_writes (b ∷ (c ∷ cs)) p e = absurd (none-some p e)

pub pin_of_field : (p : Option Lot) → pin_of (pin_field p) ≡ Some p
pin_of_field None = refl
pin_of_field (Some A) = refl
pin_of_field (Some B) = refl

pub pin_fields : PinFields
pin_fields f p = (pin_writes f p, λ e. ap pin_of e ∙ pin_of_field p)

pub pin_plain : (p : Option Lot) → Plain (pin_field p)
pin_plain None = ((λ e. omega arith, tt), (λ e. omega arith, tt))
pin_plain (Some A) = ((λ e. omega arith, tt), (λ e. omega arith, tt))
pin_plain (Some B) = ((λ e. omega arith, tt), (λ e. omega arith, tt))

-- ---- reading digits one by one
pub read_step : (n i : ℕ) (ds : List ℕ) → i < length ds → is_ascii_digit (get_or ds i 0) ≡ true
    → read_on n (drop i ds) ≡ read_on (n * 10 + (get_or ds i 0 - 48)) (drop (i + 1) ds)
read_step n i ds lt d = at_drop_more (read_on n) ds i 0 lt ∙ simp d

pub read_stop : (n i : ℕ) (ds : List ℕ) → i < length ds → is_ascii_digit (get_or ds i 0) ≡ false → read_on n (drop i ds) ≡ None
read_stop n i ds lt d = at_drop_more (read_on n) ds i 0 lt ∙ simp d

-- one digit more
pub power_step : (n v i : ℕ) → n < 10 ^ (i + 1) → v < 10 → n * 10 + v < 10 ^ (i + 1 + 1)
power_step n v i h l = rw (add-one (i + 1), pow-suc) (omega arith)

pub power_bound : (n i : ℕ) → n < 10 ^ (i + 1) → i < 6 → n < 1000000
power_bound n i h l =
    let p : 10 ^ (i + 1) ≤ 10 ^ 6 = pow-le-pow_right {n = 10} (omega arith) {i = i + 1} {j = 6} (omega arith) in omega arith

pub first_digit : (f : List ℕ) → 0 < length f → 49 ≤ get_or f 0 0 → get_or f 0 0 ≤ 57 → length (take (length f - 1) (drop 1 f)) ≤ 6
    → number_of f ≡ read_on (get_or f 0 0 - 48) (take (length f - 1) (drop 1 f))
first_digit f some low high short = ap number_of (first_rest f 0 some) ∙ number_first (get_or f 0 0) (take (length f - 1) (drop 1 f)) low high short
