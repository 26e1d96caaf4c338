-- What a field may be: a number, or the letter of a lot. Assumes nothing.
use Rattle.std.specs.Prelude.{◌≡◌, ℕ, ◌+◌, ◌-◌, ◌*◌, ◌^◌, ◌<◌, Bool, true, false, cond, ◌&&◌, List, [], ◌∷◌, length, Some, None, codes, decimal, Option, ◌==◌, nat_le}
use Rattle.std.specs.Str.{all_ascii_digits}
use Rattle.parish.specs.declared.items.Lot.{Lot}
use Rattle.parish.specs.declared.items.Lot.TheVariants.{A, B}

-- two texts are the same
abbrev pub same : List ℕ → List ℕ → Bool
same [] [] = true
same [] (y ∷ ys) = false
same (x ∷ xs) [] = false
same (x ∷ xs) (y ∷ ys) = x == y && same xs ys

-- the number that digits write after those that write n
abbrev pub digits_after : ℕ → List ℕ → ℕ
digits_after n [] = n
digits_after n (d ∷ ds) = digits_after (n * 10 + (d - 48)) ds

-- the number that digits write after those that write n, if all are digits
abbrev pub read_on : ℕ → List ℕ → Option ℕ
read_on n ds = cond (all_ascii_digits ds) (Some (digits_after n ds)) None

-- what may follow a first digit 0: nothing
abbrev pub lone_zero : List ℕ → Option ℕ
lone_zero [] = Some 0
lone_zero (d ∷ ds) = None

-- the number that a field writes, if it writes one: the lone 0, or a first digit 1 to 9 and at most six more
abbrev pub number_of : List ℕ → Option ℕ
number_of [] = None
number_of (d ∷ ds) = cond (d == 48) (lone_zero ds) (cond (nat_le 49 d && nat_le d 57 && nat_le (length ds) 6) (read_on (d - 48) ds) None)

-- the same in words: a field writes a number just where it is the decimal writing of that number, below ten million
abbrev pub NumberFields : Type 0
NumberFields = (f : List ℕ) (n : ℕ) → (number_of f ≡ Some n → (f ≡ decimal n) × (n < 10 ^ 7)) × (f ≡ decimal n → n < 10 ^ 7 → number_of f ≡ Some n)

-- how a pin is written
abbrev pub pin_field : Option Lot → List ℕ
pin_field None = codes "-"
pin_field (Some A) = codes "A"
pin_field (Some B) = codes "B"

-- the pin that a byte writes, if it writes one
abbrev pub pin_byte : ℕ → Option (Option Lot)
pin_byte b = cond (b == 65) (Some (Some A)) (cond (b == 66) (Some (Some B)) (cond (b == 45) (Some None) None))

-- the pin that a field writes, if it writes one
abbrev pub pin_of : List ℕ → Option (Option Lot)
pin_of [] = None
pin_of (b ∷ []) = pin_byte b
pin_of (b ∷ (c ∷ cs)) = None

-- the same in words: a field writes a pin just where it is the writing of that pin
abbrev pub PinFields : Type 0
PinFields = (f : List ℕ) (p : Option Lot) → (pin_of f ≡ Some p → f ≡ pin_field p) × (f ≡ pin_field p → pin_of f ≡ Some p)
