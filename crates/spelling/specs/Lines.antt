-- How a sheet is read onto a parish, line by line, for any kind of sheet. What this gives is said in plain words in Laws.
-- Assumes nothing.
use Rattle.std.specs.Prelude.{◌≡◌, ℕ, ◌+◌, Bool, cond, List, [], ◌∷◌, length, Some, None, Ok, Err, Option, Result, ◌==◌}
use Rattle.std.specs.Option.{option_map, ok_or}
use Rattle.parish.specs.declared.items.Household.{Household}
use Rattle.parish.specs.declared.items.Link.{Link}
use Rattle.parish.specs.Edits.{answer_by}
use Rattle.parish.specs.Model.{Model}
use Rattle.faults.specs.declared.LineFault.{LineFault}
use Rattle.faults.specs.declared.LineFault.TheVariants.{WrongNames, WrongCount, Field}
use Rattle.faults.specs.declared.LoadFault.{LoadFault}
use Rattle.faults.specs.declared.LoadFault.TheVariants.{Line, Parish}
use Rattle.faults.specs.declared.ParishFault.{ParishFault}
use Rattle.faults.specs.declared.Place.{Place}
use Rattle.spelling.specs.Fields.{same, number_of, pin_of}
use Rattle.spelling.specs.Kinds.{Kind}
use Rattle.spelling.specs.Pieces.{pieces}

-- a result, and what comes after it where it is good
abbrev pub and_then : {X Y E : Type 0} → Result X E → (X → Result Y E) → Result Y E
and_then (Ok x) f = f x
and_then (Err e) f = Err e

-- a lower layer's fault, passed on whole
abbrev pub raised : {X E F : Type 0} → (E → F) → Result X E → Result X F
raised up (Ok x) = Ok x
raised up (Err e) = Err (up e)

-- the number, counted from n, of the first field that is not as wanted
abbrev pub first_unwanted : ℕ → List (List ℕ → Bool) → List (List ℕ) → Option ℕ
first_unwanted n [] fs = None
first_unwanted n (w ∷ ws) [] = None
first_unwanted n (w ∷ ws) (f ∷ fs) = cond (w f) (first_unwanted (n + 1) ws fs) (Some n)

-- the count of fields is tested before any of them
abbrev pub line_fault : List (List ℕ → Bool) → Place → List (List ℕ) → Option LineFault
line_fault wanted p fs =
    cond (length fs == length wanted) (option_map (λ i. Field (record { place = p; field = i })) (first_unwanted 1 wanted fs)) (Some (WrongCount p))

module _ {R : Type 0} (K : Kind R) where
  -- line n of the kind's sheet
  abbrev pub place_of : ℕ → Place
  place_of n = record { sheet = K.sheet; line = n }

  -- the record that fields write, or the fault of their line
  abbrev pub spelt_by : Place → List (List ℕ) → Result R LineFault
  spelt_by p fs = answer_by (line_fault K.wanted p fs) (K.value fs)

  -- the record that a line writes
  abbrev pub spelt : Place → List ℕ → Result R LineFault
  spelt p line = spelt_by p (pieces 44 line)

  -- a parish with one record more
  abbrev pub accepted : Place → Model → R → Result Model ParishFault
  accepted p m r =
      answer_by (option_map (λ e. record { place = p; field = K.blamed m r e; refusal = e }) (K.refusal m r)) (K.with_more m (r ∷ []))

  -- a record is added where it is accepted, and else nothing is
  abbrev pub Added : Place → Model → R → Model → Result (Unit {0}) ParishFault → Type 0
  Added p m r m' (Ok x) = accepted p m r ≡ Ok m'
  Added p m r m' (Err e) = (accepted p m r ≡ Err e) × (m' ≡ m)

  -- a parish, once a line is read onto it
  abbrev pub line_read : Place → Model → List ℕ → Result Model LoadFault
  line_read p m line = and_then (raised Line (spelt p line)) (λ r. raised Parish (accepted p m r))

  -- what stands after the last byte 10: nothing, or a line that is not ended
  abbrev pub tail_read : Place → Model → List ℕ → Result Model LoadFault
  tail_read p m [] = Ok m
  tail_read p m (x ∷ xs) = Err (Line (WrongCount p))

  -- the value lines from line n on; the last piece is what stands after the last byte 10
  abbrev pub lines_read : ℕ → Model → List (List ℕ) → Result Model LoadFault
  lines_read n m [] = Ok m
  lines_read n m (last ∷ []) = tail_read (place_of n) m last
  lines_read n m (line ∷ (next ∷ more)) = and_then (line_read (place_of n) m line) (λ m'. lines_read (n + 1) m' (next ∷ more))

  -- a sheet's lines: its names line, and the value lines from line 2 on
  abbrev pub all_read : Model → List (List ℕ) → Result Model LoadFault
  all_read m [] = Err (Line (WrongNames (place_of 1)))
  all_read m (last ∷ []) = Err (Line (WrongNames (place_of 1)))
  all_read m (names ∷ (next ∷ more)) = cond (same names K.names) (lines_read 2 m (next ∷ more)) (Err (Line (WrongNames (place_of 1))))

  -- a sheet, read onto a parish
  abbrev pub sheet_read : Model → List ℕ → Result Model LoadFault
  sheet_read m sheet = all_read m (pieces 10 sheet)

-- what reading answers, and the parish that it leaves where it succeeds
abbrev pub Read : Result Model LoadFault → Model → Result (Unit {0}) LoadFault → Type 0
Read outcome m (Ok x) = outcome ≡ Ok m
Read outcome m (Err f) = outcome ≡ Err f

-- ---- the same for each kind, field by field from the left
-- field k, or its fault
abbrev pub wanted_field : {X : Type 0} → (List ℕ → Option X) → Place → ℕ → List ℕ → Result X LineFault
wanted_field meaning p k f = raised Field (ok_or (meaning f) (record { place = p; field = k }))

-- a household by its two fields
abbrev pub household_by : Place → List ℕ → List ℕ → Result Household LineFault
household_by p a b =
    and_then (wanted_field number_of p 1 a) (λ weight.
    and_then (wanted_field pin_of p 2 b) (λ pin. Ok (record { weight = weight; pin = pin })))

-- a link by its three fields
abbrev pub link_by : Place → List ℕ → List ℕ → List ℕ → Result Link LineFault
link_by p a b c =
    and_then (wanted_field number_of p 1 a) (λ from.
    and_then (wanted_field number_of p 2 b) (λ to.
    and_then (wanted_field number_of p 3 c) (λ strength. Ok (record { from = from; to = to; strength = strength }))))
