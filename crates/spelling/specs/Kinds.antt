-- The two kinds of sheet: names line, fields, record, and what a parish refuses of it. Assumes nothing.
use Rattle.std.specs.Prelude.{ℕ, Bool, cond, List, [], ◌∷◌, ◌++◌, length, is_some, Some, None, codes, decimal, Option, nat_lt, slice_index_or}
use Rattle.parish.specs.declared.items.Household.{Household}
use Rattle.parish.specs.declared.items.Link.{Link}
use Rattle.parish.specs.declared.refusals.Refusal.{Refusal}
use Rattle.parish.specs.declared.refusals.Refusal.TheVariants.{SearchOpen, NoSearch, WrongList, AllowanceSpent, OutsideLimits, NoHousehold, SelfLink, ParishFull, WrongNames, WrongCount, WrongField}
use Rattle.parish.specs.Edits.{household_table, link_table}
use Rattle.parish.specs.Model.{Model}
use Rattle.parish.specs.Refusals.{first_applying}
use Rattle.faults.specs.declared.Sheet.{Sheet}
use Rattle.faults.specs.declared.Sheet.TheVariants.{Households, Links}
use Rattle.std.specs.Option.{unwrap_or}
use Rattle.spelling.specs.Fields.{number_of, pin_of, pin_field}

-- a field writes something
abbrev pub writes : {X : Type 0} → (List ℕ → Option X) → List ℕ → Bool
writes meaning f = is_some (meaning f)

-- what field k writes
abbrev pub field : {X : Type 0} → (List ℕ → Option X) → X → List (List ℕ) → ℕ → X
field meaning default fs k = unwrap_or (meaning (slice_index_or fs k [])) default

-- a kind of sheet, whose value lines write records R
pub record Kind (R : Type 0) : Type 0 where
  pub sheet : Sheet
  pub names : List ℕ
  -- a test for each field of a value line
  pub wanted : List (List ℕ → Bool)
  -- the record that fields write, where each is as wanted
  pub value : List (List ℕ) → R
  -- the fields that write a record
  pub fields : R → List (List ℕ)
  -- why a parish refuses one record more, if it does, and the field to blame, if one is
  pub refusal : Model → R → Option Refusal
  pub blamed : Model → R → Refusal → Option ℕ
  -- a parish with more records at the end
  pub with_more : Model → List R → Model

-- the weight is field 1; where the parish is full no field is to blame
abbrev pub blamed_in_household : Refusal → Option ℕ
blamed_in_household SearchOpen = None
blamed_in_household NoSearch = None
blamed_in_household WrongList = None
blamed_in_household AllowanceSpent = None
blamed_in_household OutsideLimits = Some 1
blamed_in_household NoHousehold = None
blamed_in_household SelfLink = None
blamed_in_household ParishFull = None
blamed_in_household WrongNames = None
blamed_in_household WrongCount = None
blamed_in_household WrongField = None

-- the households sheet
abbrev pub households_kind : Kind Household
households_kind =
    record {
      sheet = Households;
      names = codes "weight,lot";
      wanted = writes number_of ∷ (writes pin_of ∷ []);
      value = λ fs. record { weight = field number_of 0 fs 0; pin = field pin_of None fs 1 };
      fields = λ h. decimal h.weight ∷ (pin_field h.pin ∷ []);
      refusal = λ m h. first_applying (household_table m h.weight);
      blamed = λ m h e. blamed_in_household e;
      with_more = λ m hs. record { households = m.households ++ hs; links = m.links };
    }

-- among so many households: the strength is field 3, an end that is none of them the leftmost such, a link to itself field 2
abbrev pub blamed_in_link : ℕ → Link → Refusal → Option ℕ
blamed_in_link households l SearchOpen = None
blamed_in_link households l NoSearch = None
blamed_in_link households l WrongList = None
blamed_in_link households l AllowanceSpent = None
blamed_in_link households l OutsideLimits = Some 3
blamed_in_link households l NoHousehold = Some (cond (nat_lt l.from households) 2 1)
blamed_in_link households l SelfLink = Some 2
blamed_in_link households l ParishFull = None
blamed_in_link households l WrongNames = None
blamed_in_link households l WrongCount = None
blamed_in_link households l WrongField = None

-- the links sheet
abbrev pub links_kind : Kind Link
links_kind =
    record {
      sheet = Links;
      names = codes "from,to,strength";
      wanted = writes number_of ∷ (writes number_of ∷ (writes number_of ∷ []));
      value = λ fs. record { from = field number_of 0 fs 0; to = field number_of 0 fs 1; strength = field number_of 0 fs 2 };
      fields = λ l. decimal l.from ∷ (decimal l.to ∷ (decimal l.strength ∷ []));
      refusal = λ m l. first_applying (link_table m l);
      blamed = λ m l e. blamed_in_link (length m.households) l e;
      with_more = λ m ls. record { households = m.households; links = m.links ++ ls };
    }
