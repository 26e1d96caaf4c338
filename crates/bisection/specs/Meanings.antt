-- What a lower bound means: a number and a charge for each link, for every parish, limit on the lots and list of lots.
-- Assumes nothing.
use Rattle.std.specs.Prelude.{ℕ, ◌+◌, Bool, cond, ◌&&◌, List, [], ◌∷◌, map, sum_by, nat_lt, slice_index}
use Rattle.parish.specs.Model.{Model}
use Rattle.parish.specs.declared.items.Link.{Link}
use Rattle.bisection.specs.Costs.{cut}

-- one number for each parish, limit and list of lots
abbrev pub Number : Type 0
Number = Model → ℕ → List ℕ → ℕ

-- a charge for each link
abbrev pub Charges : Type 0
Charges = Model → ℕ → List ℕ → List ℕ

-- the two together are what a lower bound means
pub record Meaning : Type 0 where
  pub number : Number
  pub charges : Charges

-- the charges of the links that a bisection cuts, in sum
abbrev pub cut_charges : List Link → List ℕ → List ℕ → ℕ
cut_charges [] cs d = 0
cut_charges (l ∷ ls) [] d = 0
cut_charges (l ∷ ls) (c ∷ cs) d = cond (cut d l) c 0 + cut_charges ls cs d

-- bare: the number is 0, and so is each charge
abbrev pub bare : Meaning
bare = record { number = λ m limit lots. 0; charges = λ m limit lots. map (λ _. 0) m.links }

-- both ends of a link are set, in different lots
abbrev pub is_decided : List ℕ → Link → Bool
is_decided lots l = nat_lt 0 (slice_index lots l.from) && (nat_lt 0 (slice_index lots l.to) && cut lots l)

-- the whole strength of a decided link
abbrev pub decided_charge : List ℕ → Link → ℕ
decided_charge lots l = cond (is_decided lots l) l.strength 0

-- decided: each decided link is charged its whole strength, and the number is the sum
abbrev pub decided : Meaning
decided =
    record {
      number = λ m limit lots. sum_by (decided_charge lots) m.links;
      charges = λ m limit lots. map (decided_charge lots) m.links;
    }
