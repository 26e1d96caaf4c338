-- What trees grow on: a question as seen from the home lot. Assumes nothing.
use Rattle.std.specs.Prelude.{ℕ, ◌-◌, Bool, cond, ◌&&◌, ◌||◌, List, length, ◌==◌, nat_le, slice_index, slice_index_or}
use Rattle.parish.specs.Lots.{lot_byte}
use Rattle.parish.specs.Model.{Model, no_household}
use Rattle.parish.specs.declared.items.Lot.{Lot}
use Rattle.parish.specs.declared.items.Lot.TheVariants.{A, B}
use Rattle.bounds.specs.Left.{link_at}
use Rattle.bounds.specs.Sums.{sum_below}

-- households and links by number; which links are usable; which households are unset, set in the home lot, and set in the
-- other lot
pub record Ground : Type 0 where
  pub households : ℕ
  pub links : ℕ
  pub from : ℕ → ℕ
  pub to : ℕ → ℕ
  pub weight : ℕ → ℕ
  pub usable : ℕ → Bool
  pub unset : ℕ → Bool
  pub home : ℕ → Bool
  pub away : ℕ → Bool

-- the ground of a parish and a list of lots, where home and away are the bytes of the two lots; a link is usable when the
-- charges leave at least 1 of it
abbrev pub ground : Model → List ℕ → List ℕ → ℕ → ℕ → Ground
ground m lots charges home away =
    record {
      households = length m.households;
      links = length m.links;
      from = λ k. (link_at m.links k).from;
      to = λ k. (link_at m.links k).to;
      weight = λ v. (slice_index_or m.households v no_household).weight;
      usable = λ k. nat_le 1 ((link_at m.links k).strength - slice_index charges k);
      unset = λ v. (slice_index lots v == 0);
      home = λ v. (slice_index lots v == home);
      away = λ v. (slice_index lots v == away);
    }

-- the lot that is not the home lot
abbrev pub other : Lot → Lot
other A = B
other B = A

-- the ground of a question to the layer with a home lot
abbrev pub ground_for : Lot → Model → List ℕ → List ℕ → Ground
ground_for home m lots charges = ground m lots charges (lot_byte home) (lot_byte (other home))

-- link k is usable, and leads from a household that passes one test to one that passes another
abbrev pub leads : Ground → (ℕ → Bool) → (ℕ → Bool) → ℕ → Bool
leads G near far k = G.usable k && ((near (G.from k) && far (G.to k)) || (near (G.to k) && far (G.from k)))

-- what the households that pass a test weigh
abbrev pub weight_of : Ground → (ℕ → Bool) → ℕ
weight_of G test = sum_below G.households (λ v. cond (test v) (G.weight v) 0)
