-- The laws of the packing layer. Assumes nothing.
use Rattle.std.proofs.Common.{ℕ, get_or, ap, inl, inr, arith}
use Rattle.std.proofs.lemmas.Bool.{cases_lt}
use Rattle.parish.specs.declared.items.Lot.{Lot}
use Rattle.bisection.specs.Weights.{least_lot_weight}
use Rattle.bounds.specs.Adding.{added, IsLayer}
use Rattle.bounds.proofs.Over.{over_bounds}
use Rattle.forest.specs.Grounds.{Ground, ground_for}
use Rattle.forest.specs.Forests.{forest}
use Rattle.forest.specs.Fewest.{target}
use Rattle.forest.specs.Layers.{packed_charges, packed_number, packing_addition}
use Rattle.forest.specs.Laws.{PackingLaw, PackingLaws, SamePacking, PackingBounds}
use Rattle.forest.proofs.Trees.{Fair, forest_right}
use Rattle.forest.proofs.Ending.{forest_done}
use Rattle.forest.proofs.Runs.{forest_grows, forest_alone}
use Rattle.forest.proofs.Planting.{planting_words}
use Rattle.forest.proofs.Fewest.{fewest_words}
use Rattle.forest.proofs.Packed.{ground_fair, packing_adds}

pub packing_law : {G : Ground} → Fair G → (least_weight : ℕ) → PackingLaw G least_weight
packing_law {G} fair least_weight =
    record {
      planting = planting_words fair;
      grown = forest_grows fair;
      only = forest_alone fair;
      ended = forest_done fair;
      number = fewest_words G (forest G) (target G (forest G) least_weight);
      long = (forest_right fair).links_long;
      one = λ k.
          elim (cases_lt 0 (get_or (packed_charges G) k 0)) [
            | inl l ↦ inr (omega (arith, (forest_right fair).once k))
            | inr g ↦ inl (omega arith)
          ];
    }

pub packing_laws : PackingLaws
packing_laws home m limit lots charges sound ok = packing_law (ground_fair home m lots charges sound) (least_lot_weight m limit)

pub same_packing : SamePacking
same_packing home B C m limit lots e =
    let number = ap (λ cs. packed_number (ground_for home m lots cs) (least_lot_weight m limit)) e in
    (omega (arith, number), ap (λ cs. added cs (packed_charges (ground_for home m lots cs))) e)

pub packing_is_layer : (home : Lot) → IsLayer (packing_addition home)
packing_is_layer home m limit lots below sound ok within = packing_adds home m limit lots below sound within

pub packing_bounds : PackingBounds
packing_bounds home = over_bounds (packing_addition home) (packing_is_layer home)
