-- What charges leave of each link. Assumes nothing.
use Rattle.std.specs.Prelude.{ℕ, ◌-◌, List, length, slice_index, slice_index_or}
use Rattle.parish.specs.Model.{no_link}
use Rattle.parish.specs.declared.items.Link.{Link}
use Rattle.bounds.specs.Sums.{listed}

-- link k
abbrev pub link_at : List Link → ℕ → Link
link_at ls k = slice_index_or ls k no_link

-- what charges leave of each link
abbrev pub left_of : List Link → List ℕ → List ℕ
left_of ls charges = listed (length ls) (λ k. (link_at ls k).strength - slice_index charges k)
