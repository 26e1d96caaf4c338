-- What charges leave of each link, by index. Assumes nothing.
use Rattle.std.proofs.Common.{◌≡◌, ℕ, ◌-◌, ◌<◌, List, length, get_or, arith}
use Rattle.std.proofs.lemmas.List.{get_or-map}
use Rattle.std.proofs.lemmas.List.FromFn.{length-map-range_with_len, get_or-map-range_with_len}
use Rattle.parish.specs.Model.{no_link}
use Rattle.parish.specs.declared.items.Link.{Link}
use Rattle.bounds.specs.Bounds.{strengths}
use Rattle.bounds.specs.Left.{link_at, left_of}

pub length_left : (ls : List Link) (charges : List ℕ) → length (left_of ls charges) ≡ length ls
length_left ls charges = length-map-range_with_len (λ k. (link_at ls k).strength - get_or charges k 0) 0 (length ls)

pub left_at_link : (ls : List Link) (charges : List ℕ) (k : ℕ) → k < length ls → get_or (left_of ls charges) k 0 ≡ (link_at ls k).strength - get_or charges k 0
left_at_link ls charges k lt = get_or-map-range_with_len (λ k. (link_at ls k).strength - get_or charges k 0) 0 (length ls) k k 0 lt (omega arith)

pub strength_at : (ls : List Link) (k : ℕ) → k < length ls → get_or (strengths ls) k 0 ≡ (link_at ls k).strength
strength_at ls k lt = get_or-map (λ (l : Link). l.strength) ls k no_link 0 lt
