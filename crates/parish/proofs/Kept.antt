-- One household or link more, within what is accepted, keeps the limits. Assumes nothing.
use Rattle.std.proofs.Common.{◌≡◌, ℕ, ◌<◌, ◌≤◌, List, [], ◌∷◌, ◌++◌, length, get_or, sym, subst, arith}
use Rattle.std.proofs.lemmas.List.Elements.{AllWithin-push}
use Rattle.parish.specs.Limits.{heaviest_held, Weights, Joins, Joined}
use Rattle.parish.specs.declared.items.Household.{Household}
use Rattle.parish.specs.declared.items.Link.{Link}

-- what holds of every element of a list, and of one more, holds of every element of the longer list
every_more : {X : Type 0} (P : X → Type 0) (xs xs' : List X) (x : X) → xs' ≡ xs ++ (x ∷ [])
    → ((k : ℕ) (d : X) → k < length xs → P (get_or xs k d)) → P x → (k : ℕ) (d : X) → k < length xs' → P (get_or xs' k d)
every_more P xs xs' x e all here k d lt =
    let more = AllWithin-push P xs x (λ i y _ below. all i y below) here in
    subst (λ ys. k < length ys → P (get_or ys k d)) (sym e) (λ below. more k d (omega arith) below) lt

pub weights_push : (hs hs' : List Household) (h : Household) → hs' ≡ hs ++ (h ∷ []) → Weights hs → h.weight ≤ heaviest_held → Weights hs'
weights_push hs hs' h e w fits = every_more (λ x. x.weight ≤ heaviest_held) hs hs' h e w fits

pub joined_push : (n : ℕ) (ls ls' : List Link) (l : Link) → ls' ≡ ls ++ (l ∷ []) → Joined n ls → Joins n l → Joined n ls'
joined_push n ls ls' l e all here = every_more (Joins n) ls ls' l e all here

-- links among n households are links among more
pub joined_among_more : (n n' : ℕ) (ls : List Link) → n ≤ n' → Joined n ls → Joined n' ls
joined_among_more n n' ls le all k d lt =
    let e = all k d lt in (omega (arith, e.0), omega (arith, e.1), e.2, e.3, e.4)
