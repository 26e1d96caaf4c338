-- Numbers in decimal with a comma between each two, one number after another. Assumes nothing.
use Rattle.std.proofs.Common.{◌≡◌, ℕ, ◌+◌, ◌<◌, List, [], ◌∷◌, ◌++◌, length, map, take, get_or, decimal, refl, ap, sym, ◌∙◌, arith}
use Rattle.std.proofs.lemmas.List.{append_assoc, take_more, length-take}
use Rattle.std.specs.List.{join_with_byte}

abbrev pub joined : List ℕ → List ℕ
joined ns = join_with_byte 44 (map decimal ns)

joined-push : (ns : List ℕ) (n : ℕ) → 0 < length ns → joined (ns ++ (n ∷ [])) ≡ joined ns ++ (44 ∷ decimal n)
joined-push [] n h = absurd (omega arith)
joined-push (m ∷ []) n h = refl
joined-push (m ∷ o ∷ ns) n h =
    ap (λ t. decimal m ++ (44 ∷ t)) (joined-push (o ∷ ns) n (omega arith))
    ∙ sym (append_assoc (decimal m) (44 ∷ joined (o ∷ ns)) (44 ∷ decimal n))

pub joined_first : (ns : List ℕ) → 0 < length ns → joined (take 1 ns) ≡ decimal (get_or ns 0 0)
joined_first [] h = absurd (omega arith)
joined_first (n ∷ ns) h = refl

pub joined_more : (k : ℕ) (ns : List ℕ) → 0 < k → k < length ns → joined (take (k + 1) ns) ≡ joined (take k ns) ++ (44 ∷ decimal (get_or ns k 0))
joined_more k ns h g =
    ap joined (take_more ns k 0 g) ∙ joined-push (take k ns) (get_or ns k 0) (omega (arith, length-take k ns))
