-- Bytes cut at a separator, and put together again. Assumes nothing.
use Rattle.std.specs.Prelude.{◌≡◌, ℕ, ◌<◌, cond, List, [], ◌∷◌, ◌++◌, length, Some, None, Option, ◌==◌, ◌≢◌, slice_index_or}
use Rattle.std.specs.Borrow.{Bor}
use Rattle.std.specs.List.{AllByRecursion}

-- one byte more at the front of the first piece
abbrev pub onto : ℕ → List (List ℕ) → List (List ℕ)
onto x [] = (x ∷ []) ∷ []
onto x (p ∷ ps) = (x ∷ p) ∷ ps

-- the pieces of a text between its bytes b: one more than it has bytes b
abbrev pub pieces : ℕ → List ℕ → List (List ℕ)
pieces b [] = [] ∷ []
pieces b (x ∷ xs) = cond (x == b) ([] ∷ pieces b xs) (onto x (pieces b xs))

-- pieces put together, with a byte b between each and the next
abbrev pub glued : ℕ → List (List ℕ) → List ℕ
glued b [] = []
glued b (p ∷ []) = p
glued b (p ∷ (q ∷ ps)) = p ++ (b ∷ glued b (q ∷ ps))

-- no byte is b
abbrev pub Lacks : ℕ → List ℕ → Type 0
Lacks b s = AllByRecursion (λ x. x ≢ b) s

-- what cutting s at b means: put together again the pieces are s, and none of them has a byte b
pub record Cut (b : ℕ) (s : List ℕ) (ps : List (List ℕ)) : Type 0 where
  pub some : 0 < length ps
  pub whole : glued b ps ≡ s
  pub apart : AllByRecursion (Lacks b) ps

-- the pieces are such a cut, and the only one
abbrev pub PiecesAreTheCut : Type 0
PiecesAreTheCut = (b : ℕ) (s : List ℕ) → Cut b s (pieces b s) × ((ps : List (List ℕ)) → Cut b s ps → ps ≡ pieces b s)

-- one part is taken off the front of what is unread, up to the first byte b; or there is no such byte, and nothing is taken
abbrev pub Parted : ℕ → List ℕ → List ℕ → Option (Bor (List ℕ)) → Type 0
Parted b before after None = (pieces b before ≡ before ∷ []) × (after ≡ before)
Parted b before after (Some part) = (pieces b before ≡ part.now ∷ pieces b after) × (length after < length before)

-- the piece of a number, counted from 1; nothing where there is none
abbrev pub numbered : ℕ → List (List ℕ) → List ℕ
numbered n ps = slice_index_or ([] ∷ ps) n []
