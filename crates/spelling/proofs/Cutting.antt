-- Cutting bytes at a separator, and putting the pieces together again. Assumes nothing.
use Rattle.std.proofs.Common.{◌≡◌, ◌≢◌, ℕ, Option, Some, None, Bor, ◌+◌, ◌-◌, ◌<◌, ◌≤◌, true, false, cond, ◌||◌, eqb, List, [], ◌∷◌, ◌++◌, length, get_or, take, drop, sym, refl, ap, ◌∙◌, subst, arith, eq-eqb, ne_eqb, eqb-true}
use borrow.Author.Tests.{eqb-false, clash}
use Rattle.std.proofs.ByRecursion.{All-from_get_or}
use Rattle.std.proofs.lemmas.List.{drop-drop, drop_more, get_or_past, get_or-take, length-drop, length-take-le, take-append-drop}
use Rattle.std.proofs.lemmas.Grind.{common_steps}
use Rattle.std.proofs.lemmas.Option.{unwrap_or-slice_get}
use Rattle.std.specs.Option.{option_map, unwrap_or}
use Rattle.std.specs.List.{AllByRecursion, list_any, slice_split, slice_get, onto_first}
use Rattle.spelling.specs.Pieces.{onto, pieces, glued, Lacks, PiecesAreTheCut, numbered}

-- there is always a first piece
onto_some : (x : ℕ) (ps : List (List ℕ)) → 0 < length (onto x ps)
onto_some x [] = omega arith
onto_some x (p ∷ ps) = omega arith

pub pieces_some : (b : ℕ) (s : List ℕ) → 0 < length (pieces b s)
pieces_some b [] = omega arith
pieces_some b (x ∷ xs) =
    elim (eqb x b) as (λ t. 0 < length (cond t ([] ∷ pieces b xs) (onto x (pieces b xs)))) [ true ↦ omega arith | false ↦ onto_some x (pieces b xs) ]

-- put together, the pieces are the text
glued_onto : (b x : ℕ) (ps : List (List ℕ)) → glued b (onto x ps) ≡ x ∷ glued b ps
glued_onto b x [] = refl
glued_onto b x (p ∷ []) = refl
glued_onto b x (p ∷ (q ∷ ps)) = refl

glued_empty : (b : ℕ) (ps : List (List ℕ)) → 0 < length ps → glued b ([] ∷ ps) ≡ b ∷ glued b ps
glued_empty b [] h = absurd (let z : ⊥ = omega arith in z)
glued_empty b (p ∷ ps) h = refl

pub glued_pieces : (b : ℕ) (s : List ℕ) → glued b (pieces b s) ≡ s
glued_pieces b [] = refl
glued_pieces b (x ∷ xs) =
    elim (eqb x b) as (λ t. eqb x b ≡ t → glued b (cond t ([] ∷ pieces b xs) (onto x (pieces b xs))) ≡ x ∷ xs) [
      | true ↦ λ e.
          glued_empty b (pieces b xs) (pieces_some b xs)
          ∙ ap (λ ys. b ∷ ys) (glued_pieces b xs)
          ∙ ap (λ y. y ∷ xs) (sym (eqb-true x b e))
      | false ↦ λ e. glued_onto b x (pieces b xs) ∙ ap (λ ys. x ∷ ys) (glued_pieces b xs)
    ] refl

-- no piece has the separator
onto_lacks : (b x : ℕ) (ps : List (List ℕ)) → (x ≡ b → ⊥) → AllByRecursion (Lacks b) ps → AllByRecursion (Lacks b) (onto x ps)
onto_lacks b x [] ne all = ((ne, tt), tt)
onto_lacks b x (p ∷ ps) ne all = ((ne, all.0), all.1)

pub pieces_lack : (b : ℕ) (s : List ℕ) → AllByRecursion (Lacks b) (pieces b s)
pieces_lack b [] = (tt, tt)
pieces_lack b (x ∷ xs) =
    elim (eqb x b) as (λ t. eqb x b ≡ t → AllByRecursion (Lacks b) (cond t ([] ∷ pieces b xs) (onto x (pieces b xs)))) [
      | true ↦ λ e. (tt, pieces_lack b xs)
      | false ↦ λ e. onto_lacks b x (pieces b xs) (eqb-false x b e) (pieces_lack b xs)
    ] refl

-- nor a byte that the text lacks
pub pieces_free : (b c : ℕ) (s : List ℕ) → Lacks c s → AllByRecursion (Lacks c) (pieces b s)
pieces_free b c [] l = (tt, tt)
pieces_free b c (x ∷ xs) l =
    elim (eqb x b) as (λ t. AllByRecursion (Lacks c) (cond t ([] ∷ pieces b xs) (onto x (pieces b xs)))) [
      | true ↦ (tt, pieces_free b c xs l.1)
      | false ↦ onto_lacks c x (pieces b xs) l.0 (pieces_free b c xs l.1)
    ]

-- the first piece ends at the first separator
pub pieces_at : (b : ℕ) (p rest : List ℕ) → Lacks b p → pieces b (p ++ (b ∷ rest)) ≡ p ∷ pieces b rest
pieces_at b [] rest l = ap (λ t. cond t ([] ∷ pieces b rest) (onto b (pieces b rest))) (eq-eqb b b refl)
pieces_at b (x ∷ p) rest l =
    ap (λ t. cond t ([] ∷ pieces b (p ++ (b ∷ rest))) (onto x (pieces b (p ++ (b ∷ rest))))) (ne_eqb x b l.0)
    ∙ ap (onto x) (pieces_at b p rest l.1)

-- a text with no separator is one piece
pub pieces_whole : (b : ℕ) (p : List ℕ) → Lacks b p → pieces b p ≡ p ∷ []
pieces_whole b [] l = refl
pieces_whole b (x ∷ p) l =
    ap (λ t. cond t ([] ∷ pieces b p) (onto x (pieces b p))) (ne_eqb x b l.0) ∙ ap (onto x) (pieces_whole b p l.1)

-- a text with one is more
onto_long : (x : ℕ) (ps : List (List ℕ)) → 0 < length ps → length (onto x ps) ≡ length ps
onto_long x [] some = absurd (let z : ⊥ = omega arith in z)
onto_long x (p ∷ ps) some = refl

pub pieces_more : (b : ℕ) (s : List ℕ) → list_any (λ x. eqb x b) s ≡ true → 1 < length (pieces b s)
pieces_more b [] e = absurd (clash e)
pieces_more b (x ∷ xs) e =
    elim (eqb x b) as (λ t. (t || list_any (λ y. eqb y b) xs) ≡ true → 1 < length (cond t ([] ∷ pieces b xs) (onto x (pieces b xs)))) [
      | true ↦ λ _. let some = pieces_some b xs in omega arith
      | false ↦ λ f. let more = pieces_more b xs f in omega (arith, onto_long x (pieces b xs) (pieces_some b xs))
    ] e

pub pieces_one : (b : ℕ) (s : List ℕ) → list_any (λ x. eqb x b) s ≡ false → pieces b s ≡ s ∷ []
pieces_one b [] e = refl
pieces_one b (x ∷ xs) e =
    elim (eqb x b) as (λ t. (t || list_any (λ y. eqb y b) xs) ≡ false → cond t ([] ∷ pieces b xs) (onto x (pieces b xs)) ≡ (x ∷ xs) ∷ []) [
      | true ↦ λ f. absurd (clash (sym f))
      | false ↦ λ f. ap (onto x) (pieces_one b xs f)
    ] e

pub pieces_glued : (b : ℕ) (ps : List (List ℕ)) → 0 < length ps → AllByRecursion (Lacks b) ps → pieces b (glued b ps) ≡ ps
pieces_glued b [] h all = absurd (let z : ⊥ = omega arith in z)
pieces_glued b (p ∷ []) h all = pieces_whole b p all.0
pieces_glued b (p ∷ (q ∷ ps)) h all =
    pieces_at b p (glued b (q ∷ ps)) all.0 ∙ ap (λ qs. p ∷ qs) (pieces_glued b (q ∷ ps) (omega arith) all.1)

pub pieces_are_the_cut : PiecesAreTheCut
pieces_are_the_cut b s = (
  record { some = pieces_some b s; whole = glued_pieces b s; apart = pieces_lack b s },
  λ ps c. sym (pieces_glued b ps c.some c.apart) ∙ ap (pieces b) c.whole,
)

-- by places: the first separator stands at n
lacks_front : (b n : ℕ) (s : List ℕ) → n ≤ length s → ((k : ℕ) → k < n → get_or s k 0 ≡ b → ⊥) → Lacks b (take n s)
lacks_front b n s le ne =
    let len = length-take-le n s le in
    All-from_get_or (λ x. x ≢ b) (take n s) 0 (λ k lt e. let below : k < n = omega arith in ne k below (sym (get_or-take n s k 0 below) ∙ e))

pub pieces_found : (b n : ℕ) (s : List ℕ) → n < length s → ((k : ℕ) → k < n → get_or s k 0 ≡ b → ⊥) → get_or s n 0 ≡ b
    → pieces b s ≡ take n s ∷ pieces b (drop (n + 1) s)
pieces_found b n s lt ne here =
    let whole : s ≡ take n s ++ (b ∷ drop (n + 1) s) =
    sym (take-append-drop n s) ∙ ap (λ xs. take n s ++ xs) (drop_more s n 0 lt ∙ ap (λ x. x ∷ drop (n + 1) s) here) in
    ap (pieces b) whole ∙ pieces_at b (take n s) (drop (n + 1) s) (lacks_front b n s (omega arith) ne)

pub pieces_none : (b : ℕ) (s : List ℕ) → ((k : ℕ) → k < length s → get_or s k 0 ≡ b → ⊥) → pieces b s ≡ s ∷ []
pieces_none b s ne = pieces_whole b s (All-from_get_or (λ x. x ≢ b) s 0 ne)

-- a reader of `bytes` that found the separator n bytes on in what is unread
pub part_found : (b n place : ℕ) (bytes unread rest : List ℕ) → drop place bytes ≡ unread → rest ≡ unread → n < length rest
    → ((k : ℕ) → k < n → get_or rest k 0 ≡ b → ⊥) → get_or rest n 0 ≡ b
    → (pieces b unread ≡ take n rest ∷ pieces b (drop (place + (n + 1)) bytes))
    × (length (drop (place + (n + 1)) bytes) < length unread)
    × (place + (n + 1) ≤ length bytes)
part_found b n place bytes unread rest view e lt ne here =
    let on : drop (n + 1) rest ≡ drop (place + (n + 1)) bytes = ap (drop (n + 1)) (e ∙ sym view) ∙ drop-drop (n + 1) place bytes in
    let long : length rest ≡ length bytes - place = ap length (e ∙ sym view) ∙ length-drop place bytes in
    let less = length-drop (n + 1) rest in
    let same = ap length on in
    let whole = ap length e in
    (ap (pieces b) (sym e) ∙ pieces_found b n rest lt ne here ∙ ap (λ s. take n rest ∷ pieces b s) on, omega arith, omega arith)

-- and one that found none
pub part_none : (b : ℕ) (unread rest : List ℕ) → rest ≡ unread → ((k : ℕ) → k < length rest → get_or rest k 0 ≡ b → ⊥) → pieces b unread ≡ unread ∷ []
part_none b unread rest e ne = subst (λ s. pieces b s ≡ s ∷ []) e (pieces_none b rest ne)

-- past the last piece there is nothing
pub numbered_past : (b k : ℕ) (s : List ℕ) → pieces b s ≡ s ∷ [] → 2 ≤ k → numbered k (pieces b s) ≡ []
numbered_past b k s e le = ap (numbered k) e ∙ get_or_past ([] ∷ (s ∷ [])) k [] le

-- the pieces are those that the library cuts
onto_first_piece : (x : ℕ) (ps : List (List ℕ)) → onto x ps ≡ onto_first x ps
onto_first_piece x [] = refl
onto_first_piece x (p ∷ ps) = refl

pieces_split : (b : ℕ) (s : List ℕ) → pieces b s ≡ slice_split (λ x. eqb x b) s
pieces_split b [] = refl
pieces_split b (x ∷ xs) =
    ap (λ ps. cond (eqb x b) ([] ∷ ps) (onto x ps)) (pieces_split b xs)
    ∙ ap (cond (eqb x b) ([] ∷ slice_split (λ y. eqb y b) xs)) (onto_first_piece x (slice_split (λ y. eqb y b) xs))

-- the piece of a number, where the library takes it
pub numbered_split : (b n k : ℕ) (s : List ℕ) (r : Option (Bor (List ℕ))) (none : Bor (List ℕ)) → none.now ≡ [] → n ≡ k + 1
    → option_map (λ x. x.now) r ≡ slice_get (slice_split (λ x. eqb x b) s) k → (unwrap_or r none).now ≡ numbered n (pieces b s)
numbered_split b n k s None none empty at e = let split = pieces_split b s in let piece = unwrap_or-slice_get (pieces b s) k [] in grind (arith, common_steps)
numbered_split b n k s (Some part) none empty at e = let split = pieces_split b s in let piece = unwrap_or-slice_get (pieces b s) k [] in grind (arith, common_steps)
