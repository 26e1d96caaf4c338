-- A names line and four numbers, in the parts that are written one by one. Assumes nothing.
use Rattle.std.proofs.Common.{◌≡◌, ℕ, ◌+◌, List, [], ◌∷◌, ◌++◌, length, get_or, decimal, sym, refl, ap, ◌∙◌, arith, drop-cons}
use Rattle.std.proofs.lemmas.List.{drop_all, append_assoc, length-append}
use Rattle.report.specs.Texts.{row_text}

-- a list of four is its four elements
four : (ns : List ℕ) → length ns ≡ 4 → ns ≡ get_or ns 0 0 ∷ (get_or ns 1 0 ∷ (get_or ns 2 0 ∷ (get_or ns 3 0 ∷ [])))
four ns h =
    drop-cons ns 0 0 (omega arith)
    ∙ ap (λ xs. get_or ns 0 0 ∷ xs) (drop-cons ns 1 0 (omega arith)
    ∙ ap (λ xs. get_or ns 1 0 ∷ xs) (drop-cons ns 2 0 (omega arith)
    ∙ ap (λ xs. get_or ns 2 0 ∷ xs) (drop-cons ns 3 0 (omega arith)
    ∙ ap (λ xs. get_or ns 3 0 ∷ xs) (drop_all 4 ns (omega arith)))))

-- a number and the byte after it
abbrev pub field : ℕ → ℕ → List ℕ
field n mark = decimal n ++ (mark ∷ [])

-- the text as it is written
pub row_parts : (names ns : List ℕ) → length ns ≡ 4
    → (((names ++ field (get_or ns 0 0) 44) ++ field (get_or ns 1 0) 44) ++ field (get_or ns 2 0) 44) ++ field (get_or ns 3 0) 10 ≡ row_text names ns
row_parts names ns h =
    by (get_or ns 0 0) (get_or ns 1 0) (get_or ns 2 0) (get_or ns 3 0) ∙ ap (row_text names) (sym (four ns h))
  where
    by : (a b c d : ℕ) → (((names ++ field a 44) ++ field b 44) ++ field c 44) ++ field d 10 ≡ row_text names (a ∷ (b ∷ (c ∷ (d ∷ []))))
    by a b c d = simp append_assoc refl

-- how many bytes that makes
pub row_length : (names ns : List ℕ) → length ns ≡ 4
    → length (row_text names ns) ≡ length names + length (decimal (get_or ns 0 0)) + length (decimal (get_or ns 1 0)) + length (decimal (get_or ns 2 0)) + length (decimal (get_or ns 3 0)) + 4
row_length names ns h = sym (ap length (row_parts names ns h)) ∙ simp length-append (omega arith)
